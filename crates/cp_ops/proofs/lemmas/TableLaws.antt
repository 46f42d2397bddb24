-- A declaration keeps a table a table.
use Rattle.std.proofs.Common.{◌≡◌, ℕ, ◌≤◌, Bool, true, false, cond, ◌&&◌, ◌||◌, not, List, [], ◌∷◌, refl, sym, ◌∙◌, ap, subst, Some, None}
use Rattle.std.specs.Prelude.{Option, if◌then◌else◌, nat_lt, nat_le, codes, is_some, Result, Ok, Err, OnOk, OnErr}
use Rattle.std.specs.List.{list_all}
use Rattle.std.specs.Str.{bytes_eq}
use Rattle.std.proofs.lemmas.Bool.{and_parts, and_from, false≢true, le-leb}
use Rattle.std.proofs.lemmas.Slice.Eq.{bytes_eq-Decides}
use Rattle.cp_ops.specs.declared.fix.Fix.{Fix}
use Rattle.cp_ops.specs.Table.{OpRow}
use Rattle.cp_ops.specs.Operators.{Ops, has_name, look_up, with_row, without_row, changed, is_prefix, is_fixed, has_priority, is_prefix_row, is_infix_row, is_map, IsTable}

with_row-all : (p : OpRow → Bool) (row : OpRow) (rows : List OpRow) → p row ≡ true → list_all p rows ≡ true → list_all p (with_row row rows) ≡ true
with_row-all p row [] h all = and_from (p row) true h refl
with_row-all p row (r ∷ rows) h all =
    let parts = and_parts (p r) (list_all p rows) all in
    elim (has_name (row.name) r) as (λ b. list_all p (cond b (row ∷ rows) (r ∷ with_row row rows)) ≡ true) [
      | true ↦ and_from (p row) (list_all p rows) h (parts.1)
      | false ↦ and_from (p r) (list_all p (with_row row rows)) (parts.0) (with_row-all p row rows h (parts.1))
    ]

without_row-all : (p : OpRow → Bool) (name : List ℕ) (rows : List OpRow) → list_all p rows ≡ true → list_all p (without_row name rows) ≡ true
without_row-all p name [] all = refl
without_row-all p name (r ∷ rows) all =
    let parts = and_parts (p r) (list_all p rows) all in
    elim (has_name name r) as (λ b. list_all p (cond b rows (r ∷ without_row name rows)) ≡ true) [
      | true ↦ parts.1
      | false ↦ and_from (p r) (list_all p (without_row name rows)) (parts.0) (without_row-all p name rows (parts.1))
    ]

changed-all : (p : OpRow → Bool) (row : OpRow) (rows : List OpRow) → (nat_lt 0 (row.priority) ≡ true → p row ≡ true) → list_all p rows ≡ true → list_all p (changed row rows) ≡ true
changed-all p row rows h all =
    elim (nat_lt 0 (row.priority)) as (λ b. nat_lt 0 (row.priority) ≡ b → list_all p (cond b (with_row row rows) (without_row (row.name) rows)) ≡ true) [
      | true ↦ λ e. with_row-all p row rows (h e) all
      | false ↦ λ e. without_row-all p (row.name) rows all
    ] refl

-- a name that is not the first of two that are the same is not the second
other : (a b c : List ℕ) → bytes_eq b c ≡ true → bytes_eq a b ≡ false → bytes_eq a c ≡ false
other a b c same no_other = subst (λ x. bytes_eq a x ≡ false) ((bytes_eq-Decides b c).0 same) no_other

with_row-other : (row : OpRow) (rows : List OpRow) (name : List ℕ) → bytes_eq name (row.name) ≡ false → look_up (with_row row rows) name ≡ look_up rows name
with_row-other row [] name h = rw h refl
with_row-other row (r ∷ rows) name h =
    elim (has_name (row.name) r) as (λ b. has_name (row.name) r ≡ b → look_up (cond b (row ∷ rows) (r ∷ with_row row rows)) name ≡ look_up (r ∷ rows) name) [
      | true ↦ λ e. rw (h, other name (row.name) (r.name) e h) refl
      | false ↦ λ e. ap (λ o. cond (has_name name r) (Some (r.priority, r.fix)) o) (with_row-other row rows name h)
    ] refl

without_row-other : (row : List ℕ) (rows : List OpRow) (name : List ℕ) → bytes_eq name row ≡ false → look_up (without_row row rows) name ≡ look_up rows name
without_row-other row [] name h = refl
without_row-other row (r ∷ rows) name h =
    elim (has_name row r) as (λ b. has_name row r ≡ b → look_up (cond b rows (r ∷ without_row row rows)) name ≡ look_up (r ∷ rows) name) [
      | true ↦ λ e. rw (other name row (r.name) e h) refl
      | false ↦ λ e. ap (λ o. cond (has_name name r) (Some (r.priority, r.fix)) o) (without_row-other row rows name h)
    ] refl

-- a declaration changes the look-up of no other name
pub changed-other : (row : OpRow) (rows : List OpRow) (name : List ℕ) → bytes_eq name (row.name) ≡ false → look_up (changed row rows) name ≡ look_up rows name
changed-other row rows name h =
    elim (nat_lt 0 (row.priority)) as (λ b. look_up (cond b (with_row row rows) (without_row (row.name) rows)) name ≡ look_up rows name) [
      | true ↦ with_row-other row rows name h
      | false ↦ without_row-other (row.name) rows name h
    ]

-- ---- no name twice

pub differs : (a b : List ℕ) → bytes_eq a b ≡ false → bytes_eq b a ≡ false
differs a b h =
    elim (bytes_eq b a) as (λ t. bytes_eq b a ≡ t → t ≡ false) [
      | true ↦ λ e. absurd (false≢true (sym h ∙ (bytes_eq-Decides a b).1 (sym ((bytes_eq-Decides b a).0 e))))
      | false ↦ λ e. refl
    ] refl

itself : (a : List ℕ) → bytes_eq a a ≡ true
itself a = (bytes_eq-Decides a a).1 refl

none_of : (o : Option (ℕ × Fix)) → not (is_some o) ≡ true → o ≡ None
none_of None h = refl
none_of (Some x) h = absurd (false≢true h)

-- where no row follows of the name of a row, none follows of a name that is the same
none_behind : (name : List ℕ) (r : OpRow) (rows : List OpRow) → has_name name r ≡ true → not (is_some (look_up rows (r.name))) ≡ true → look_up rows name ≡ None
none_behind name r rows same h = subst (λ n. look_up rows n ≡ None) (sym ((bytes_eq-Decides name (r.name)).0 same)) (none_of (look_up rows (r.name)) h)

with_row-map : (row : OpRow) (rows : List OpRow) → is_map rows ≡ true → is_map (with_row row rows) ≡ true
with_row-map row [] h = refl
with_row-map row (r ∷ rows) h =
    let parts = and_parts (not (is_some (look_up rows (r.name)))) (is_map rows) h in
    elim (has_name (row.name) r) as (λ b. has_name (row.name) r ≡ b → is_map (cond b (row ∷ rows) (r ∷ with_row row rows)) ≡ true) [
      | true ↦ λ e. and_from (not (is_some (look_up rows (row.name)))) (is_map rows) (ap (λ o. not (is_some o)) (none_behind (row.name) r rows e (parts.0))) (parts.1)
      | false ↦ λ e. and_from (not (is_some (look_up (with_row row rows) (r.name)))) (is_map (with_row row rows))
          (ap (λ o. not (is_some o)) (with_row-other row rows (r.name) (differs (row.name) (r.name) e)) ∙ parts.0) (with_row-map row rows (parts.1))
    ] refl

without_row-map : (name : List ℕ) (rows : List OpRow) → is_map rows ≡ true → is_map (without_row name rows) ≡ true
without_row-map name [] h = refl
without_row-map name (r ∷ rows) h =
    let parts = and_parts (not (is_some (look_up rows (r.name)))) (is_map rows) h in
    elim (has_name name r) as (λ b. has_name name r ≡ b → is_map (cond b rows (r ∷ without_row name rows)) ≡ true) [
      | true ↦ λ e. parts.1
      | false ↦ λ e. and_from (not (is_some (look_up (without_row name rows) (r.name)))) (is_map (without_row name rows))
          (ap (λ o. not (is_some o)) (without_row-other name rows (r.name) (differs name (r.name) e)) ∙ parts.0) (without_row-map name rows (parts.1))
    ] refl

changed-map : (row : OpRow) (rows : List OpRow) → is_map rows ≡ true → is_map (changed row rows) ≡ true
changed-map row rows h =
    elim (nat_lt 0 (row.priority)) as (λ b. is_map (cond b (with_row row rows) (without_row (row.name) rows)) ≡ true) [
      | true ↦ with_row-map row rows h
      | false ↦ without_row-map (row.name) rows h
    ]

-- what a declaration makes of the look-up of its name
pub with_row-same : (row : OpRow) (rows : List OpRow) → look_up (with_row row rows) (row.name) ≡ Some (row.priority, row.fix)
with_row-same row [] = rw (itself (row.name)) refl
with_row-same row (r ∷ rows) =
    elim (has_name (row.name) r) as (λ b. has_name (row.name) r ≡ b → look_up (cond b (row ∷ rows) (r ∷ with_row row rows)) (row.name) ≡ Some (row.priority, row.fix)) [
      | true ↦ λ e. rw (itself (row.name)) refl
      | false ↦ λ e. rw e (with_row-same row rows)
    ] refl

pub without_row-same : (name : List ℕ) (rows : List OpRow) → is_map rows ≡ true → look_up (without_row name rows) name ≡ None
without_row-same name [] h = refl
without_row-same name (r ∷ rows) h =
    let parts = and_parts (not (is_some (look_up rows (r.name)))) (is_map rows) h in
    elim (has_name name r) as (λ b. has_name name r ≡ b → look_up (cond b rows (r ∷ without_row name rows)) name ≡ None) [
      | true ↦ λ e. none_behind name r rows e (parts.0)
      | false ↦ λ e. rw e (without_row-same name rows (parts.1))
    ] refl

pub changed-same : (row : OpRow) (rows : List OpRow) → is_map rows ≡ true → look_up (changed row rows) row.name ≡ (if nat_lt 0 row.priority then Some (row.priority, row.fix) else None)
changed-same row rows h =
    elim (nat_lt 0 row.priority) as (λ b. look_up (cond b (with_row row rows) (without_row row.name rows)) row.name ≡ cond b (Some (row.priority, row.fix)) None) [
      | true ↦ with_row-same row rows
      | false ↦ without_row-same row.name rows h
    ]

or_first : (a b : Bool) → (a || b) ≡ false → a ≡ false
or_first true b h = h
or_first false b h = refl

-- the comma is fixed
not_comma : (name : List ℕ) → is_fixed name ≡ false → bytes_eq name (codes ",") ≡ false
not_comma name h =
    or_first (bytes_eq name (codes ",")) (bytes_eq name (codes "|")) (or_first (bytes_eq name (codes ",") || bytes_eq name (codes "|")) (bytes_eq name (codes "[]"))
    (or_first (bytes_eq name (codes ",") || bytes_eq name (codes "|") || bytes_eq name (codes "[]")) (bytes_eq name (codes "{}")) h))

module _ (ops : Ops) (row : OpRow) (table : IsTable ops) (free : is_fixed (row.name) ≡ false) (low : nat_le (row.priority) 1200 ≡ true) where
  priority : nat_lt 0 (row.priority) ≡ true → has_priority row ≡ true
  priority h = and_from (nat_lt 0 (row.priority)) (nat_le (row.priority) 1200) h low

  pub prefix_kept : is_prefix (row.fix) ≡ true → IsTable (record ops { prefixes = changed row (ops.prefixes) })
  prefix_kept fix = record {
    one_prefix = changed-map row (ops.prefixes) (table.one_prefix);
    one_infix = table.one_infix;
    prefixes = changed-all is_prefix_row row (ops.prefixes) (λ h. and_from (has_priority row && is_prefix (row.fix)) (not (is_fixed (row.name))) (and_from (has_priority row) (is_prefix (row.fix)) (priority h) fix) (ap not free)) (table.prefixes);
    infixes = table.infixes;
    comma = table.comma;
  }

  pub infix_kept : is_prefix (row.fix) ≡ false → IsTable (record ops { infixes = changed row (ops.infixes) })
  infix_kept fix = record {
    one_prefix = table.one_prefix;
    one_infix = changed-map row (ops.infixes) (table.one_infix);
    prefixes = table.prefixes;
    infixes = changed-all is_infix_row row (ops.infixes) (λ h. and_from (has_priority row && not (is_prefix (row.fix))) (not (is_fixed (row.name)) || bytes_eq (row.name) (codes ",")) (and_from (has_priority row) (not (is_prefix (row.fix))) (priority h) (ap not fix)) (ap (λ b. not b || bytes_eq (row.name) (codes ",")) free)) (table.infixes);
    comma = changed-other row (ops.infixes) (codes ",") (differs (row.name) (codes ",") (not_comma (row.name) free)) ∙ table.comma;
  }

-- the same whether or not memory ran out
pub prefix_after : {T E : Type 0} (ops : Ops) (row : OpRow) (new : List OpRow) (r : Result T E) → IsTable ops → is_fixed (row.name) ≡ false → is_prefix (row.fix) ≡ true →
    OnOk r (new ≡ changed row (ops.prefixes)) → OnErr r (new ≡ ops.prefixes) → row.priority ≤ 1200 → IsTable (record { prefixes = new; infixes = ops.infixes })
prefix_after ops row new (Ok x) table free fix ok err low = subst (λ rows. IsTable (record { prefixes = rows; infixes = ops.infixes })) (sym ok) (prefix_kept ops row table free (le-leb (row.priority) 1200 low) fix)
prefix_after ops row new (Err e) table free fix ok err low = subst (λ rows. IsTable (record { prefixes = rows; infixes = ops.infixes })) (sym err) table

pub infix_after : {T E : Type 0} (ops : Ops) (row : OpRow) (new : List OpRow) (r : Result T E) → IsTable ops → is_fixed (row.name) ≡ false → is_prefix (row.fix) ≡ false →
    OnOk r (new ≡ changed row (ops.infixes)) → OnErr r (new ≡ ops.infixes) → row.priority ≤ 1200 → IsTable (record { prefixes = ops.prefixes; infixes = new })
infix_after ops row new (Ok x) table free fix ok err low = subst (λ rows. IsTable (record { prefixes = ops.prefixes; infixes = rows })) (sym ok) (infix_kept ops row table free (le-leb (row.priority) 1200 low) fix)
infix_after ops row new (Err e) table free fix ok err low = subst (λ rows. IsTable (record { prefixes = ops.prefixes; infixes = rows })) (sym err) table
