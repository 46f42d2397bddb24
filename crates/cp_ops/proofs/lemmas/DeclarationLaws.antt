-- What lists of declarations make of a table.
use Rattle.std.proofs.Common.{◌≡◌, ◌≢◌, ℕ, Bool, true, false, cond, ◌&&◌, not, List, [], ◌∷◌, refl, ◌∙◌, ap, subst, Some, None}
use Rattle.std.specs.Prelude.{Option, ℤ, pos, negsuc, nat_le, unwrap_or, Ok, Err, if◌then◌else◌}
use Rattle.std.specs.Option.{option_or}
use Rattle.std.specs.Str.{bytes_eq}
use Rattle.std.proofs.lemmas.Slice.Eq.{bytes_eq-Decides}
use Rattle.cp_ops.specs.declared.fix.Fix.{Fix}
use Rattle.cp_ops.specs.declared.table.OpError.TheVariants.{Clash}
use Rattle.cp_ops.specs.Table.{Ops, OpRow}
use Rattle.cp_ops.specs.Operators.{look_up, changed, with_operator, is_map, is_prefix, is_fixed, kind_of, priority_of, declared_as, declared_at, IsTable}
use Rattle.cp_ops.specs.Declarations.{Declaration, kept_at_refusal, after_one, after_all, is_infix, operator_of, said_by, said, last_said}
use Rattle.cp_ops.proofs.lemmas.TableLaws.{changed-other, changed-same, differs, prefix_kept, infix_kept}

chosen : {T : Type 0} (b : Bool) (x y : T) → cond b x y ≡ unwrap_or (if b then Some x else None) y
chosen true x y = refl
chosen false x y = refl

differing : (a b : List ℕ) → a ≢ b → bytes_eq a b ≡ false
differing a b h =
    elim (bytes_eq a b) as (λ t. bytes_eq a b ≡ t → t ≡ false) [
      | true ↦ λ e. absurd (h ((bytes_eq-Decides a b).0 e))
      | false ↦ λ e. refl
    ] refl

priority-within : (i : ℤ) (p : ℕ) → priority_of i ≡ Some p → nat_le p 1200 ≡ true
priority-within (pos n) p e =
    elim (nat_le n 1200) as (λ b. nat_le n 1200 ≡ b → (if b then Some n else None) ≡ Some p → nat_le p 1200 ≡ true) [
      | true ↦ λ h q. let same : n ≡ p = cc in subst (λ m. nat_le m 1200 ≡ true) same h
      | false ↦ λ h q. cc
    ] refl e
priority-within (negsuc n) p e = cc

-- ---- a declaration keeps the table

with_operator-IsTable : (ops : Ops) (row : OpRow) → IsTable ops → is_fixed row.name ≡ false → nat_le row.priority 1200 ≡ true → IsTable (with_operator ops row)
with_operator-IsTable ops row table free low =
    elim (is_prefix row.fix) as (λ b. is_prefix row.fix ≡ b → IsTable (cond b (record ops { prefixes = changed row ops.prefixes }) (record ops { infixes = changed row ops.infixes }))) [
      | true ↦ λ e. prefix_kept ops row table free low e
      | false ↦ λ e. infix_kept ops row table free low e
    ] refl

declared_as-IsTable : (ops : Ops) (name : List ℕ) (p : ℕ) (kind : Option Fix) → IsTable ops → nat_le p 1200 ≡ true → IsTable (kept_at_refusal ops (declared_as ops name p kind))
declared_as-IsTable ops name p None table low = table
declared_as-IsTable ops name p (Some fix) table low =
    let row : OpRow = record { name = name; priority = p; fix = fix } in
    elim (is_fixed name) as (λ b. is_fixed name ≡ b → IsTable (kept_at_refusal ops (if b then Err Clash else Ok (with_operator ops row)))) [
      | true ↦ λ e. table
      | false ↦ λ e. with_operator-IsTable ops row table e low
    ] refl

declared_at-IsTable : (ops : Ops) (kind name : List ℕ) (p : Option ℕ) → IsTable ops → ((n : ℕ) → p ≡ Some n → nat_le n 1200 ≡ true) → IsTable (kept_at_refusal ops (declared_at ops kind name p))
declared_at-IsTable ops kind name None table low = table
declared_at-IsTable ops kind name (Some p) table low = declared_as-IsTable ops name p (kind_of kind) table (low p refl)

pub after_one-IsTable : (ops : Ops) (d : Declaration) → IsTable ops → IsTable (after_one ops d)
after_one-IsTable ops d table = declared_at-IsTable ops d.kind d.name (priority_of d.priority) table (λ n e. priority-within d.priority n e)

pub after_all-IsTable : (ops : Ops) (ds : List Declaration) → IsTable ops → IsTable (after_all ops ds)
after_all-IsTable ops [] table = table
after_all-IsTable ops (d ∷ ds) table = after_all-IsTable (after_one ops d) ds (after_one-IsTable ops d table)

-- ---- what a declaration makes of a look-up

-- what a change makes of the look-up of any name
changed-look_up : (row : OpRow) (rows : List OpRow) (name : List ℕ) → is_map rows ≡ true → look_up (changed row rows) name ≡ cond (bytes_eq row.name name) (operator_of row.priority row.fix) (look_up rows name)
changed-look_up row rows name map =
    elim (bytes_eq row.name name) as (λ b. bytes_eq row.name name ≡ b → look_up (changed row rows) name ≡ cond b (operator_of row.priority row.fix) (look_up rows name)) [
      | true ↦ λ e. subst (λ n. look_up (changed row rows) n ≡ operator_of row.priority row.fix) ((bytes_eq-Decides row.name name).0 e) (changed-same row rows map)
      | false ↦ λ e. changed-other row rows name (differs row.name name e)
    ] refl

as-prefix : (ops : Ops) (name declared : List ℕ) (p : ℕ) (fix : Fix) → IsTable ops
    → look_up (kept_at_refusal ops (declared_as ops declared p (Some fix))).prefixes name ≡ unwrap_or (said_by is_prefix name declared (Some p) (Some fix)) (look_up ops.prefixes name)
as-prefix ops name declared p fix table =
    let row : OpRow = record { name = declared; priority = p; fix = fix } in
    elim (is_fixed declared) as (λ f. look_up (kept_at_refusal ops (if f then Err Clash else Ok (with_operator ops row))).prefixes name
    ≡ unwrap_or (if is_prefix fix && not f && bytes_eq declared name then Some (operator_of p fix) else None) (look_up ops.prefixes name)) [
      | true ↦ elim (is_prefix fix) as (λ a. look_up ops.prefixes name ≡ unwrap_or (if a && false && bytes_eq declared name then Some (operator_of p fix) else None) (look_up ops.prefixes name)) [ true ↦ refl | false ↦ refl ]
      | false ↦ elim (is_prefix fix) as (λ a. look_up (cond a (record ops { prefixes = changed row ops.prefixes }) (record ops { infixes = changed row ops.infixes })).prefixes name
          ≡ unwrap_or (if a && true && bytes_eq declared name then Some (operator_of p fix) else None) (look_up ops.prefixes name)) [
            | true ↦ changed-look_up row ops.prefixes name table.one_prefix ∙ chosen (bytes_eq declared name) (operator_of p fix) (look_up ops.prefixes name)
            | false ↦ refl
          ]
    ]

as-infix : (ops : Ops) (name declared : List ℕ) (p : ℕ) (fix : Fix) → IsTable ops
    → look_up (kept_at_refusal ops (declared_as ops declared p (Some fix))).infixes name ≡ unwrap_or (said_by is_infix name declared (Some p) (Some fix)) (look_up ops.infixes name)
as-infix ops name declared p fix table =
    let row : OpRow = record { name = declared; priority = p; fix = fix } in
    elim (is_fixed declared) as (λ f. look_up (kept_at_refusal ops (if f then Err Clash else Ok (with_operator ops row))).infixes name
    ≡ unwrap_or (if not (is_prefix fix) && not f && bytes_eq declared name then Some (operator_of p fix) else None) (look_up ops.infixes name)) [
      | true ↦ elim (is_prefix fix) as (λ a. look_up ops.infixes name ≡ unwrap_or (if not a && false && bytes_eq declared name then Some (operator_of p fix) else None) (look_up ops.infixes name)) [ true ↦ refl | false ↦ refl ]
      | false ↦ elim (is_prefix fix) as (λ a. look_up (cond a (record ops { prefixes = changed row ops.prefixes }) (record ops { infixes = changed row ops.infixes })).infixes name
          ≡ unwrap_or (if not a && true && bytes_eq declared name then Some (operator_of p fix) else None) (look_up ops.infixes name)) [
            | true ↦ refl
            | false ↦ changed-look_up row ops.infixes name table.one_infix ∙ chosen (bytes_eq declared name) (operator_of p fix) (look_up ops.infixes name)
          ]
    ]

at-prefix : (ops : Ops) (name declared kind : List ℕ) (p : Option ℕ) → IsTable ops
    → look_up (kept_at_refusal ops (declared_at ops kind declared p)).prefixes name ≡ unwrap_or (said_by is_prefix name declared p (kind_of kind)) (look_up ops.prefixes name)
at-prefix ops name declared kind None table = refl
at-prefix ops name declared kind (Some p) table =
    elim (kind_of kind) as (λ k. look_up (kept_at_refusal ops (declared_as ops declared p k)).prefixes name ≡ unwrap_or (said_by is_prefix name declared (Some p) k) (look_up ops.prefixes name)) [
      | None ↦ refl
      | Some fix ↦ as-prefix ops name declared p fix table
    ]

at-infix : (ops : Ops) (name declared kind : List ℕ) (p : Option ℕ) → IsTable ops
    → look_up (kept_at_refusal ops (declared_at ops kind declared p)).infixes name ≡ unwrap_or (said_by is_infix name declared p (kind_of kind)) (look_up ops.infixes name)
at-infix ops name declared kind None table = refl
at-infix ops name declared kind (Some p) table =
    elim (kind_of kind) as (λ k. look_up (kept_at_refusal ops (declared_as ops declared p k)).infixes name ≡ unwrap_or (said_by is_infix name declared (Some p) k) (look_up ops.infixes name)) [
      | None ↦ refl
      | Some fix ↦ as-infix ops name declared p fix table
    ]

pub after_one-prefix : (ops : Ops) (d : Declaration) (name : List ℕ) → IsTable ops → look_up (after_one ops d).prefixes name ≡ unwrap_or (said is_prefix name d) (look_up ops.prefixes name)
after_one-prefix ops d name table = at-prefix ops name d.name d.kind (priority_of d.priority) table

pub after_one-infix : (ops : Ops) (d : Declaration) (name : List ℕ) → IsTable ops → look_up (after_one ops d).infixes name ≡ unwrap_or (said is_infix name d) (look_up ops.infixes name)
after_one-infix ops d name table = at-infix ops name d.name d.kind (priority_of d.priority) table

-- ---- the last declaration counts

either : {T : Type 0} (o p : Option T) (d : T) → unwrap_or o (unwrap_or p d) ≡ unwrap_or (option_or o p) d
either None p d = refl
either (Some x) p d = refl

pub after_all-prefix : (ops : Ops) (ds : List Declaration) (name : List ℕ) → IsTable ops → look_up (after_all ops ds).prefixes name ≡ unwrap_or (last_said is_prefix name ds) (look_up ops.prefixes name)
after_all-prefix ops [] name table = refl
after_all-prefix ops (d ∷ ds) name table =
    after_all-prefix (after_one ops d) ds name (after_one-IsTable ops d table)
    ∙ (ap (λ o. unwrap_or (last_said is_prefix name ds) o) (after_one-prefix ops d name table)
    ∙ either (last_said is_prefix name ds) (said is_prefix name d) (look_up ops.prefixes name))

pub after_all-infix : (ops : Ops) (ds : List Declaration) (name : List ℕ) → IsTable ops → look_up (after_all ops ds).infixes name ≡ unwrap_or (last_said is_infix name ds) (look_up ops.infixes name)
after_all-infix ops [] name table = refl
after_all-infix ops (d ∷ ds) name table =
    after_all-infix (after_one ops d) ds name (after_one-IsTable ops d table)
    ∙ (ap (λ o. unwrap_or (last_said is_infix name ds) o) (after_one-infix ops d name table)
    ∙ either (last_said is_infix name ds) (said is_infix name d) (look_up ops.infixes name))

-- ---- other names

not_said : (side : Fix → Bool) (name declared : List ℕ) (p : Option ℕ) (kind : Option Fix) → bytes_eq declared name ≡ false → said_by side name declared p kind ≡ None
not_said side name declared None kind h = refl
not_said side name declared (Some p) None h = refl
not_said side name declared (Some p) (Some fix) h =
    ap (λ e. if side fix && not (is_fixed declared) && e then Some (operator_of p fix) else None) h
    ∙ elim (side fix) as (λ a. (if a && not (is_fixed declared) && false then Some (operator_of p fix) else None) ≡ None) [
      | true ↦ elim (is_fixed declared) as (λ f. (if true && not f && false then Some (operator_of p fix) else None) ≡ None) [ true ↦ refl | false ↦ refl ]
      | false ↦ refl
    ]

pub after_one-other_prefix : (ops : Ops) (d : Declaration) (name : List ℕ) → IsTable ops → d.name ≢ name → look_up (after_one ops d).prefixes name ≡ look_up ops.prefixes name
after_one-other_prefix ops d name table h =
    after_one-prefix ops d name table ∙ ap (λ o. unwrap_or o (look_up ops.prefixes name)) (not_said is_prefix name d.name (priority_of d.priority) (kind_of d.kind) (differing d.name name h))

pub after_one-other_infix : (ops : Ops) (d : Declaration) (name : List ℕ) → IsTable ops → d.name ≢ name → look_up (after_one ops d).infixes name ≡ look_up ops.infixes name
after_one-other_infix ops d name table h =
    after_one-infix ops d name table ∙ ap (λ o. unwrap_or o (look_up ops.infixes name)) (not_said is_infix name d.name (priority_of d.priority) (kind_of d.kind) (differing d.name name h))
