-- The files that are known grow by what a file imports, and each stands there once.
use Rattle.std.proofs.Common.{◌≡◌, ℕ, zero, suc, ◌+◌, ◌≤◌, refl, sym, ap, ◌∙◌, subst, Bool, true, false, Option, Some, List, [], ◌∷◌, ◌++◌, length, take, length-append, append-nil, append_assoc, arith}
use Rattle.std.specs.Prelude.{◌||◌, cond, slice_get}
use Rattle.std.specs.Str.{bytes_eq}
use Rattle.std.proofs.lemmas.Slice.Eq.{bytes_eq-Decides}
use Rattle.cp_read.specs.declared.clause.ReadClause.{ReadClause}
use Rattle.cp_declaration.specs.declared.declaration.Declaration.{Declaration}
use Rattle.cp_declaration.specs.declared.declaration.Declaration.TheVariants as declares
use Rattle.cp_module.specs.Paths.{imported_file}
use Rattle.cp_link.specs.Modules.{said}
use Rattle.cp_load.specs.Gathering.{is_known, known_by, known_after}
use Rattle.cp_load.specs.Reached.{AreDistinct}

pub same : (a : List ℕ) → bytes_eq a a ≡ true
same a = (bytes_eq-Decides a a).1 refl

pub turned : (a b : List ℕ) (r : Bool) → bytes_eq a b ≡ false → bytes_eq b a ≡ r → bytes_eq b a ≡ false
turned a b false h e = e
turned a b true h e =
    let s : b ≡ a = (bytes_eq-Decides b a).0 e in
    let t : bytes_eq a b ≡ true = (bytes_eq-Decides a b).1 (sym s) in
    cc

pub neither : (a b : Bool) → (a || b) ≡ false → (a ≡ false) × (b ≡ false)
neither false b h = (refl, h)
neither true b h = cc

-- ---- places

known_at : (files : List (List ℕ)) (k : ℕ) (f file : List ℕ) → is_known files f ≡ false → slice_get files k ≡ Some file → bytes_eq f file ≡ false
known_at [] k f file h s = cc
known_at (g ∷ files) zero f file h s =
    let e : g ≡ file = cc in
    subst (λ x. bytes_eq f x ≡ false) e (neither (bytes_eq f g) (is_known files f) h).0
known_at (g ∷ files) (suc k) f file h s = known_at files k f file (neither (bytes_eq f g) (is_known files f) h).1 s

-- the file at a place is none of those before it
pub not_before : (files : List (List ℕ)) (k : ℕ) (file : List ℕ) → AreDistinct files → slice_get files k ≡ Some file → is_known (take k files) file ≡ false
not_before [] k file d s = cc
not_before (f ∷ files) zero file d s = refl
not_before (f ∷ files) (suc k) file d s =
    let other : bytes_eq file f ≡ false = turned f file (bytes_eq file f) (known_at files k f file d.0 s) refl in
    ap (λ b. b || is_known (take k files) file) other ∙ not_before files k file d.1 s

-- ---- one file more

unknown_behind : (files : List (List ℕ)) (f g : List ℕ) → is_known files f ≡ false → bytes_eq f g ≡ false → is_known (files ++ g ∷ []) f ≡ false
unknown_behind [] f g h e = ap (λ b. b || false) e
unknown_behind (x ∷ files) f g h e =
    let parts = neither (bytes_eq f x) (is_known files f) h in
    ap (λ b. b || is_known (files ++ g ∷ []) f) parts.0 ∙ unknown_behind files f g parts.1 e

distinct_more : (files : List (List ℕ)) (g : List ℕ) → AreDistinct files → is_known files g ≡ false → AreDistinct (files ++ g ∷ [])
distinct_more [] g d h = (refl, tt)
distinct_more (f ∷ files) g d h =
    let parts = neither (bytes_eq g f) (is_known files g) h in
    (unknown_behind files f g d.0 (turned g f (bytes_eq f g) parts.0 refl), distinct_more files g d.1 parts.1)

-- the files have grown to these
pub record HasGrown (files now : List (List ℕ)) : Type 0 where
  pub more : List (List ℕ)
  pub is_now : now ≡ files ++ more
  pub distinct : AreDistinct files → AreDistinct now

same_files : (files : List (List ℕ)) → HasGrown files files
same_files files = record { more = []; is_now = sym (append-nil files); distinct = λ d. d }

one_grows : (files : List (List ℕ)) (g : List ℕ) (b : Bool) → is_known files g ≡ b → HasGrown files (cond b files (files ++ g ∷ []))
one_grows files g true e = same_files files
one_grows files g false e = record { more = g ∷ []; is_now = refl; distinct = λ d. distinct_more files g d e }

by_grows : (files : List (List ℕ)) (file : List ℕ) (d : Option Declaration) → HasGrown files (known_by files file d)
by_grows files file (Some (declares.UseModule name imports)) = one_grows files (imported_file file name) (is_known files (imported_file file name)) refl
by_grows files file other = same_files files

on : {a b c : List (List ℕ)} → HasGrown a b → HasGrown b c → HasGrown a c
on {a} {b} {c} p q = record {
  more = p.more ++ q.more;
  is_now = q.is_now ∙ ap (λ x. x ++ q.more) p.is_now ∙ append_assoc a p.more q.more;
  distinct = λ d. q.distinct (p.distinct d);
}

pub after_grows : (files : List (List ℕ)) (file : List ℕ) (clauses : List ReadClause) → HasGrown files (known_after files file clauses)
after_grows files file [] = same_files files
after_grows files file (c ∷ clauses) = on (by_grows files file (said c)) (after_grows (known_by files file (said c)) file clauses)

-- as many as before at least
pub grown_length : (files now : List (List ℕ)) → HasGrown files now → length files ≤ length now
grown_length files now g =
    let e : length now ≡ length files + length g.more = ap length g.is_now ∙ length-append files g.more in
    omega arith

pub by_length : (files : List (List ℕ)) (file : List ℕ) (d : Option Declaration) → length files ≤ length (known_by files file d)
by_length files file d = grown_length files (known_by files file d) (by_grows files file d)
