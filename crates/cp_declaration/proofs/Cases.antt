-- What is known of the parts of what was read.
use Rattle.std.proofs.Common.{◌≡◌, Bool, true, false, ◌&&◌, nat_eq, nat_lt, List, [], ◌∷◌, refl, ◌∙◌, ap, subst, if◌then◌else◌}
use Rattle.std.specs.Prelude.{ℕ, zero, suc, Option, Some, None, codes, pos}
use Rattle.std.specs.Str.{bytes_eq}
use Rattle.std.proofs.lemmas.Bool.{false≢true, and_parts, ltb-true}
use Rattle.std.proofs.lemmas.Bool.Decides.{Decides-eqb}
use Rattle.std.proofs.lemmas.Slice.Eq.{bytes_eq-Decides}
use Rattle.cp_term.specs.declared.cell.Cell.{Cell}
use Rattle.cp_term.specs.declared.cell.Cell.TheVariants.{Var, Int, Atom, Func}
use Rattle.cp_declaration.specs.declared.indicator.Indicator.{Indicator}
use Rattle.cp_declaration.specs.Words.{is}
use Rattle.cp_declaration.specs.Lists.{before, at_end, is_dot, is_comma, indicator, name}
use Rattle.cp_declaration.specs.Grammar.{indicator_cells, name_cells, list_cells, HasArity}

pub if-some : {X : Type 0} (b : Bool) (m : Option X) (x : X) → (if b then m else None) ≡ Some x → (b ≡ true) × (m ≡ Some x)
if-some true m x h = (refl, h)
if-some false m x h = cc

pub before-some : {X : Type 0} (i : Option X) (m : Option (List X)) (ys : List X) → before i m ≡ Some ys → (x : X) × (xs : List X) × (i ≡ Some x) × (m ≡ Some xs) × (x ∷ xs ≡ ys)
before-some (Some x) (Some xs) ys h = (x, xs, refl, refl, cc)
before-some (Some x) None ys h = cc
before-some None m ys h = cc

functor-is : (f g : List ℕ) (k : ℕ) → (bytes_eq f g && nat_eq k 2) ≡ true → Func f k ≡ Func g 2
functor-is f g k h =
    let parts = and_parts (bytes_eq f g) (nat_eq k 2) h in
    λ i. Func ((bytes_eq-Decides f g).0 parts.0 i) ((Decides-eqb k 2).0 parts.1 i)

pub is_dot-true : (c : Cell) → is_dot c ≡ true → c ≡ Func (codes ".") 2
is_dot-true (Func f k) h = functor-is f (codes ".") k h
is_dot-true (Var v) h = absurd (false≢true h)
is_dot-true (Int i) h = absurd (false≢true h)
is_dot-true (Atom a) h = absurd (false≢true h)

pub is_comma-true : (c : Cell) → is_comma c ≡ true → c ≡ Func (codes ",") 2
is_comma-true (Func f k) h = functor-is f (codes ",") k h
is_comma-true (Var v) h = absurd (false≢true h)
is_comma-true (Int i) h = absurd (false≢true h)
is_comma-true (Atom a) h = absurd (false≢true h)

pub indicator-some : (c d e : Cell) (p : Indicator) → indicator c d e ≡ Some p → HasArity p × (c ∷ d ∷ e ∷ [] ≡ indicator_cells p)
indicator-some (Func f (suc (suc zero))) (Atom a) (Int (pos n)) p h =
    let here : Indicator = record { name = a; arity = n } in
    let parts = if-some (is f "/" && nat_lt n 256) (Some here) p h in
    let tests = and_parts (is f "/") (nat_lt n 256) parts.0 in
    let same : here ≡ p = cc in (
      subst HasArity same (ltb-true n 256 tests.1),
      ap (λ g. Func g 2 ∷ Atom a ∷ Int (pos n) ∷ []) ((bytes_eq-Decides f (codes "/")).0 tests.0) ∙ ap indicator_cells same,
    )
indicator-some c d e p h = cc

pub name-some : (c : Cell) (a : List ℕ) → name c ≡ Some a → c ∷ [] ≡ name_cells a
name-some (Atom b) a h = cc
name-some c a h = cc

pub at_end-some : {X : Type 0} (cells : List Cell) (xs : List X) → at_end cells ≡ Some xs → ([] ≡ xs) × (cells ≡ list_cells [])
at_end-some (Atom a ∷ []) xs h =
    let parts = if-some (is a "[]") (Some []) xs h in (cc, ap (λ b. Atom b ∷ []) ((bytes_eq-Decides a (codes "[]")).0 parts.0))
at_end-some cells xs h = cc
