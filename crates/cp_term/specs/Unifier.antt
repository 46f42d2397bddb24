-- What a unifier is, apart from how unification finds one (ISO/IEC 13211-1, 7.3.2; Robinson 1965).
use Rattle.std.specs.Prelude.{◌≡◌, ℕ, true, List}
use Rattle.cp_term.specs.declared.cell.Cell.{Cell}
use Rattle.cp_term.specs.Preorder.{is_terms}
use Rattle.cp_term.specs.Substitution.{Substitution, instance, apply}

-- each variable is given a term
abbrev pub GivesTerms : (ℕ → List Cell) → Type 0
GivesTerms value = (v : ℕ) → is_terms 1 (value v) ≡ true

-- the terms that it gives for the variables make the two the same
pub record IsUnifier (a b : List Cell) (value : ℕ → List Cell) : Type 0 where
  pub terms : GivesTerms value
  pub equal : instance value a ≡ instance value b

abbrev pub HasUnifier : List Cell → List Cell → Type 0
HasUnifier a b = (value : ℕ → List Cell) × IsUnifier a b value

-- A most general unifier makes the two the same, and every unifier is an instance of it: to apply it first changes
-- nothing of what that unifier makes.
pub record IsMostGeneral (a b : List Cell) (s : Substitution) : Type 0 where
  pub equal : apply s a ≡ apply s b
  pub general : (value : ℕ → List Cell) → IsUnifier a b value → (cells : List Cell) → instance value (apply s cells) ≡ instance value cells
