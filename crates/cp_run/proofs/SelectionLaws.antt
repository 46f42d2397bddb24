-- The first argument of a goal and that of a head.
use Rattle.std.proofs.Common.{◌≡◌, ℕ, zero, suc, ◌+◌, Bool, true, false, Some, None, List, [], ◌∷◌, sym, ◌∙◌, ap}
use Rattle.std.specs.Prelude.{slice_get}
use Rattle.cp_term.specs.declared.cell.Cell.{Cell}
use Rattle.cp_term.specs.declared.cell.Cell.TheVariants.{Var, Int, Atom, Func}
use Rattle.cp_term.specs.Preorder.{is_terms, take_terms, split_terms, terms_after, arguments}
use Rattle.cp_code.specs.Clauses.{first_argument, may_unify, can_match}

first_taken : (n : ℕ) (cells x : List Cell) → slice_get (split_terms n cells) 0 ≡ Some x → take_terms 1 cells ≡ x
first_taken zero cells x at = let none : None ≡ Some x = at in absurd (cc)
first_taken (suc n) cells x at = let is : Some (take_terms 1 cells) ≡ Some x = at in cc

-- what is known of the first cell of the first argument is known of the arguments that are compared
pub first_compared : (cells x : List Cell) (own : Cell) (b : Bool) → slice_get (arguments cells) 0 ≡ Some x → is_terms 1 x ≡ true
    → ((c : Cell) (rest : List Cell) → x ≡ c ∷ rest → b ≡ may_unify c own) → b ≡ false → can_match (first_argument cells) (Some own) ≡ false
first_compared [] x own b at one says refused = let none : None ≡ Some x = at in absurd (cc)
first_compared (Var v ∷ cells) x own b at one says refused = let none : None ≡ Some x = at in absurd (cc)
first_compared (Int i ∷ cells) x own b at one says refused = let none : None ≡ Some x = at in absurd (cc)
first_compared (Atom a ∷ cells) x own b at one says refused = let none : None ≡ Some x = at in absurd (cc)
first_compared (Func f k ∷ []) x own b at one says refused =
    let empty : take_terms 1 [] ≡ x = first_taken (k + 0) [] x at in
    let lost : false ≡ true = ap (is_terms 1) empty ∙ one in absurd (cc)
first_compared (Func f k ∷ d ∷ ds) x own b at one says refused =
    let taken : take_terms 1 (d ∷ ds) ≡ x = first_taken (k + 0) (d ∷ ds) x at in
    sym (says d (take_terms (terms_after d 0) ds) (sym taken)) ∙ refused
