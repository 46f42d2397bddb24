-- Kinds of errors as terms of the heap.
use Rattle.std.proofs.Common.{◌≡◌, ℕ, ◌<◌, true, List, length, ◌∙◌, ap}
use Rattle.std.specs.Prelude.{Result, IfOk}
use Rattle.std.proofs.lemmas.Result.{IfOk-weaker}
use Rattle.cp_term.specs.declared.cell.Cell.{Cell}
use Rattle.cp_heap.specs.declared.reference.Ref.{Ref}
use Rattle.cp_heap.specs.State.{State, term, substitution, instance_at, is_ground, Extends}
use Rattle.cp_term.specs.Substitution.{apply}
use Rattle.cp_goal.specs.Errors.{word, with_one, with_two}
use Rattle.cp_builtin.proofs.ClosedLaws.{apply-closed}
use Rattle.cp_builtin.proofs.KindLaws.{kind_of_one, kind_of_two}

-- a term without variables is its own instance
pub closed-instance : (h : State) (at : ℕ) (cells : List Cell) → is_ground cells ≡ true → term h at ≡ cells → instance_at h at ≡ cells
closed-instance h at cells ground here = ap (apply (substitution h)) here ∙ apply-closed (substitution h) cells ground

module _ {E : Type 0} (new : State) (r : Result Ref E) where
  pub closed-told : (cells : List Cell) → is_ground cells ≡ true → IfOk r (λ x. term new x.at ≡ cells) → IfOk r (λ x. instance_at new x.at ≡ cells)
  closed-told cells ground made = IfOk-weaker r (λ x. term new x.at ≡ cells) (λ x. instance_at new x.at ≡ cells) (λ x here. closed-instance new x.at cells ground here) made

  module _ (old mid : State) (name text : List ℕ) (w : ℕ) (here : term mid w ≡ word text) (bindings : substitution new ≡ substitution mid) where
    pub word-told : IfOk r (λ x. term new x.at ≡ with_one name (term mid w)) → IfOk r (λ x. instance_at new x.at ≡ with_one name (word text))
    word-told made =
        IfOk-weaker r (λ x. term new x.at ≡ with_one name (term mid w)) (λ x. instance_at new x.at ≡ with_one name (word text))
        (λ x is. kind_of_one old mid new name text w x.at here bindings is) made

    pub culprit-told : (c : ℕ) → Extends old mid → substitution mid ≡ substitution old → c < length old.terms → IfOk r (λ x. term new x.at ≡ with_two name (term mid w) (term mid c))
        → IfOk r (λ x. instance_at new x.at ≡ with_two name (word text) (instance_at old c))
    culprit-told c grown before live made =
        IfOk-weaker r (λ x. term new x.at ≡ with_two name (term mid w) (term mid c)) (λ x. instance_at new x.at ≡ with_two name (word text) (instance_at old c))
        (λ x is. kind_of_two old mid new name text w x.at here bindings c grown before live is) made
