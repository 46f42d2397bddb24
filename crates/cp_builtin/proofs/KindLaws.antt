-- The kinds of errors on a heap.
use Rattle.std.proofs.Common.{◌≡◌, ℕ, ◌<◌, List, [], ◌∷◌, ◌++◌, length, ◌∙◌, ap}
use Rattle.cp_term.specs.declared.cell.Cell.{Cell}
use Rattle.cp_term.specs.declared.cell.Cell.TheVariants.{Atom, Func}
use Rattle.cp_term.specs.Substitution.{Substitution, apply}
use Rattle.cp_term.proofs.lemmas.SubstitutionLaws.{apply-append, apply-nil, apply-Atom, apply-Func}
use Rattle.cp_heap.specs.State.{State, term, substitution, instance_at, Extends}
use Rattle.cp_heap.proofs.lemmas.Growth.{term-stays}
use Rattle.cp_goal.specs.Errors.{word, with_one, with_two}

pub apply-word : (s : Substitution) (a : List ℕ) → apply s (word a) ≡ word a
apply-word s a = apply-Atom s a [] ∙ ap (λ cs. Atom a ∷ cs) (apply-nil s)

pub apply-with_two : (s : Substitution) (name : List ℕ) (x y : List Cell) → apply s (with_two name x y) ≡ with_two name (apply s x) (apply s y)
apply-with_two s name x y = apply-Func s name 2 (x ++ y) ∙ ap (λ cs. Func name 2 ∷ cs) (apply-append s x y)

module _ (old mid new : State) (name text : List ℕ) (w k : ℕ) (here : term mid w ≡ word text) (bindings : substitution new ≡ substitution mid) where
  pub kind_of_one : term new k ≡ with_one name (term mid w) → instance_at new k ≡ with_one name (word text)
  kind_of_one made =
      ap (apply (substitution new)) (made ∙ ap (with_one name) here)
      ∙ apply-Func (substitution new) name 1 (word text) ∙ ap (λ cs. Func name 1 ∷ cs) (apply-word (substitution new) text)

  pub kind_of_two : (c : ℕ) → Extends old mid → substitution mid ≡ substitution old → c < length old.terms → term new k ≡ with_two name (term mid w) (term mid c)
      → instance_at new k ≡ with_two name (word text) (instance_at old c)
  kind_of_two c grown before live made =
      (λ i. apply ((bindings ∙ before) i) ((made ∙ (λ j. with_two name (here j) (term-stays old mid grown c live j))) i))
      ∙ apply-with_two (substitution old) name (word text) (term old c)
      ∙ ap (λ cs. with_two name cs (instance_at old c)) (apply-word (substitution old) text)
