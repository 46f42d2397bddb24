-- What a heap held is still there once it has grown.
use Rattle.std.proofs.Common.{◌≡◌, ℕ, ◌<◌, ◌≤◌, List, [], ◌∷◌, ◌++◌, length, drop, get_or, refl, sym, ◌∙◌, ap, arith, length-append}
use Rattle.std.proofs.lemmas.List.{take-append-drop}
use Rattle.std.proofs.Math.ListN.{get_or-append}
use Rattle.cp_term.specs.declared.cell.Cell.{Cell}
use Rattle.cp_term.specs.Substitution.{Substitution, apply}
use Rattle.cp_heap.specs.declared.bound.Bound.{Bound}
use Rattle.cp_heap.specs.declared.reference.Ref.{Ref}
use Rattle.cp_heap.specs.State.{State, term, bindings_from, bindings, substitution, IsWellFormed, AreBoundWithin, Extends, instance_at, AreRefs}
use Rattle.cp_heap.proofs.MoveLaws.{within_of}

-- bindings to terms that are there
bindings_from-more : (terms more : List (List Cell)) (n : ℕ) (s : Substitution) (trail : List Bound) → AreBoundWithin n (length terms) trail → bindings_from (terms ++ more) s trail ≡ bindings_from terms s trail
bindings_from-more terms more n s [] ok = refl
bindings_from-more terms more n s (b ∷ trail) ok =
    ap (λ t. bindings_from (terms ++ more) (s ++ (record { var = b.variable; term = apply s t }) ∷ []) trail) (get_or-append terms more [] b.at ok.1)
    ∙ bindings_from-more terms more n (s ++ (record { var = b.variable; term = apply s (get_or terms b.at []) }) ∷ []) trail ok.2

module _ (old new : State) (grown : Extends old new) where
  terms-split : new.terms ≡ old.terms ++ drop (length old.terms) new.terms
  terms-split = sym (take-append-drop (length old.terms) new.terms) ∙ ap (λ ts. ts ++ drop (length old.terms) new.terms) grown.terms

  pub places-more : length old.terms ≤ length new.terms
  places-more = let n = ap length terms-split in omega (arith, length-append old.terms (drop (length old.terms) new.terms))

  pub term-stays : (at : ℕ) → at < length old.terms → term new at ≡ term old at
  term-stays at lt = ap (λ ts. get_or ts at []) terms-split ∙ get_or-append old.terms (drop (length old.terms) new.terms) [] at lt

  pub refs-stay : (refs : List Ref) → AreRefs old refs → AreRefs new refs
  refs-stay refs live k d lt = let here = live k d lt in let more = places-more in omega arith

  -- where nothing was bound
  module _ (well : IsWellFormed old) (trail : new.trail ≡ old.trail) where
    pub substitution-stays : substitution new ≡ substitution old
    substitution-stays =
        (λ i. bindings (terms-split i) (trail i))
        ∙ bindings_from-more old.terms (drop (length old.terms) new.terms) old.variables [] old.trail (within_of old.terms old.variables [] old.trail well.trail)

    pub instance-stays : (at : ℕ) → at < length old.terms → instance_at new at ≡ instance_at old at
    instance-stays at lt = λ i. apply (substitution-stays i) (term-stays at lt i)
