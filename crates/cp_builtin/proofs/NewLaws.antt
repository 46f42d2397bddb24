-- New variables, one after another.
use Rattle.std.proofs.Common.{◌≡◌, ℕ, suc, ◌+◌, ◌<◌, List, [], ◌∷◌, ◌++◌, length, refl, sym, ◌∙◌, ap, subst, append-nil, arith, length-append}
use Rattle.std.specs.List.{flat_map}
use Rattle.std.proofs.lemmas.List.{map-append}
use Rattle.std.proofs.lemmas.List.Concat.{flat_map-append}
use Rattle.std.proofs.lemmas.List.Elements.{All-push}
use Rattle.cp_term.specs.declared.cell.Cell.TheVariants.{Var}
use Rattle.cp_heap.specs.declared.reference.Ref.{Ref}
use Rattle.cp_heap.specs.State.{State, term, substitution, Extends, AreRefs, terms_at}
use Rattle.cp_heap.proofs.BuildLaws.{Extends-refl, Extends-trans}
use Rattle.cp_heap.proofs.lemmas.Growth.{term-stays, refs-stay}
use Rattle.cp_builtin.specs.Made.{AreNew}
use Rattle.cp_builtin.proofs.FunctorLaws.{new_variables-last}

terms_at-stay : (old new : State) → Extends old new → (refs : List Ref) → AreRefs old refs → terms_at new refs ≡ terms_at old refs
terms_at-stay old new grown [] live = refl
terms_at-stay old new grown (r ∷ refs) live =
    (λ i. term-stays old new grown r.at (live 0 r (omega arith)) i ∷ terms_at-stay old new grown refs (λ k d lt. live (suc k) d (omega arith)) i)

pub none_yet : (s : State) → AreNew 0 s s []
none_yet s = record { count = refl; live = λ k d lt. absurd (omega arith); terms = refl; bindings = refl; extends = Extends-refl s; variables = omega arith }

pub one_more : (k : ℕ) (old mid new : State) (refs all : List Ref) (r : Ref) → AreNew k old mid refs → Extends mid new → substitution new ≡ substitution mid → new.variables ≡ mid.variables + 1
    → r.at < length new.terms → term new r.at ≡ Var mid.variables ∷ [] → all ≡ refs ++ r ∷ [] → AreNew (k + 1) old new all
one_more k old mid new refs all r so_far grown bindings variables live here is = record {
  count = let n = ap length is in let m = so_far.count in omega (arith, length-append refs (r ∷ []));
  live = subst (AreRefs new) (sym is) (All-push (λ (q : Ref). q.at < length new.terms) refs r (refs-stay mid new grown refs so_far.live) live);
  terms = ap (λ rs. flat_map (λ t. t) (terms_at new rs)) is
      ∙ ap (flat_map (λ t. t)) (map-append (λ (q : Ref). term new q.at) refs (r ∷ []))
      ∙ flat_map-append (λ t. t) (terms_at new refs) (term new r.at ∷ [])
      ∙ (λ i. flat_map (λ t. t) (terms_at-stay mid new grown refs so_far.live i) ++ (append-nil (term new r.at) ∙ here) i)
      ∙ (λ i. so_far.terms i ++ Var (so_far.variables i) ∷ [])
      ∙ sym (new_variables-last k old.variables);
  bindings = bindings ∙ so_far.bindings;
  extends = Extends-trans old mid new so_far.extends grown;
  variables = let a = so_far.variables in omega arith;
}
