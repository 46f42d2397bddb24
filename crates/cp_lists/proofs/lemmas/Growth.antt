-- Terms that are made one after another.
use Rattle.std.proofs.Common.{◌≡◌, ℕ, suc, ◌+◌, ◌<◌, List, [], ◌∷◌, ◌++◌, length, drop, get_or, drop-cons, add-one, refl, sym, ◌∙◌, ap, subst, arith}
use Rattle.std.specs.Prelude.{codes}
use Rattle.std.proofs.lemmas.List.{map-append}
use Rattle.cp_term.specs.declared.cell.Cell.{Cell}
use Rattle.cp_term.specs.declared.cell.Cell.TheVariants.{Func}
use Rattle.cp_heap.specs.declared.reference.Ref.{Ref}
use Rattle.cp_heap.specs.State.{State, term, AreRefs, terms_at}
use Rattle.cp_heap.proofs.BuildLaws.{Extends-refl, Extends-trans}
use Rattle.cp_heap.proofs.lemmas.Growth.{term-stays, refs-stay}
use Rattle.cp_goal.specs.Lists.{list_term}
use Rattle.cp_lists.specs.Growing.{GainsTerms}

pub gains-refl : (h : State) → GainsTerms h h
gains-refl h = record { bindings = refl; extends = Extends-refl h; trail = refl; variables = refl }

pub gains-trans : (a b c : State) → GainsTerms a b → GainsTerms b c → GainsTerms a c
gains-trans a b c first second = record {
  bindings = second.bindings ∙ first.bindings;
  extends = Extends-trans a b c first.extends second.extends;
  trail = second.trail ∙ first.trail;
  variables = second.variables ∙ first.variables;
}

module _ (old new : State) (gains : GainsTerms old new) where
  pub terms-stay : (refs : List Ref) → AreRefs old refs → terms_at new refs ≡ terms_at old refs
  terms-stay [] live = refl
  terms-stay (r ∷ refs) live =
      λ i. term-stays old new gains.extends r.at (live 0 r (omega arith)) i ∷ terms-stay refs (λ k d lt. live (suc k) d (omega arith)) i

  pub live-stays : (refs : List Ref) → AreRefs old refs → AreRefs new refs
  live-stays refs live = refs-stay old new gains.extends refs live

-- one element before the others
pub list_longer : (old now new : State) (elements : List Ref) (i : ℕ) (first rest whole : Ref) (dot : List ℕ)
    → GainsTerms old now → AreRefs old elements → i < length elements → first ≡ get_or elements i first → dot ≡ codes "."
    → term now rest.at ≡ list_term (terms_at old (drop (i + 1) elements))
    → term new whole.at ≡ Func dot 2 ∷ term now first.at ++ term now rest.at
    → term new whole.at ≡ list_term (terms_at old (drop i elements))
list_longer old now new elements i first rest whole dot gains live within read named is made =
    let there : first.at < length old.terms = subst (λ (r : Ref). r.at < length old.terms) (sym read) (live i first within) in
    made
    ∙ (λ j. Func (named j) 2 ∷ term-stays old now gains.extends first.at there j ++ is j)
    ∙ sym (ap (λ rs. list_term (terms_at old rs))
    (drop-cons elements i first within ∙ ap (λ k. get_or elements i first ∷ drop k elements) (sym (add-one i)) ∙ ap (λ r. r ∷ drop (i + 1) elements) (sym read)))

-- one term more
pub one_more : (old new : State) (refs : List Ref) (r : Ref) (ts : List (List Cell)) (t : List Cell)
    → GainsTerms old new → AreRefs old refs → terms_at old refs ≡ ts → term new r.at ≡ t → terms_at new (refs ++ r ∷ []) ≡ ts ++ t ∷ []
one_more old new refs r ts t gains live are is =
    map-append (λ r. term new r.at) refs (r ∷ []) ∙ (λ i. (terms-stay old new gains refs live ∙ are) i ++ is i ∷ [])
