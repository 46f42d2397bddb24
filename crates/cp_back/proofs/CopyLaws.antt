-- Terms that are put on a heap one after another.
use Rattle.std.proofs.Common.{◌≡◌, ℕ, suc, ◌+◌, ◌<◌, List, [], ◌∷◌, ◌++◌, length, refl, sym, ◌∙◌, ap, arith}
use Rattle.std.proofs.lemmas.List.{map-append}
use Rattle.std.proofs.lemmas.List.Elements.{All-push}
use Rattle.cp_term.specs.declared.cell.Cell.{Cell}
use Rattle.cp_term.specs.Numbering.{fresh, next_variable}
use Rattle.cp_heap.specs.declared.reference.Ref.{Ref}
use Rattle.cp_heap.specs.State.{State, term, substitution, Extends, AreRefs, terms_at}
use Rattle.cp_heap.proofs.BuildLaws.{Extends-refl, Extends-trans}
use Rattle.cp_heap.proofs.lemmas.Growth.{term-stays, refs-stay}
use Rattle.cp_code.specs.Tree.{apart, variables_in}
use Rattle.cp_back.specs.Copies.{AreImported}

apart-more : (next : ℕ) (ts : List (List Cell)) (t : List Cell) → apart next (ts ++ t ∷ []) ≡ apart next ts ++ fresh (next + variables_in ts) t ∷ []
apart-more next [] t = let e : next + 0 ≡ next = omega arith in ap (λ n. fresh n t ∷ []) (sym e)
apart-more next (u ∷ ts) t =
    let e : next + next_variable u + variables_in ts ≡ next + (next_variable u + variables_in ts) = omega arith in
    ap (λ xs. fresh next u ∷ xs) (apart-more (next + next_variable u) ts t)
    ∙ ap (λ n. fresh next u ∷ apart (next + next_variable u) ts ++ fresh n t ∷ []) e

variables-more : (ts : List (List Cell)) (t : List Cell) → variables_in (ts ++ t ∷ []) ≡ variables_in ts + next_variable t
variables-more [] t = omega arith
variables-more (u ∷ ts) t = let e = variables-more ts t in omega arith

terms-stay : (old new : State) (refs : List Ref) → Extends old new → AreRefs old refs → terms_at new refs ≡ terms_at old refs
terms-stay old new [] grown live = refl
terms-stay old new (r ∷ refs) grown live =
    λ i. term-stays old new grown r.at (live 0 r (omega arith)) i ∷ terms-stay old new refs grown (λ k d lt. live (suc k) d (omega arith)) i

pub imported-none : (h : State) → AreImported h h [] []
imported-none h = record { live = λ k d lt. absurd (omega arith); terms = refl; variables = omega arith; bindings = refl; extends = Extends-refl h }

-- one term more
pub imported-more : (old now new : State) (ts : List (List Cell)) (refs : List Ref) (t : List Cell) (r : Ref) → AreImported old now ts refs
    → r.at < length new.terms → term new r.at ≡ fresh now.variables t → new.variables ≡ now.variables + next_variable t → substitution new ≡ substitution now → Extends now new
    → AreImported old new (ts ++ t ∷ []) (refs ++ r ∷ [])
imported-more old now new ts refs t r so_far there is more bindings grown =
    let v = so_far.variables in
    let w = variables-more ts t in
    record {
      live = All-push (λ (r : Ref). r.at < length new.terms) refs r (refs-stay now new grown refs so_far.live) there;
      terms =
          map-append (λ (r : Ref). term new r.at) refs (r ∷ [])
          ∙ ap (λ xs. xs ++ term new r.at ∷ []) (terms-stay now new refs grown so_far.live ∙ so_far.terms)
          ∙ ap (λ x. apart old.variables ts ++ x ∷ []) (is ∙ ap (λ n. fresh n t) v)
          ∙ sym (apart-more old.variables ts t);
      variables = omega arith;
      bindings = bindings ∙ so_far.bindings;
      extends = Extends-trans old now new so_far.extends grown;
    }
