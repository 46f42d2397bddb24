-- The table of names grows at its end.
use Rattle.std.proofs.Common.{◌≡◌, ℕ, ◌<◌, ◌≤◌, ◌^◌, Bool, true, false, List, [], ◌∷◌, ◌++◌, length, refl, sym, subst, append-nil, arith, length-append}
use Rattle.std.specs.Prelude.{Option, if◌then◌else◌}
use Rattle.std.specs.List.{list_any}
use Rattle.indexmap.specs.IndexSet.{insert_key}
use Rattle.cp_heap.specs.declared.bound.Bound.{Bound}
use Rattle.cp_heap.specs.declared.word.Word.{Word}
use Rattle.cp_heap.specs.State.{IsTrail}
use Rattle.cp_heap.specs.Layout.{AreLaidOut}
use Rattle.cp_heap.proofs.TermLaws.{ArePlaced-more, terms_from-names}

pub insert-grows : (eq : List ℕ → List ℕ → Bool) (names : List (List ℕ)) (name : List ℕ) → (more : List (List ℕ)) × (insert_key eq names name ≡ names ++ more) × (length more ≤ 1)
insert-grows eq names name = go (list_any (eq name) names)
  where
    go : (t : Bool) → (more : List (List ℕ)) × ((if t then names else names ++ name ∷ []) ≡ names ++ more) × (length more ≤ 1)
    go true = ([], sym (append-nil names), omega arith)
    go false = (name ∷ [], refl, omega arith)

pub laid-names : (names more : List (List ℕ)) (words : List Word) (trail : List Bound) (values : List (Option ℕ)) → AreLaidOut names words trail values → length (names ++ more) < 2 ^ 32 → AreLaidOut (names ++ more) words trail values
laid-names names more words trail values ok fit = record {
  words = ArePlaced-more (length names) (length values) (length (names ++ more)) (length values) 0 words (omega (arith, length-append names more)) (omega arith) ok.words;
  trail = subst (λ ts. IsTrail ts (length values) [] trail) (sym (terms_from-names names more (length values) 0 [] words ok.words)) ok.trail;
  values = ok.values;
  places_fit = ok.places_fit;
  bindings_fit = ok.bindings_fit;
  variables_fit = ok.variables_fit;
  names_fit = fit;
}
