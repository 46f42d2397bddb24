-- Tests over a table of options.
use Rattle.std.proofs.Common.{◌≡◌, ◌||◌, Bool, true, false, List, [], ◌∷◌, Some, map, find, arith, refl, ap, subst}
use Rattle.std.specs.List.{list_any, All}
use Rattle.std.proofs.lemmas.List.Elements.{All-get_or, All-tail}

pub list_any-map : {X Y : Type 0} (p : Y → Bool) (f : X → Y) (xs : List X) → list_any (λ x. p (f x)) xs ≡ list_any p (map f xs)
list_any-map p f [] = refl
list_any-map p f (x ∷ xs) = ap (λ b. p (f x) || b) (list_any-map p f xs)

-- what holds of each element holds of the one that is found
pub found_has : {X : Type 0} (P : X → Type 0) (p : X → Bool) (xs : List X) → All P xs → (y : X) → find p xs ≡ Some y → P y
found_has P p [] all y e = cc
found_has P p (x ∷ xs) all y e = go (p x) refl (found_has P p xs (All-tail P x xs all) y)
  where
    go : (b : Bool) → p x ≡ b → (find p xs ≡ Some y → P y) → P y
    go true is later =
        let first : Some x ≡ Some y = rw is at e in
        let same : x ≡ y = cc in
        subst P same (All-get_or P (x ∷ xs) 0 x (omega arith) all)
    go false is later = later (rw is at e)
