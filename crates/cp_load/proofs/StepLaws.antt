-- One item more of a list that a loop goes through.
use Rattle.std.proofs.Common.{◌≡◌, ℕ, ◌+◌, ◌<◌, List, [], ◌∷◌, ◌++◌, length, get_or, map, take, drop, ap, sym, ◌∙◌, Bool}
use Rattle.std.specs.Prelude.{filter}
use Rattle.std.specs.List.{flat_map}
use Rattle.std.proofs.lemmas.List.{drop_more, take_more, flat_map_more, map-append}
use Rattle.std.proofs.lemmas.List.Elements.{filter-append}

pub taken : {X : Type 0} (xs : List X) (i : ℕ) (x : X) → i < length xs → x ≡ get_or xs i x → take i xs ++ x ∷ [] ≡ take (i + 1) xs
taken xs i x h e = ap (λ y. take i xs ++ y ∷ []) e ∙ sym (take_more xs i x h)

pub flat_mapped : {X Y : Type 0} (f : X → List Y) (xs : List X) (i : ℕ) (x : X) → i < length xs → x ≡ get_or xs i x → flat_map f (take i xs) ++ f x ≡ flat_map f (take (i + 1) xs)
flat_mapped f xs i x h e = flat_map_more f [] (take i xs) x ∙ ap (flat_map f) (taken xs i x h e)

pub mapped : {X Y : Type 0} (f : X → Y) (xs : List X) (i : ℕ) (x : X) → i < length xs → x ≡ get_or xs i x → map f (take i xs) ++ f x ∷ [] ≡ map f (take (i + 1) xs)
mapped f xs i x h e = sym (map-append f (take i xs) (x ∷ [])) ∙ ap (map f) (taken xs i x h e)

pub filter_mapped : {X Y : Type 0} (f : X → Y) (t : X → Bool) (xs : List X) (i : ℕ) (x : X) → i < length xs → x ≡ get_or xs i x → map f (filter t (take i xs)) ++ map f (filter t (x ∷ [])) ≡ map f (filter t (take (i + 1) xs))
filter_mapped f t xs i x h e =
    sym (map-append f (filter t (take i xs)) (filter t (x ∷ []))) ∙ ap (map f) (sym (filter-append t (take i xs) (x ∷ [])) ∙ ap (filter t) (taken xs i x h e))

pub split : {X : Type 0} (xs : List X) (i : ℕ) (x : X) → i < length xs → x ≡ get_or xs i x → drop i xs ≡ x ∷ drop (i + 1) xs
split xs i x lt is_x = drop_more xs i x lt ∙ ap (λ y. y ∷ drop (i + 1) xs) (sym is_x)
