-- One item more of a list that a loop goes through, of which something or nothing is taken.
use Rattle.std.proofs.Common.{◌≡◌, ℕ, ◌+◌, ◌<◌, refl, List, [], ◌∷◌, ◌++◌, length, get_or, take, ap, sym, ◌∙◌, Option, Some, None}
use Rattle.std.specs.List.{filter_map}
use Rattle.std.proofs.lemmas.List.Elements.{filter_map-append}
use Rattle.cp_link.specs.Modules.{one}
use Rattle.cp_link.proofs.StepLaws.{taken}

pub as_one : {X Y : Type 0} (h : X → Option Y) (x : X) (o : Option Y) → h x ≡ o → one (h x) ≡ filter_map h (x ∷ [])
as_one h x None e = cc
as_one h x (Some y) e = cc

pub filter_mapped : {X Y : Type 0} (h : X → Option Y) (xs : List X) (i : ℕ) (x : X) → i < length xs → x ≡ get_or xs i x → filter_map h (take i xs) ++ one (h x) ≡ filter_map h (take (i + 1) xs)
filter_mapped h xs i x lt e =
    ap (λ ys. filter_map h (take i xs) ++ ys) (as_one h x (h x) refl) ∙ sym (filter_map-append h (take i xs) (x ∷ [])) ∙ ap (filter_map h) (taken xs i x lt e)
