-- Items that were read before others.
use Rattle.std.proofs.Common.{◌≡◌, List, [], ◌∷◌, ◌++◌, refl, sym, ◌∙◌, ap, append_assoc}
use Rattle.std.proofs.lemmas.List.{append-nil}
use Rattle.std.specs.Prelude.{Option, Some, None}
use Rattle.cp_declaration.specs.Lists.{before}

-- the items that were read, and those that are still to come
abbrev pub found : {X : Type 0} → List X → Option (List X) → Option (List X)
found xs None = None
found xs (Some more) = Some (xs ++ more)

pub found-first : {X : Type 0} (more : Option (List X)) → found [] more ≡ more
found-first None = refl
found-first (Some more) = refl

pub found-before : {X : Type 0} (xs : List X) (x : X) (more : Option (List X)) → found xs (before (Some x) more) ≡ found (xs ++ x ∷ []) more
found-before xs x None = refl
found-before xs x (Some more) = ap (λ ys. Some ys) (sym (append_assoc xs (x ∷ []) more))

pub found-last : {X : Type 0} (xs : List X) → found xs (Some []) ≡ Some xs
found-last xs = ap (λ ys. Some ys) (append-nil xs)

-- one item more was read
pub found-more : {X : Type 0} (xs new : List X) (x : X) (item : Option X) (all more : Option (List X)) →
    all ≡ before item more → item ≡ Some x → new ≡ xs ++ x ∷ [] → found new more ≡ found xs all
found-more xs new x item all more is_all is_item is_new =
    ap (λ ys. found ys more) is_new
    ∙ sym (found-before xs x more)
    ∙ ap (λ i. found xs (before i more)) (sym is_item)
    ∙ ap (λ ys. found xs ys) (sym is_all)
