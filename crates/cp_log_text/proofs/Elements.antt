-- What tests on lists say of their items.
use Rattle.std.proofs.Common.{◌≡◌, ℕ, ◌<◌, Bool, true, false, List, length, get_or, not, refl, sym, ap, ◌∙◌}
use Rattle.std.specs.Prelude.{IsTrue}
use Rattle.std.specs.List.{list_all}
use Rattle.std.proofs.lemmas.Bool.{false≢true}
use Rattle.std.proofs.lemmas.List.Folds.{list_all_at}

not_false : (b : Bool) → (b ≡ false → ⊥) → b ≡ true
not_false true h = refl
not_false false h = absurd (h refl)

pub all_at : {X : Type 0} (f : X → Bool) (xs : List X) (i : ℕ) (x : X) → IsTrue (list_all f xs) → x ≡ get_or xs i x → i < length xs → f x ≡ true
all_at f xs i x h e l = ap f e ∙ not_false (f (get_or xs i x)) (λ q. false≢true (sym (list_all_at f xs i x l q) ∙ h))

pub is_not : (b : Bool) → not b ≡ true → b ≡ false
is_not true h = absurd (false≢true h)
is_not false h = refl
