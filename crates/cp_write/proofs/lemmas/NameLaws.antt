-- Names and texts by their first and last bytes.
use Rattle.std.proofs.Common.{◌≡◌, ℕ, suc, ◌-◌, List, [], ◌∷◌, length, drop, refl, ap, ◌∙◌, arith, Some}
use Rattle.std.specs.Prelude.{slice_get, ◌&&◌}
use Rattle.std.specs.List.{list_all}
use Rattle.std.specs.Char.{is_ascii_lowercase}
use Rattle.cp_char.specs.Characters.{is_symbol, is_alphanumeric, first}
use Rattle.cp_ops.specs.Text.{last_byte, is_symbolic, is_small_name}

pub symbolic-some : (name : List ℕ) → (name ≡ [] → ⊥) → list_all is_symbol name ≡ is_symbolic name
symbolic-some [] h = absurd (h refl)
symbolic-some (c ∷ name) h = refl

pub small-some : (name : List ℕ) (b : ℕ) → Some b ≡ slice_get name 0 → (is_ascii_lowercase b && list_all is_alphanumeric (drop 1 name)) ≡ is_small_name name
small-some [] b h = cc
small-some (c ∷ name) b h = let e : b ≡ c = cc in ap (λ x. is_ascii_lowercase x && list_all is_alphanumeric name) e

pub first-some : (name : List ℕ) (b : ℕ) → Some b ≡ slice_get name 0 → b ≡ first name
first-some [] b h = cc
first-some (c ∷ name) b h = cc

pub last-some : (text : List ℕ) (b : ℕ) → Some b ≡ slice_get text (length text - 1) → b ≡ last_byte text
last-some [] b h = cc
last-some (c ∷ []) b h = cc
last-some (c ∷ d ∷ text) b h =
    let e : length (c ∷ d ∷ text) - 1 ≡ suc (length (d ∷ text) - 1) = omega arith in
    last-some (d ∷ text) b (h ∙ ap (λ i. slice_get (c ∷ d ∷ text) i) e)
