-- Words on lists that grow at their end, and on the parts of them that are one caller's.
use Rattle.std.specs.Prelude.{◌≡◌, ℕ, ◌==◌, List, [], ◌∷◌, ◌++◌, filter}

-- ys begins with xs
abbrev pub IsPrefix : {X : Type 0} → List X → List X → Type 0
IsPrefix {X} xs ys = (more : List X) × (ys ≡ xs ++ more)

-- the entries that the caller n made, in order, where `by` says who made an entry
abbrev pub own : {E : Type 0} → (E → ℕ) → ℕ → List E → List E
own by n entries = filter (λ e. by e == n) entries
