-- The variables that were seen in a clause.
use Rattle.std.specs.Prelude.{◌≡◌, ◌<◌, ℕ, ◌+◌, false, cond, List, [], ◌∷◌, ◌++◌, length, Option, Some, None, unwrap_or, is_some, codes}
use Rattle.std.specs.Str.{bytes_eq}
use Rattle.cp_read.specs.Lexemes.{is_anonymous, place_of}

-- the names that were seen with their numbers, and how many variables were seen
pub record Seen : Type 0 where
  pub names : List (List ℕ × ℕ)
  pub count : ℕ

abbrev pub nothing_seen : Seen
nothing_seen = record { names = []; count = 0 }

-- the number of a name among these
abbrev pub number_in : List (List ℕ × ℕ) → List ℕ → Option ℕ
number_in [] v = None
number_in (n ∷ names) v = cond (bytes_eq v n.0) (Some n.1) (number_in names v)

-- one more variable, which has a name
abbrev pub with_new : Seen → List ℕ → Seen
with_new seen v = record { names = seen.names ++ (v, seen.count) ∷ []; count = seen.count + 1 }

-- one more variable, which has none
abbrev pub with_nameless : Seen → Seen
with_nameless seen = record { names = seen.names; count = seen.count + 1 }

-- the number of a variable after these, and those seen with it
abbrev pub number_of : Seen → List ℕ → ℕ
number_of seen v = cond (bytes_eq v (codes "_")) seen.count (unwrap_or (number_in seen.names v) seen.count)

abbrev pub seen_with : Seen → List ℕ → Seen
seen_with seen v = cond (bytes_eq v (codes "_")) (with_nameless seen) (cond (is_some (number_in seen.names v)) seen (with_new seen v))

-- a look-up answers the place of a name among these, or nothing where it is none of them
abbrev pub Placed : Option ℕ → List (List ℕ) → List ℕ → Type 0
Placed (Some n) list called = (n ≡ place_of list called) × (n < length list)
Placed None list called = place_of list called ≡ length list

-- the two know the same variables
pub record Knows (seen : Seen) (list : List (List ℕ)) : Type 0 where
  pub count : seen.count ≡ length list
  pub places : (called : List ℕ) → is_anonymous called ≡ false → Placed (number_in seen.names called) list called
