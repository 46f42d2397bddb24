-- The least number above a cursor.
use Rattle.std.specs.Prelude.{◌≡◌, Bool, true, false, cond, ℤ, ◌≤ℤ◌, int_lt, Option, Some, None}
use Rattle.cp_counted.specs.declared.key.Key.{Key}
use Rattle.cp_counted.specs.Keys.{key_eq}

-- whether the number lies above the cursor; every number does where there is none
abbrev pub is_after : Option ℤ → ℤ → Bool
is_after None number = true
is_after (Some cursor) number = int_lt cursor number

-- The answer is the least number above the cursor that passes the test, and none only where there is none.
abbrev pub IsLeastAfter : (ℤ → Bool) → Option ℤ → Option ℤ → Type 0
IsLeastAfter test after None = (q : ℤ) → test q ≡ true → is_after after q ≡ false
IsLeastAfter test after (Some p) = (test p ≡ true) × (is_after after p ≡ true) × ((q : ℤ) → test q ≡ true → is_after after q ≡ true → p ≤ℤ q)

-- no number that passes is less than this one
abbrev pub AreFrom : ℤ → (ℤ → Bool) → Type 0
AreFrom least test = (q : ℤ) → test q ≡ true → least ≤ℤ q

-- the number of a spot that has this key
abbrev pub number_at : Key → Option (Key × ℤ) → Option ℤ
number_at key None = None
number_at key (Some s) = cond (key_eq s.0 key) (Some s.1) None
