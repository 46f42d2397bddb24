-- Rows by number, which can be looked up by key.
use Rattle.std.specs.Prelude.{◌≡◌, ◌-◌, ◌^◌, Bool, true, false, not, ◌&&◌, ◌||◌, List, [], ◌∷◌, filter, ℤ, int_lt, Option, Some, None, is_some, negsuc}
use Rattle.std.specs.Ordering.{int_cmp, int_eq}
use Rattle.std.specs.Map.{lookup}
use Rattle.std.specs.BTreeMap.{BTreeMap, get, is_at}
use Rattle.std.specs.BTreeSet.{BTreeSet}
use Rattle.cp_counted.specs.declared.key.Key.{Key}
use Rattle.cp_counted.specs.Keys.{key_eq, keys_agree}
use Rattle.cp_keyed.specs.Spots.{stands_at}
use Rattle.cp_keyed.specs.Search.{is_after, AreFrom}

-- What contracts see of an index: its rows with their numbers, and the rows with the one that was placed ahead, which is
-- to be a row later.
pub record IndexView (T : Type 0) : Type 0 where
  pub rows : List (ℤ × T)
  pub whole : List (ℤ × T)

module _ {T : Type 0} where
  -- each number is greater than this one
  abbrev pub AreAbove : ℤ → List (ℤ × T) → Type 0
  AreAbove number [] = Unit {0}
  AreAbove number (e ∷ rows) = (int_lt number e.0 ≡ true) × AreAbove number rows

  -- the numbers ascend
  abbrev pub AreAscending : List (ℤ × T) → Type 0
  AreAscending [] = Unit {0}
  AreAscending (e ∷ rows) = AreAbove e.0 rows × AreAscending rows

  -- each number is less than this one
  abbrev pub AreBelow : ℤ → List (ℤ × T) → Type 0
  AreBelow number [] = Unit {0}
  AreBelow number (e ∷ rows) = (int_lt e.0 number ≡ true) × AreBelow number rows

  -- the row with this number
  abbrev pub row_at : ℤ → List (ℤ × T) → Option T
  row_at number rows = lookup (is_at (int_cmp number)) rows

  -- the rows but for the one with this number
  abbrev pub without : ℤ → List (ℤ × T) → List (ℤ × T)
  without number rows = filter (λ (e : ℤ × T). not (int_eq number e.0)) rows

-- whether one of the spots has this number
abbrev pub is_among : List (Key × ℤ) → ℤ → Bool
is_among [] number = false
is_among (s ∷ spots) number = int_eq s.1 number || is_among spots number

module _ {T : Type 0} (key : T → Key) where
  -- whether a call with this key and cursor tries the row: it lies above the cursor, and the keys agree
  abbrev pub is_tried : Key → Option ℤ → ℤ × T → Bool
  is_tried k after e = is_after after e.0 && keys_agree k (key e.1)

  -- the rows that it tries, in order
  abbrev pub tried : Key → Option ℤ → List (ℤ × T) → List (ℤ × T)
  tried k after rows = filter (is_tried k after) rows

  -- the row with the spot's number, if there is one, has the spot's key
  abbrev pub IsRight : List (ℤ × T) → Key × ℤ → Type 0
  IsRight rows s = (t : T) → row_at s.1 rows ≡ Some t → key t ≡ s.0

  abbrev pub AreRight : List (ℤ × T) → List (Key × ℤ) → Type 0
  AreRight rows [] = Unit {0}
  AreRight rows (s ∷ spots) = IsRight rows s × AreRight rows spots

  -- whether there is a row and it has this key, or one that agrees with it
  abbrev pub has_key : Option T → Key → Bool
  has_key None k = false
  has_key (Some t) k = key_eq (key t) k

  abbrev pub has_agreeing : Option T → Key → Bool
  has_agreeing None k = false
  has_agreeing (Some t) k = keys_agree k (key t)

  -- The spots are those of the rows.
  pub record IsIndexed (rows : BTreeMap ℤ T) (spots : BTreeSet (Key × ℤ)) : Type 0 where
    pub spots_are : (k : Key) (p : ℤ) → stands_at spots k p ≡ has_key (get int_cmp rows p) k
    pub from : AreFrom (negsuc (2 ^ 63 - 1)) (λ p. is_some (get int_cmp rows p))
    pub ascending : AreAscending rows.entries

-- what was placed ahead is one of the rows in the map
abbrev pub IsAhead : BTreeSet (Key × ℤ) → Option (Key × ℤ) → Type 0
IsAhead spots None = Unit {0}
IsAhead spots (Some s) = stands_at spots s.0 s.1 ≡ true

-- the rows but for the one that was placed ahead
abbrev pub seen : {T : Type 0} → Option (Key × ℤ) → List (ℤ × T) → List (ℤ × T)
seen None rows = rows
seen (Some s) rows = without s.1 rows

-- whether this number was placed ahead
abbrev pub stands_ahead : Option (Key × ℤ) → ℤ → Bool
stands_ahead None number = false
stands_ahead (Some s) number = int_eq s.1 number
