-- Spots: keys with the numbers of rows that have them, in order of key and then of number.
use Rattle.std.specs.Prelude.{◌≡◌, Bool, true, false, List, ℤ, Option, Some, None}
use Rattle.std.specs.declared.cmp.Ordering.{Ordering}
use Rattle.std.specs.Ordering.{ordering_then, int_cmp}
use Rattle.std.specs.BTreeSet.{BTreeSet, contains}
use Rattle.cp_counted.specs.declared.key.Key.{Key}
use Rattle.cp_counted.specs.KeyOrder.{key_cmp}

abbrev pub spot_cmp : Key × ℤ → Key × ℤ → Ordering
spot_cmp a b = ordering_then (key_cmp a.0 b.0) (int_cmp a.1 b.1)

-- whether the spots have this number at this key
abbrev pub stands_at : BTreeSet (Key × ℤ) → Key → ℤ → Bool
stands_at spots key number = contains spot_cmp spots (key, number)
