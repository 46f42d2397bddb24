-- The parked callers by number, and the number of each.
use Rattle.std.specs.Prelude.{ℕ, Bool, ◌≡◌, ◌==◌, not, false, cond, List, [], ◌∷◌, ◌++◌, filter, ℤ, Option, Some, None, IsSome}
use Rattle.std.specs.List.{list_any}
use Rattle.std.specs.Option.{option_flatten}
use Rattle.std.specs.Ordering.{nat_cmp}
use Rattle.std.specs.BTreeMap.{BTreeMap, get, is_at}
use Rattle.cp_call.specs.declared.outcome.ParkedRow.{ParkedRow}
use Rattle.cp_counted.specs.declared.key.Key.{Key}
use Rattle.cp_counted.specs.Keys.{term_key}
use Rattle.cp_keyed.specs.Index.{IndexView, row_at, without}
use Rattle.cp_factindex.specs.declared.waiter.Waiter.{Waiter}
use Rattle.cp_factindex.specs.declared.waiting.Waiting.TheInside.{Inside}

-- the key of what a parked caller waits for
abbrev pub waiter_key : Waiter → Key
waiter_key w = term_key w.row.pattern

-- the number of a caller's row, if it is parked
abbrev pub number_in : BTreeMap ℕ (Option ℤ) → ℕ → Option ℤ
number_in numbers caller = option_flatten (get nat_cmp numbers caller)

-- there is room for the caller's number
abbrev pub has_caller : BTreeMap ℕ (Option ℤ) → ℕ → Type 0
has_caller numbers caller = IsSome (get nat_cmp numbers caller)

-- the number of one caller was set
abbrev pub IsSetAt : BTreeMap ℕ (Option ℤ) → BTreeMap ℕ (Option ℤ) → ℕ → Option ℤ → Type 0
IsSetAt old new caller number = (other : ℕ) → get nat_cmp new other ≡ cond (is_at (nat_cmp caller) other) (Some number) (get nat_cmp old other)

-- whether one of the rows is the caller's
abbrev pub is_caller_in : List (ℤ × Waiter) → ℕ → Bool
is_caller_in rows caller = list_any (λ (e : ℤ × Waiter). e.1.row.caller == caller) rows

-- one row more, behind the others
abbrev pub IsAdded : List (ℤ × Waiter) → ParkedRow → List (ℤ × Waiter) → Type 0
IsAdded rows row whole = (number : ℤ) × (whole ≡ rows ++ (number, record { row = row }) ∷ [])

-- The spot is that of the row of the caller, the only one that it has.
abbrev pub IsSpotOf : List (ℤ × Waiter) → ℕ → Option (Key × ℤ) → Type 0
IsSpotOf rows caller None = is_caller_in rows caller ≡ false
IsSpotOf rows caller (Some s) = (w : Waiter) × (row_at s.1 rows ≡ Some w) × (w.row.caller ≡ caller) × (waiter_key w ≡ s.0)
    × (without s.1 rows ≡ filter (λ (e : ℤ × Waiter). not (e.1.row.caller == caller)) rows)

-- each row has the number of its caller
abbrev pub AreNumbered : BTreeMap ℕ (Option ℤ) → List (ℤ × Waiter) → Type 0
AreNumbered numbers [] = Unit {0}
AreNumbered numbers (e ∷ rows) = (number_in numbers e.1.row.caller ≡ Some e.0) × AreNumbered numbers rows

-- the row that was placed ahead is that of a caller who is not parked, and for whose number there is room
abbrev pub IsNextRow : Option (ℕ × ℤ) → BTreeMap ℕ (Option ℤ) → IndexView Waiter → Type 0
IsNextRow None numbers v = v.whole ≡ v.rows
IsNextRow (Some c) numbers v = (w : Waiter) × (v.whole ≡ v.rows ++ (c.1, w) ∷ []) × (w.row.caller ≡ c.0) × (number_in numbers c.0 ≡ None) × has_caller numbers c.0

-- The numbers are those of the rows.
pub record IsWaiting (a : Inside) : Type 0 where
  pub numbered : AreNumbered a.numbers a.rows.rows
  pub parked : (caller : ℕ) (number : ℤ) → number_in a.numbers caller ≡ Some number → (w : Waiter) × (row_at number a.rows.rows ≡ Some w) × (w.row.caller ≡ caller)
  pub ahead : IsNextRow a.ahead a.numbers a.rows
