-- A goal with further arguments, on the heap.
use Rattle.std.specs.Prelude.{◌≡◌, ◌<◌, List, Result, Ok, Err, length}
use Rattle.cp_term.specs.declared.cell.Cell.{Cell}
use Rattle.cp_heap.specs.State.{State, instance_at}
use Rattle.cp_enter.specs.declared.extended.Extended.{Extended}
use Rattle.cp_enter.specs.declared.extended.Extended.TheVariants as extended

-- the goal, or the kind of the error that there is none, as a term of the heap
abbrev pub IsGoalOr : State → Result (List Cell) (List Cell) → Extended → Type 0
IsGoalOr h g (extended.Goal r) = (r.at < length h.terms) × (g ≡ Ok (instance_at h r.at))
IsGoalOr h g (extended.Error r) = (r.at < length h.terms) × (g ≡ Err (instance_at h r.at))
