use Rattle.std.proofs.Common.{◌≡◌, ℕ, ◌+◌, ◌<◌, [], length}
use Rattle.std.specs.Prelude.{slice_index_or}
use Rattle.cp_turn_hall.specs.Behind.{HallPassView}
use Rattle.cp_turn_hall.proofs.opening.empty_passes.Given as goal

abbrev pub invariant-loop-i : goal.invariant-loop-i
invariant-loop-i l = (length l.passes.items ≡ l.i) × ((k : ℕ) (d : HallPassView) → k < l.i → slice_index_or l.passes.items k d ≡ record { number = k + 1; places = [] })
