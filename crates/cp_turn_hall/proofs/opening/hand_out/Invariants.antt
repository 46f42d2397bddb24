use Rattle.std.proofs.Common.{◌≡◌, List, ◌++◌, length}
use Rattle.cp_call.specs.declared.call.Entry.{Entry}
use Rattle.cp_turn.specs.Passes.{PassView}
use Rattle.cp_hall.specs.declared.hall.HallRow.{HallRow}
use Rattle.cp_turn_hall.proofs.Half.{AreHanded}
use Rattle.cp_turn_hall.proofs.opening.hand_out.Given as goal

-- the passes that are gone from the list are handed out
abbrev pub invariant-loop-pass : goal.invariant-loop-pass
invariant-loop-pass l = (done : List (PassView Entry HallRow)) × (l.fn.passes.items ≡ l.rest.items ++ done) × AreHanded (length l.rest.items) l.fn.passes.items l.fn.hall_passes.items l.hall_passes.items

abbrev pub decreases-loop-pass : goal.decreases-loop-pass
decreases-loop-pass l = length l.rest.items
