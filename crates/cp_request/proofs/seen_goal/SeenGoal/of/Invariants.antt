use Rattle.std.proofs.Common.{◌≡◌, ℕ, List, length}
use Rattle.cp_heap.specs.State.{instance_at}
use Rattle.cp_code.specs.Bodies.{seen_from}
use Rattle.cp_request.specs.Seen.{seer_of, HasSeen}
use Rattle.cp_request.proofs.seen_goal.SeenGoal.of.Given as goal

abbrev pub invariant-modules : goal.invariant-modules
invariant-modules l =
    HasSeen l.heap l.seen × ((m : List ℕ) → seen_from m (instance_at l.heap l.fn.at.at) ≡ seen_from (seer_of l.heap m l.seen.module) (instance_at l.heap l.seen.goal.at))

abbrev pub decreases-modules : goal.decreases-modules
decreases-modules l = length (instance_at l.heap l.seen.goal.at)
