use Rattle.std.proofs.Common.{◌≡◌, ◌<◌, length}
use Rattle.cp_heap.specs.State.{term}
use Rattle.cp_code.specs.Bodies.{body_of}
use Rattle.cp_control.proofs.seen.Seen.of.Given as goal

abbrev pub invariant-modules : goal.invariant-modules
invariant-modules l = (l.at.at < length l.heap.terms) × (body_of l.fn.seer (term l.heap l.fn.at.at) ≡ body_of l.seer (term l.heap l.at.at))

abbrev pub decreases-modules : goal.decreases-modules
decreases-modules l = l.at.at
