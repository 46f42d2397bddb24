use Rattle.std.proofs.Common.{◌≡◌, ◌≤◌, length}
use Rattle.cp_term.specs.CellRefs.{cells_at}
use Rattle.cp_term.specs.TermGraph.{EndsFrom}
use Rattle.cp_term.proofs.places.ends_of.Given as goal

abbrev pub invariant-loop-at : goal.invariant-loop-at
invariant-loop-at l = (l.at ≤ length l.cells) × (length l.ends.items ≡ length l.cells) × EndsFrom l.at (cells_at l.cells) l.ends.items

abbrev pub decreases-loop-at : goal.decreases-loop-at
decreases-loop-at l = l.at
