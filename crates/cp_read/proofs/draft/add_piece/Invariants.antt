use Rattle.std.proofs.Common.{◌≤◌, List, ◌++◌, length, map}
use Rattle.std.specs.Prelude.{reverse, drop}
use Rattle.cp_term.specs.declared.cell.Cell.{Cell}
use Rattle.cp_read.specs.Drafts.{operator_cell}
use Rattle.cp_read.specs.Filling.{IsFilled}
use Rattle.cp_read.proofs.draft.add_piece.Given as goal

abbrev pub invariant-loop-left : goal.invariant-loop-left
invariant-loop-left l =
    (l.left ≤ length l.piece.operators.items)
    × ((cells : List Cell) → IsFilled l.bounds l.initial.before l.initial.list cells → IsFilled l.bounds l.within l.list (cells ++ map operator_cell (reverse (drop l.left l.piece.operators.items))))

abbrev pub decreases-loop-left : goal.decreases-loop-left
decreases-loop-left l = l.left
