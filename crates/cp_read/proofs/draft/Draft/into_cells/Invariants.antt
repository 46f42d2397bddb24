use Rattle.std.proofs.Common.{map}
use Rattle.std.specs.Prelude.{take}
use Rattle.cp_read.specs.Drafts.{piece_seen, cells_of}
use Rattle.cp_read.specs.Filling.{IsFilled}
use Rattle.cp_read.proofs.draft.Draft.into_cells.Given as goal

abbrev pub invariant-loop-piece : goal.invariant-loop-piece
invariant-loop-piece l = IsFilled l.bounds l.within l.list (cells_of (map piece_seen (take l.piece-index l.piece-items)))
