use Rattle.std.proofs.Common.{◌≡◌, drop}
use Rattle.cp_top.specs.Ending.{how_among}
use Rattle.cp_top.proofs.ending.how_among.Given as goal

abbrev pub invariant-loop-row : goal.invariant-loop-row
invariant-loop-row l = how_among l.rows ≡ how_among (drop l.row-index l.rows)
