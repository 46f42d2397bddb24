use Rattle.std.proofs.Common.{[], ◌∷◌, take}
use Rattle.cp_log_text.specs.Building.{Gains}
use Rattle.cp_log_text.proofs.line.Line.shifted_cells.Given as goal

abbrev pub invariant-cells : goal.invariant-cells
invariant-cells l = Gains l.initial.self l.self (take l.cell-index l.cells ∷ [])
