use Rattle.std.proofs.Common.{List, [], ◌∷◌, ap}
use Rattle.cp_term.specs.declared.cell.Cell.{Cell}
use Rattle.cp_log_text.proofs.Parts.{same, taken, longer}
use Rattle.std.proofs.lemmas.List.{take_all}
use Rattle.cp_log_text.proofs.line.Line.shifted_cells.Goals as goal

pub cells-preserved : goal.cells-preserved
cells-preserved c =
    let xs = c.args.cells.now in
    let i = c.cells.cell-index in
    let x = c.cell-item.result in
    same (longer x c.cells.invariant c.in_ok-shifted_cell.ensures.cells c.in_ok-shifted_cell.ensures.next)
    (ap (λ (ys : List Cell). ys ∷ []) (taken xs i x c.cell-item.is c.cells-test.true))

pub returns : goal.returns
returns c = same c.cells.invariant (ap (λ (ys : List Cell). ys ∷ []) (take_all c.cells.cell-index c.args.cells.now c.cells-test.false))
