use Rattle.std.proofs.Common.{◌∙◌, ap, map}
use Rattle.cp_ops.specs.Operators.{without_row}
use Rattle.cp_ops.specs.Rows.{row_of}
use Rattle.cp_ops.proofs.lemmas.RowLaws.{without_row-rows}
use Rattle.cp_ops.proofs.operators.Operators.remove.Goals as goal

pub returns : goal.returns
returns c =
    ap (map row_of) c.shift_remove-row.ensures.entries
    ∙ (without_row-rows c.args.name.now c.self.inside.rows.entries ∙ ap (without_row c.args.name.now) c.self.view_is)
