use Rattle.std.proofs.Common.{◌∙◌, ap, map}
use Rattle.cp_ops.specs.Operators.{with_row}
use Rattle.cp_ops.specs.Rows.{row_of}
use Rattle.cp_ops.proofs.lemmas.RowLaws.{with_row-rows}
use Rattle.cp_ops.proofs.operators.Operators.put.Goals as goal

pub returns-clause-ok : goal.returns-clause-ok
returns-clause-ok c =
    let row = row_of (c.args.name, (c.args.priority, c.args.fix)) in
    ap (map row_of) c.in_ok-insert.ensures.entries
    ∙ (with_row-rows c.args.name (c.args.priority, c.args.fix) c.self.inside.rows.entries ∙ ap (with_row row) c.self.view_is)
