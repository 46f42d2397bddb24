use Rattle.std.proofs.Common.{◌∙◌, ap}
use Rattle.cp_declaration.specs.declared.indicator.Indicator.{Indicator}
use Rattle.cp_assemble.specs.declared.mark_table.MarkKey.{MarkKey}
use Rattle.cp_assemble.specs.Index.{marks_of, marks_or}
use Rattle.cp_assemble.proofs.MarkLaws.{either_none}
use Rattle.cp_assemble.proofs.MarkTableLaws.{looked_up}
use Rattle.cp_assemble.proofs.mark_table.MarkTable.find.Goals as goal

pub returns : goal.returns
returns c =
    let pred = c.args.pred.now in
    let key : MarkKey = record { name = c.in_ok-clone.field-0; count = c.from.result } in
    c.in_ok-marks.ensures ∙ either_none _
    ∙ ap marks_or c.get.ensures.value
    ∙ looked_up key c.self.inside.rows.entries
    ∙ ap (λ rows. marks_of rows (let i : Indicator = record { name = c.in_ok-clone.field-0; arity = c.from.result } in i)) c.self.view_is
    ∙ ap (λ n. marks_of c.args.self.now (let i : Indicator = record { name = n; arity = c.from.result } in i)) c.in_ok-clone.ensures.cases
    ∙ ap (λ k. marks_of c.args.self.now (let i : Indicator = record { name = pred.name; arity = k } in i)) c.from.ensures
