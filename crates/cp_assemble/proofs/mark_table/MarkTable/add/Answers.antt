use Rattle.std.proofs.Common.{◌∙◌, ap}
use Rattle.std.specs.Map.{lookup}
use Rattle.cp_link.specs.Linked.{either_marks}
use Rattle.cp_assemble.specs.declared.mark_table.MarkKey.{MarkKey}
use Rattle.cp_assemble.specs.Index.{marks_or}
use Rattle.cp_assemble.proofs.MarkTableLaws.{added, same_key}
use Rattle.cp_assemble.proofs.mark_table.MarkTable.add.Goals as goal

pub returns : goal.returns
returns c = λ p.
    let m = c.args.marking.now in
    let key : MarkKey = record { name = c.in_ok-clone.field-0; count = c.len.result } in
    added c.self.inside.rows.entries _ c.args.self.now key m c.in_ok-both.both p c.self.view_is c.in_ok-clone.ensures.cases c.len.ensures
    (c.in_ok-both.ensures ∙ ap (λ o. either_marks (marks_or o) c.as_slice.result.now) c.get.ensures.value ∙ ap (λ ms. either_marks (marks_or (lookup (same_key key) c.self.inside.rows.entries)) ms) c.as_slice.ensures)
    c.in_ok-_old.ensures.entries
