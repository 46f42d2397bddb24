use Rattle.std.proofs.Common.{◌∙◌, ap, sym, take, cond}
use Rattle.cp_link.specs.Linked.{either_marks}
use Rattle.cp_link.proofs.StepLaws.{taken}
use Rattle.cp_assemble.specs.Index.{is_marking_of, marks_among}
use Rattle.cp_assemble.proofs.MarkTableLaws.{among_more}
use Rattle.cp_assemble.proofs.mark_table.MarkTable.of.Goals as goal

pub loop-marking-preserved : goal.loop-marking-preserved
loop-marking-preserved c = λ p.
    let ms = c.args.markings.now in
    let i = c.loop-marking.marking-index in
    let m = c.marking-item.result in
    c.in_ok-add.ensures p
    ∙ ap (λ xs. cond (is_marking_of p m) (either_marks xs m.marks) xs) (c.loop-marking.invariant p)
    ∙ sym (among_more (take i ms) m p)
    ∙ ap (λ xs. marks_among xs p) (taken ms i m c.loop-marking-test.true c.marking-item.is)
