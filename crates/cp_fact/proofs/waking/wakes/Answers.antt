use Rattle.std.proofs.Common.{◌≡◌, ◌<◌, sym, ◌∙◌, ap, ◌++◌, ◌∷◌, [], take}
use Rattle.cp_call.specs.Object.{left_parked}
use Rattle.cp_call.specs.declared.outcome.ParkedRow.{ParkedRow}
use Rattle.cp_fact.proofs.Rows.{woken_more, woken_same, left_more, left_same}
use Rattle.cp_fact.proofs.waking.wakes.Goals as goal
use Rattle.cp_fact.proofs.waking.wakes.Goals.{then-branch+in_ok-push, else-branch+in_ok-copy_row+in_ok-push-2}

pub loop-row-preserved : goal.loop-row-preserved
loop-row-preserved c = elim c.if-branch.branch [
  | then-branch+in_ok-push w ↦ rw (w.callers-is, w.left-is) (record {
    callers = w.in_ok-push.ensures.ok ∙ (ap (λ r. r ++ c.row-item.result.caller ∷ []) c.loop-row.invariant.callers
        ∙ sym (woken_more c.args.fact.now c.args.parked.now c.loop-row.row-index c.row-item.result c.loop-row-test.true c.row-item.is (sym c.in_ok-sees_fact.ensures ∙ w.if-branch.true)));
    left = c.loop-row.invariant.left
        ∙ sym (left_same c.args.fact.now c.args.parked.now c.loop-row.row-index c.row-item.result c.loop-row-test.true c.row-item.is (sym c.in_ok-sees_fact.ensures ∙ w.if-branch.true));
  })
  | else-branch+in_ok-copy_row+in_ok-push-2 w ↦ rw (w.callers-is, w.left-is) (record {
    callers = c.loop-row.invariant.callers
        ∙ sym (woken_same c.args.fact.now c.args.parked.now c.loop-row.row-index c.row-item.result c.loop-row-test.true c.row-item.is (sym c.in_ok-sees_fact.ensures ∙ w.if-branch.false));
    left = w.in_ok-push-2.ensures.ok ∙ (ap (λ r. r ++ w.in_ok-copy_row.field-0 ∷ []) c.loop-row.invariant.left
        ∙ (ap (λ (x : ParkedRow). left_parked c.args.fact.now (take c.loop-row.row-index c.args.parked.now) ++ x ∷ []) w.in_ok-copy_row.ensures
        ∙ sym (left_more c.args.fact.now c.args.parked.now c.loop-row.row-index c.row-item.result c.loop-row-test.true c.row-item.is (sym c.in_ok-sees_fact.ensures ∙ w.if-branch.false))));
  })
]
