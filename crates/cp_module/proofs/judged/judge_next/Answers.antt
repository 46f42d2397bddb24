use Rattle.cp_module.proofs.judged.judge_next.Goals as goal

pub returns : goal.returns
returns c = record { why = c.in_ok-why.why; is_cause = c.in_ok-why.ensures; is_known = c.in_ok-note.ensures; counts = c.soonest_on.ensures }
