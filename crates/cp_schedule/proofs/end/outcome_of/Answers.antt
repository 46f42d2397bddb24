use Rattle.std.proofs.Common.{◌∙◌, ap}
use Rattle.std.specs.Prelude.{map}
use Rattle.cp_schedule.specs.Ended.{engine_ended}
use Rattle.cp_schedule.proofs.Histories.{ended_now, ended_legal}
use Rattle.cp_schedule.proofs.end.outcome_of.Goals as goal

pub returns-in_err-preds-clause-legal : goal.returns-in_err-preds-clause-legal
returns-in_err-preds-clause-legal g c = ended_legal c.args.hall c.into_ends.ensures.can_end.ends c.into_ends.ensures.can_end.kept c.into_ends.ensures.can_end.histories

pub returns-in_err-engines-clause-legal : goal.returns-in_err-engines-clause-legal
returns-in_err-engines-clause-legal g c = ended_legal c.args.hall c.into_ends.ensures.can_end.ends c.into_ends.ensures.can_end.kept c.into_ends.ensures.can_end.histories

pub returns-clause-legal : goal.returns-clause-legal
returns-clause-legal g c = ended_legal c.args.hall c.into_ends.ensures.can_end.ends c.into_ends.ensures.can_end.kept c.into_ends.ensures.can_end.histories

pub returns-clause-ended : goal.returns-clause-ended
returns-clause-ended g c =
    ap (λ es. record { steps = c.args.steps; engines = es; preds = c.in_ok-preds.preds; port = c.args.port }) c.in_ok-engines.ensures
    ∙ ap (λ ps. record { steps = c.args.steps; engines = map engine_ended c.args.shells.items; preds = ps; port = c.args.port }) (ended_now c.args.hall c.in_ok-preds.preds c.in_ok-preds.ensures.kept c.in_ok-preds.ensures.histories)
