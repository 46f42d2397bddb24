use Rattle.std.proofs.Common.{◌∙◌, ap}
use Rattle.std.specs.Prelude.{codes}
use Rattle.cp_code.specs.Requests.{full_name, existence_error}
use Rattle.cp_lists.proofs.lemmas.Growth.{gains-trans}
use Rattle.cp_run.specs.Shown.{moved}
use Rattle.cp_run.specs.Gaining.{raise_row}
use Rattle.cp_run.proofs.GainLaws.{gained-is}
use Rattle.cp_calls.proofs.calling.raise_unknown.Goals as goal

pub raise-requires-clause-holds : goal.raise-requires-clause-holds
raise-requires-clause-holds c =
    (gained-is c.args.run.now c.existence_error.new.heap c.requires.holds (gains-trans c.args.run.now.heap c.pred_indicator.new.heap c.existence_error.new.heap c.in_ok-culprit.ensures.gains c.in_ok-kind.ensures.gains)).extended.holds

pub returns-clause-moved : goal.returns-clause-moved
returns-clause-moved c code level =
    let r = c.args.run.now in
    let pred = c.in_ok-pred.pred in
    c.in_ok-raise.ensures.moved code level
    ∙ (gained-is r c.existence_error.new.heap c.requires.holds (gains-trans r.heap c.pred_indicator.new.heap c.existence_error.new.heap c.in_ok-culprit.ensures.gains c.in_ok-kind.ensures.gains)).moved code c.args.rest level (raise_row _ (full_name pred)) c.requires.rest
    ∙ ap (λ k. moved code r c.args.rest level (raise_row k (full_name pred))) c.in_ok-kind.ensures.kind
    ∙ ap (λ t. moved code r c.args.rest level (raise_row (existence_error (codes "procedure") t) (full_name pred))) c.in_ok-culprit.ensures.instance
    ∙ ap (λ p. moved code r c.args.rest level (raise_row (existence_error (codes "procedure") (full_name p)) (full_name p))) c.in_ok-pred.ensures
