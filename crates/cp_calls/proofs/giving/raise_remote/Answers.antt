use Rattle.std.proofs.Common.{◌∙◌, ap}
use Rattle.cp_code.specs.Requests.{full_name}
use Rattle.cp_run.specs.Shown.{moved}
use Rattle.cp_run.specs.Gaining.{raise_row}
use Rattle.cp_run.proofs.GainLaws.{gained-is}
use Rattle.cp_calls.proofs.giving.raise_remote.Goals as goal

pub raise-requires-clause-holds : goal.raise-requires-clause-holds
raise-requires-clause-holds c = (gained-is c.args.run.now c.put.new.heap c.requires.holds c.in_ok-kind.ensures.gains).extended.holds

pub returns-clause-moved : goal.returns-clause-moved
returns-clause-moved c code level =
    c.in_ok-raise.ensures.moved code level
    ∙ (gained-is c.args.run.now c.put.new.heap c.requires.holds c.in_ok-kind.ensures.gains).moved code c.args.rest level (raise_row _ (full_name c.args.pred.now)) c.requires.rest
    ∙ ap (λ k. moved code c.args.run.now c.args.rest level (raise_row k (full_name c.args.pred.now))) c.in_ok-kind.ensures.kind
