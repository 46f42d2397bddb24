use Rattle.std.proofs.Common.{rules}
use Rattle.cp_top.proofs.Telling.{told_run, short_run}
use Rattle.cp_top.proofs.Workers.{all_workers}
use Rattle.cp_top.proofs.sim.run.Goals as goal

pub tell-requires-clause-workers : goal.tell-requires-clause-workers
tell-requires-clause-workers g c =
    all_workers c.args.code.now.program c.args.settings.seed c.args.code.now.steps c.args.settings.engines c.in-Some.outcome (search rules)

pub returns-in-None : goal.returns-in-None
returns-in-None g c =
    short_run g.S.Sink.held g.S.Sink.faults c.args.code.now.program c.args.settings.seed c.args.code.now.steps c.args.settings.engines c.args.settings.log c.args.out c.simulate-outcome.result.sink c.short.result.out c.short.result.status c.short.result.outcome
    (search rules) c.requires.faultless c.short.ensures.status c.short.ensures.none c.short.ensures.out

pub returns-in-Some : goal.returns-in-Some
returns-in-Some g c =
    told_run g.S.Sink.held g.S.Sink.faults c.args.code.now.program c.args.settings.seed c.args.code.now.steps c.args.settings.engines c.args.settings.log c.in-Some.outcome c.args.out c.tell.result.out c.tell.result.status c.tell.result.outcome
    (search rules) (c.tell.ensures c.args.out c.requires.faultless (search rules))
