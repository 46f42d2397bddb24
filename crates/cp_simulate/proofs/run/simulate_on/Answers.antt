use Rattle.cp_simulate.specs.Runs.{setup}
use Rattle.cp_simulate.proofs.Safe.{safe_good}
use Rattle.cp_simulate.proofs.Outcomes.{has_begun}
use Rattle.cp_simulate.proofs.run.simulate_on.Goals as goal

pub begin-requires : goal.begin-requires
begin-requires g c = safe_good c.args.code.now.program c.requires.safe

pub returns-in-Err-clause-run : goal.returns-in-Err-clause-run
returns-in-Err-clause-run g c =
    let begun = has_begun g.S.Sink.held g.S.Sink.faults (setup c.args.code.now.program c.args.code.now.steps) c.args.code.now.steps c.args.engines c.args.sink
    (c.runs_begin_going.ensures (setup c.args.code.now.program c.args.code.now.steps) c.args.code.now.steps c.args.engines) in
    (begun.0, begun.1, tt)
