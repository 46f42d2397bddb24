use Rattle.std.proofs.Common.{◌∙◌, ap}
use Rattle.cp_run.specs.Shown.{moved}
use Rattle.cp_run.specs.Gaining.{throw_row}
use Rattle.cp_run.proofs.GainLaws.{gained-is}
use Rattle.cp_run.proofs.run.Run.raise.Goals as goal

pub throw-requires-clause-holds : goal.throw-requires-clause-holds
throw-requires-clause-holds c =
    (gained-is c.args.self.now c.error_ball.new.heap c.requires.holds
    (record { bindings = c.in_ok-ball.ensures.bindings; extends = c.in_ok-ball.ensures.extends; trail = c.in_ok-ball.ensures.trail; variables = c.in_ok-ball.ensures.variables })).extended.holds

pub returns-clause-moved : goal.returns-clause-moved
returns-clause-moved c code level =
    c.in_ok-throw.ensures.moved code level
    ∙ (gained-is c.args.self.now c.error_ball.new.heap c.requires.holds
    (record { bindings = c.in_ok-ball.ensures.bindings; extends = c.in_ok-ball.ensures.extends; trail = c.in_ok-ball.ensures.trail; variables = c.in_ok-ball.ensures.variables })).moved code c.args.rest level (throw_row c.in_ok-ball.ball) c.requires.rest
    ∙ ap (λ b. moved code c.args.self.now c.args.rest level (throw_row b)) c.in_ok-ball.ensures.ball
