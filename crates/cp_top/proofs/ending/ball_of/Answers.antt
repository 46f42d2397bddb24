use Rattle.cp_top.proofs.Inside.{ball-term, ball-numbered}
use Rattle.cp_top.proofs.ending.ball_of.Goals as goal

pub returns-clause-term : goal.returns-clause-term
returns-clause-term c = ball-term c.ball_in.result c.args.how.now c.ball_in.ensures c.requires.term

pub returns-clause-numbered : goal.returns-clause-numbered
returns-clause-numbered c = ball-numbered c.ball_in.result c.args.how.now c.ball_in.ensures c.requires.numbered
