use Rattle.cp_engine.specs.Walking.{code}
use Rattle.cp_engine.proofs.WalkLaws.{moved-walks}
use Rattle.cp_engine.proofs.advance.advance.Goals as goal

pub moves-preserved : goal.moves-preserved
moves-preserved c past w =
    moved-walks c.the_machine_keeps_its_meaning.ensures.moves (code c.args.code.now) c.args.started.now.goal past c.moves.run c.one_move.new.run (c.moves.invariant past w) c.in_ok-one_move.ensures.stands (c.in_ok-one_move.ensures.moved c.args.code.now.steps)

pub one_move-requires-clause-stands : goal.one_move-requires-clause-stands
one_move-requires-clause-stands c = (c.moves.invariant c.requires.walks.0 c.requires.walks.1).stands
