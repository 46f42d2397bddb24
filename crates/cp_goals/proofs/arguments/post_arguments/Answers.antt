use Rattle.cp_term.specs.Preorder.{arguments}
use Rattle.cp_heap.specs.State.{instance_at}
use Rattle.cp_goals.proofs.ArgumentLaws.{four-are}
use Rattle.cp_goals.proofs.arguments.post_arguments.Goals as goal

pub returns-clause-arguments : goal.returns-clause-arguments
returns-clause-arguments c =
    four-are (arguments (instance_at c.args.heap.now c.args.goal.at)) _ _ _ _ c.requires.four
    c.argument_at.ensures.argument c.argument_at-2.ensures.argument c.argument_at-3.ensures.argument c.argument_at-4.ensures.argument
