use Rattle.cp_heap.specs.State.{instance_at}
use Rattle.cp_lists.proofs.lemmas.Stepping.{begins}
use Rattle.cp_lists.proofs.step.element.Goals as goal

pub returns : goal.returns
returns c =
    begins c.args.heap.now (instance_at c.args.heap.now c.args.at.at) c.requires.pair.1 c.in-Some.head c.in-Some-argument.tail
    c.requires.pair.0 c.requires.pair.2 c.requires.term c.requires.pair.3
    c.in-Some.ensures.1 c.in-Some-argument.ensures.1 c.in-Some.ensures.0 c.in-Some-argument.ensures.0
