use Rattle.std.proofs.Common.{ap}
use Rattle.cp_goal.specs.declared.why.Why.TheVariants.{Unbound}
use Rattle.cp_goal.specs.Evaluation.{value}
use Rattle.cp_goal.proofs.lemmas.Values.{other}
use Rattle.cp_arith.proofs.lemmas.Plugging.{stopped, stops}
use Rattle.cp_heap.specs.Looks.{name_of}
use Rattle.cp_heap.specs.State.{instance_at}
use Rattle.cp_arith.proofs.enter.enter.Goals as goal

pub not_evaluable-requires-in-Func-clause-value : goal.not_evaluable-requires-in-Func-clause-value
not_evaluable-requires-in-Func-clause-value c = (
  c.in-Func.ensures.first.0,
  ap name_of c.in-Func.ensures.first.2,
  other (instance_at c.args.heap.now c.args.at.at) c.in-Func.ensures.first.1 c.in-Func.ensures.first.0 c.in-Func.arity c.in-Func.ensures.first.2 c.in-Func.ensures.term c.in-Func.arity-test.0.1 c.in-Func.arity-test.1,
)

pub returns-in-Var : goal.returns-in-Var
returns-in-Var c = stopped c.args.heap.now c.args.frames.now c.args.at Unbound (ap value c.in-Var.ensures.first.0)

pub returns-in-Atom : goal.returns-in-Atom
returns-in-Atom c = stops c.args.heap.now c.args.frames.now c.args.at c.not_evaluable.result c.not_evaluable.ensures

pub returns-in-Func : goal.returns-in-Func
returns-in-Func c = stops c.args.heap.now c.args.frames.now c.args.at c.not_evaluable-in-Func.result c.not_evaluable-in-Func.ensures
