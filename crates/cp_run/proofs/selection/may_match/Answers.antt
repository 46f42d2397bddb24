use Rattle.std.proofs.Common.{sym, ◌∙◌, ap}
use Rattle.cp_heap.specs.State.{instance_at}
use Rattle.cp_code.specs.Clauses.{first_argument, can_match}
use Rattle.cp_run.proofs.SelectionLaws.{first_compared}
use Rattle.cp_run.proofs.selection.may_match.Goals as goal

pub returns-in-Some-first_argument : goal.returns-in-Some-first_argument
returns-in-Some-first_argument c refused =
    ap (can_match (first_argument (instance_at c.args.heap.now c.args.goal.at))) (sym c.in-Some-first_argument.ensures)
    ∙ first_compared (instance_at c.args.heap.now c.args.goal.at) (instance_at c.args.heap.now c.in-Some.at.at) c.in-Some-first_argument.own.now c.may_begin.result
    c.in-Some.ensures.1 c.may_begin.ensures.term c.may_begin.ensures.begins refused
