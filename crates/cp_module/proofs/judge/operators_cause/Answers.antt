use Rattle.std.proofs.Common.{◌≡◌, true, false, sym, arith}
use Rattle.std.specs.List.{list_all}
use Rattle.cp_module.specs.Operators.{is_accepted}
use Rattle.cp_module.proofs.OperatorLaws.{cause_accepted}
use Rattle.cp_module.proofs.judge.operators_cause.Goals as goal

pub returns-then-are_accepted : goal.returns-then-are_accepted
returns-then-are_accepted c =
    let h : true ≡ list_all (is_accepted c.args.priority c.args.kind.now) c.args.names.now = grind arith in
    sym (cause_accepted c.args.priority c.args.kind.now c.args.names.now true h)

pub returns-else-are_accepted : goal.returns-else-are_accepted
returns-else-are_accepted c =
    let h : false ≡ list_all (is_accepted c.args.priority c.args.kind.now) c.args.names.now = grind arith in
    sym (cause_accepted c.args.priority c.args.kind.now c.args.names.now false h)
