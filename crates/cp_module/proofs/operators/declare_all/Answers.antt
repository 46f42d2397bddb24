use Rattle.std.proofs.Common.{◌≡◌, false, sym, ap, arith}
use Rattle.std.specs.Prelude.{unwrap_or}
use Rattle.std.specs.List.{list_all}
use Rattle.cp_module.specs.Operators.{is_accepted}
use Rattle.cp_module.proofs.OperatorLaws.{none_declared}
use Rattle.cp_module.proofs.operators.declare_all.Goals as goal

pub returns-then-not-are_accepted : goal.returns-then-not-are_accepted
returns-then-not-are_accepted c =
    let ops = c.args.ops.now in
    let h : list_all (is_accepted c.args.priority c.args.kind.now) c.args.names.now ≡ false = grind arith in
    ap (λ o. unwrap_or o ops) (sym (none_declared ops c.args.priority c.args.kind.now c.args.names.now h))
