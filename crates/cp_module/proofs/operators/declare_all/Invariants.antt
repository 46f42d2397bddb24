use Rattle.std.proofs.Common.{◌≡◌, true, drop}
use Rattle.std.specs.List.{list_all}
use Rattle.cp_module.specs.Texts.{declared}
use Rattle.cp_module.specs.Operators.{is_accepted}
use Rattle.cp_module.proofs.operators.declare_all.Given as goal

abbrev pub invariant-loop-name : goal.invariant-loop-name
invariant-loop-name l = record {
  accepted : list_all (is_accepted l.priority l.kind) (drop l.name-index l.names) ≡ true;
  declared : declared l.ops l.priority l.kind (drop l.name-index l.names) ≡ declared l.initial.ops l.priority l.kind l.names;
}
