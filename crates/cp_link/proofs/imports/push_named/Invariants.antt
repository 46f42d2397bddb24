use Rattle.std.proofs.Common.{◌≡◌, ◌++◌, map, take}
use Rattle.cp_link.specs.Modules.{in_module}
use Rattle.cp_link.proofs.imports.push_named.Given as goal

abbrev pub invariant-loop-pred : goal.invariant-loop-pred
invariant-loop-pred l = l.all ≡ l.initial.all ++ map (in_module l.module_name) (take l.pred-index l.preds)
