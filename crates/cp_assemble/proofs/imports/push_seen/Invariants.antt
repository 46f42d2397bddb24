use Rattle.std.proofs.Common.{◌≡◌, ◌++◌, map}
use Rattle.cp_link.specs.Linked.{import_in}
use Rattle.cp_assemble.proofs.imports.push_seen.Given as goal

abbrev pub invariant-loop-pred : goal.invariant-loop-pred
invariant-loop-pred l = l.all ≡ l.initial.all ++ map (import_in l.seer) l.yielded
