use Rattle.std.proofs.Common.{◌≡◌, take}
use Rattle.cp_link.specs.Linked.{all_shared}
use Rattle.cp_assemble.proofs.modules.all_shared.Given as goal

abbrev pub invariant-loop-part : goal.invariant-loop-part
invariant-loop-part l = l.all ≡ all_shared (take l.part-index l.parts)
