use Rattle.std.proofs.Common.{◌≡◌, take}
use Rattle.cp_link.specs.Linked.{all_active}
use Rattle.cp_assemble.proofs.active.all_active.Given as goal

abbrev pub invariant-loop-part : goal.invariant-loop-part
invariant-loop-part l = l.all ≡ all_active (take l.part-index l.parts)
