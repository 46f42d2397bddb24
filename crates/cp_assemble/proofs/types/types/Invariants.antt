use Rattle.std.proofs.Common.{◌≡◌, take}
use Rattle.std.specs.List.{flat_map}
use Rattle.cp_link.specs.Linked.{types_in}
use Rattle.cp_assemble.proofs.types.types.Given as goal

abbrev pub invariant-loop-part : goal.invariant-loop-part
invariant-loop-part l = l.all ≡ flat_map types_in (take l.part-index l.parts)
