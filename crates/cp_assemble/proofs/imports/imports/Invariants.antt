use Rattle.std.proofs.Common.{◌≡◌, take}
use Rattle.std.specs.List.{flat_map}
use Rattle.cp_link.specs.Linked.{imports_of}
use Rattle.cp_assemble.proofs.imports.imports.Given as goal

abbrev pub invariant-loop-part : goal.invariant-loop-part
invariant-loop-part l = l.all ≡ flat_map (imports_of l.parts) (take l.part-index l.parts)
