use Rattle.std.proofs.Common.{◌≡◌, map, take}
use Rattle.cp_link.specs.Modules.{name_of}
use Rattle.cp_assemble.proofs.modules.names.Given as goal

abbrev pub invariant-loop-part : goal.invariant-loop-part
invariant-loop-part l = l.all ≡ map name_of (take l.part-index l.parts)
