use Rattle.std.proofs.Common.{◌≡◌, map, take}
use Rattle.cp_link.specs.Exported.{shown}
use Rattle.cp_link.proofs.exported.all_exports.Given as goal

abbrev pub invariant-loop-part : goal.invariant-loop-part
invariant-loop-part l = l.all ≡ map shown (take l.part-index l.parts)
