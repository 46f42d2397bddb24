use Rattle.std.proofs.Common.{◌≡◌, drop}
use Rattle.cp_link.specs.Refusals.{is_module_of}
use Rattle.cp_link.proofs.refusals.is_module_of.Given as goal

abbrev pub invariant-loop-part : goal.invariant-loop-part
invariant-loop-part l = is_module_of (drop l.part-index l.parts) l.name ≡ is_module_of l.parts l.name
