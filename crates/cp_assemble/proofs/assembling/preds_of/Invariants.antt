use Rattle.std.proofs.Common.{◌≡◌, take}
use Rattle.std.specs.List.{flat_map}
use Rattle.cp_link.specs.Linked.{preds_in}
use Rattle.cp_link.specs.Lawful.{AllHaveBodies}
use Rattle.cp_assemble.proofs.assembling.preds_of.Given as goal

abbrev pub invariant-loop-part : goal.invariant-loop-part
invariant-loop-part l = (l.all ≡ flat_map (preds_in l.shared) (take l.part-index l.parts)) × AllHaveBodies l.all
