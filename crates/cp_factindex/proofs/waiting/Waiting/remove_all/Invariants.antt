use Rattle.std.proofs.Common.{◌≡◌, take}
use Rattle.cp_factindex.proofs.Parking.{left_by}
use Rattle.cp_factindex.proofs.waiting.Waiting.remove_all.Given as goal

abbrev pub invariant-loop-spot : goal.invariant-loop-spot
invariant-loop-spot l = record {
  rows : l.self.rows ≡ left_by (take l.spot-index l.spots) l.fn.self.whole;
  whole : l.self.whole ≡ left_by (take l.spot-index l.spots) l.fn.self.whole;
}
