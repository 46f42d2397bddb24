use Rattle.std.proofs.Common.{◌≡◌, take}
use Rattle.cp_keyed.specs.Index.{IsIndexed}
use Rattle.cp_keyed.proofs.Rows.{left_by}
use Rattle.cp_keyed.proofs.maps.take_all_out.Given as goal

abbrev pub invariant-loop-spot : goal.invariant-loop-spot
invariant-loop-spot g l = record {
  rows : l.rows.entries ≡ left_by (take l.spot-index l.taken) l.fn.rows.entries;
  indexed : IsIndexed g.T.Keyed.key l.rows l.spots;
}
