use Rattle.std.proofs.Common.{◌∙◌, sym}
use Rattle.cp_factindex.specs.Waiting.{waiter_key}
use Rattle.cp_factindex.proofs.Parking.{left_by_none, left_more, right_left}
use Rattle.cp_factindex.proofs.waiting.Waiting.remove_all.Goals as goal

pub loop-spot-init : goal.loop-spot-init
loop-spot-init c = record { rows = c.show.ensures.rows ∙ sym (left_by_none c.args.self.now.whole); whole = c.show.ensures.whole ∙ sym (left_by_none c.args.self.now.whole) }

pub remove-requires : goal.remove-requires
remove-requires c = right_left waiter_key c.args.self.now.whole c.args.spots.now c.loop-spot.spot-index c.spot-item.result c.loop-spot.self.whole c.requires c.loop-spot-test.true c.spot-item.is c.loop-spot.invariant.whole

pub loop-spot-preserved : goal.loop-spot-preserved
loop-spot-preserved c = record {
  rows = left_more c.args.spots.now c.loop-spot.spot-index c.spot-item.result c.args.self.now.whole c.loop-spot.self.whole c.remove.new.self.rows c.loop-spot-test.true c.spot-item.is c.loop-spot.invariant.whole c.remove.ensures.rows;
  whole = left_more c.args.spots.now c.loop-spot.spot-index c.spot-item.result c.args.self.now.whole c.loop-spot.self.whole c.remove.new.self.whole c.loop-spot-test.true c.spot-item.is c.loop-spot.invariant.whole c.remove.ensures.whole;
}
