use Rattle.std.proofs.Common.{◌≡◌, ◌∙◌, ap, sym}
use Rattle.cp_keyed.specs.Index.{without}
use Rattle.cp_keyed.proofs.Rows.{left_by_none, left_more}
use Rattle.cp_keyed.proofs.Indexing.{right_left}
use Rattle.cp_keyed.proofs.maps.take_all_out.Goals as goal

pub take_out-requires-clause-right : goal.take_out-requires-clause-right
take_out-requires-clause-right g c = right_left g.T.Keyed.key c.args.rows.now.entries c.args.taken.now c.loop-spot.spot-index c.spot-item.result c.loop-spot.rows.entries
    c.requires.indexed.ascending c.requires.right c.loop-spot-test.true c.spot-item.is c.loop-spot.invariant.rows

pub loop-spot-init : goal.loop-spot-init
loop-spot-init g c = record { rows = sym (left_by_none c.args.rows.now.entries); indexed = c.requires.indexed }

pub loop-spot-preserved : goal.loop-spot-preserved
loop-spot-preserved g c = record {
  rows = left_more c.args.taken.now c.loop-spot.spot-index c.spot-item.result c.args.rows.now.entries c.take_out.new.rows.entries c.loop-spot-test.true c.spot-item.is
      (c.take_out.ensures.rows ∙ ap (without c.spot-item.result.1) c.loop-spot.invariant.rows);
  indexed = c.take_out.ensures.indexed;
}
