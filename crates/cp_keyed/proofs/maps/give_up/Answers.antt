use Rattle.std.proofs.Common.{subst}
use Rattle.cp_keyed.specs.Index.{IsAhead}
use Rattle.cp_keyed.proofs.Indexing.{ahead_right}
use Rattle.cp_keyed.proofs.maps.give_up.Goals as goal

pub take_out-requires-clause-right : goal.take_out-requires-clause-right
take_out-requires-clause-right g c = ahead_right g.T.Keyed.key c.args.rows.now c.args.spots.now c.in-Some.spot c.requires.indexed (subst (IsAhead c.args.spots.now) c.in-Some.is c.requires.ahead)
