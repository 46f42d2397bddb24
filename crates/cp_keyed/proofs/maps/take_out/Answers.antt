use Rattle.std.proofs.Common.{◌∙◌}
use Rattle.cp_keyed.proofs.Rows.{removed_is}
use Rattle.cp_keyed.proofs.Indexing.{taken}
use Rattle.cp_keyed.proofs.maps.take_out.Goals as goal

pub returns-clause-rows : goal.returns-clause-rows
returns-clause-rows g c = c.remove-2.ensures.entries ∙ removed_is c.args.spot.now.1 c.args.rows.now.entries c.requires.indexed.ascending

pub returns-clause-indexed : goal.returns-clause-indexed
returns-clause-indexed g c = taken g.T.Keyed.key c.args.rows.now c.remove-2.new.self c.args.spots.now c.remove.new.self c.requires.indexed c.args.spot.now.0 c.args.spot.now.1
    c.requires.right c.remove-2.ensures.updates.0 c.remove.ensures.updates.0 c.remove-2.ensures.ordered
