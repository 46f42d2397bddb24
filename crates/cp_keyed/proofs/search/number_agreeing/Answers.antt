use Rattle.cp_counted.specs.declared.key.Key.TheVariants.{Missing}
use Rattle.cp_keyed.specs.Spots.{stands_at}
use Rattle.cp_keyed.proofs.Finding.{by_spots}
use Rattle.cp_keyed.proofs.search.number_agreeing.Goals as goal

pub returns : goal.returns
returns g c = by_spots g.T.Keyed.key c.args.rows.now c.args.spots.now c.args.key.now c.args.after c.lesser.result c.requires c.in_default.not-Missing
    (c.lesser.ensures (stands_at c.args.spots.now Missing) (stands_at c.args.spots.now c.args.key.now) c.args.after c.in_ok-missing.ensures c.in_ok-same.ensures)
