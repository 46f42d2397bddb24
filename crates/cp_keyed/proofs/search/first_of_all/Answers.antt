use Rattle.std.proofs.Common.{subst}
use Rattle.std.specs.Prelude.{ℤ, negsuc}
use Rattle.std.specs.declared.ops.Bound.TheVariants.{Included, Unbounded}
use Rattle.std.specs.BTreeSet.{IsKeyRangeOf}
use Rattle.cp_counted.specs.declared.key.Key.{Key}
use Rattle.cp_keyed.specs.Spots.{spot_cmp}
use Rattle.cp_keyed.proofs.Searching.{spots_from}
use Rattle.cp_keyed.proofs.search.first_of_all.Goals as goal

pub returns : goal.returns
returns c = rw c.number_of.ensures (spots_from c.args.spots.now c.args.key.now (negsuc 9223372036854775807) c.requires c.range.result c.next.new.self c.next.result
    (subst (λ (k : Key). IsKeyRangeOf spot_cmp (Included (k, negsuc 9223372036854775807)) Unbounded c.args.spots.now c.range.result) c.in_ok-clone.ensures.cases (c.range.ensures.in_range tt))
    c.next.ensures.steps)
