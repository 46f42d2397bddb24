use Rattle.std.proofs.Common.{subst, ◌≡◌, w64, to_z, of_z}
use Rattle.std.specs.Prelude.{ℤ}
use Rattle.std.specs.declared.ops.Bound.TheVariants.{Excluded, Unbounded}
use Rattle.std.specs.BTreeSet.{IsKeyRangeOf}
use Rattle.std.proofs.lemmas.Int.{to_z-of_z}
use Rattle.cp_counted.specs.declared.key.Key.{Key}
use Rattle.cp_keyed.specs.Spots.{spot_cmp}
use Rattle.cp_keyed.proofs.Searching.{spots_behind}
use Rattle.cp_keyed.proofs.search.first_behind.Goals as goal

pub returns : goal.returns
returns c =
    let from : (c.in_ok-clone.field-0, to_z w64 (of_z w64 c.args.after)) ≡ (c.args.key.now, c.args.after) = λ i. (c.in_ok-clone.ensures.cases i, to_z-of_z w64 c.args.after c.ranges.after i) in
    rw c.number_of.ensures (spots_behind c.args.spots.now c.args.key.now c.args.after c.range.result c.next.new.self c.next.result
    (subst (λ (s : Key × ℤ). IsKeyRangeOf spot_cmp (Excluded s) Unbounded c.args.spots.now c.range.result) from (c.range.ensures.in_range tt))
    c.next.ensures.steps)
