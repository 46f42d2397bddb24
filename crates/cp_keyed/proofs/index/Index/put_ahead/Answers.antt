use Rattle.std.proofs.Common.{◌≡◌, ◌∙◌, List, ap, w64}
use Rattle.std.specs.Prelude.{ℤ}
use Rattle.std.proofs.lemmas.Int.{to_z-of_z}
use Rattle.cp_keyed.specs.Index.{IndexView, row_at}
use Rattle.cp_keyed.proofs.Ahead.{ahead_left_out}
use Rattle.cp_keyed.proofs.index.Index.put_ahead.Goals as goal

pub put_in-requires-clause-fresh : goal.put_in-requires-clause-fresh
put_in-requires-clause-fresh g c = ap (λ (n : ℤ). row_at n c.self.inside.rows.entries) (to_z-of_z w64 c.args.number c.ranges.number)
    ∙ (ap (λ (es : List (ℤ × g.row.T.Denot)). row_at c.args.number es) (ap (λ (v : IndexView g.row.T.Denot). v.whole) c.self.view_is ∙ c.drop_ahead.ensures.whole) ∙ c.requires.fresh)

pub returns-clause-rows : goal.returns-clause-rows
returns-clause-rows g c =
    let whole = ap (λ (v : IndexView g.row.T.Denot). v.whole) c.self.view_is ∙ c.drop_ahead.ensures.whole in
    ahead_left_out c.in_ok-spot.spot c.args.key _ c.args.row c.self.inside.rows.entries c.put_in.new.rows.entries c.args.self.now.rows c.in_ok-spot.ensures.spot c.in_ok-spot.ensures.rows
    (ap (λ (n : ℤ). row_at n c.self.inside.rows.entries) (to_z-of_z w64 c.args.number c.ranges.number) ∙ (ap (λ (es : List (ℤ × g.row.T.Denot)). row_at c.args.number es) whole ∙ c.requires.fresh)) whole
