use Rattle.std.proofs.Common.{◌≡◌, ◌∙◌, ap, subst, sym, None, false, true, w64}
use Rattle.std.specs.Prelude.{ℤ}
use Rattle.std.proofs.lemmas.Int.{to_z-of_z}
use Rattle.cp_keyed.specs.Index.{IndexView, row_at, stands_ahead}
use Rattle.cp_keyed.proofs.Ahead.{is_ahead, not_ahead}
use Rattle.cp_keyed.proofs.index.Index.get.Goals as goal

pub returns-then-is_ahead : goal.returns-then-is_ahead
returns-then-is_ahead g c = subst (λ (v : IndexView g.row.T.Denot). None ≡ row_at c.args.number v.rows) c.self.view_is
    (is_ahead c.self.inside.ahead c.args.number c.self.inside.rows.entries
    (subst (λ (n : ℤ). stands_ahead c.self.inside.ahead n ≡ true) (to_z-of_z w64 c.args.number c.ranges.number) (sym c.is_ahead.ensures ∙ c.if-is_ahead.true)))

pub returns : goal.returns
returns g c = c.get.ensures.value ∙ (ap (λ (n : ℤ). row_at n c.self.inside.rows.entries) (to_z-of_z w64 c.args.number c.ranges.number)
    ∙ (not_ahead c.self.inside.ahead c.args.number c.self.inside.rows.entries
    (subst (λ (n : ℤ). stands_ahead c.self.inside.ahead n ≡ false) (to_z-of_z w64 c.args.number c.ranges.number) (sym c.is_ahead.ensures ∙ c.if-is_ahead.false))
    ∙ ap (λ (v : IndexView g.row.T.Denot). row_at c.args.number v.rows) c.self.view_is))
