use Rattle.std.proofs.Common.{◌≡◌, ◌∙◌, ap, sym, w64}
use Rattle.std.specs.Prelude.{ℤ}
use Rattle.std.proofs.lemmas.Int.{to_z-of_z}
use Rattle.cp_keyed.specs.Index.{row_at}
use Rattle.cp_keyed.proofs.search.row_with.Goals as goal

pub returns-in-Some : goal.returns-in-Some
returns-in-Some g c = (to_z-of_z w64 c.args.number c.ranges.number, ap (λ (n : ℤ). row_at n c.args.rows.now.entries) (sym (to_z-of_z w64 c.args.number c.ranges.number)) ∙ sym c.in-Some.ensures.value)

pub returns-in-None : goal.returns-in-None
returns-in-None g c = ap (λ (n : ℤ). row_at n c.args.rows.now.entries) (sym (to_z-of_z w64 c.args.number c.ranges.number)) ∙ sym c.in-None.ensures.value
