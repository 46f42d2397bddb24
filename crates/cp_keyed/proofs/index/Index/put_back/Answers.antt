use Rattle.std.proofs.Common.{◌≡◌, ◌∙◌, ap, w64}
use Rattle.std.specs.Prelude.{ℤ}
use Rattle.std.specs.Ordering.{int_cmp}
use Rattle.std.specs.BTreeMap.{insert_entry}
use Rattle.std.proofs.lemmas.Int.{to_z-of_z}
use Rattle.std.proofs.lemmas.Result.{IfOk-equal}
use Rattle.cp_keyed.specs.Index.{row_at}
use Rattle.cp_keyed.proofs.Rows.{inserted_back, missing_below}
use Rattle.cp_keyed.proofs.index.Index.put_back.Goals as goal

pub put_ahead-requires-clause-fresh : goal.put_ahead-requires-clause-fresh
put_ahead-requires-clause-fresh g c = ap (λ (n : ℤ). row_at n c.args.self.now.rows) (to_z-of_z w64 c.args.number c.ranges.number) ∙ missing_below c.args.number c.args.self.now.rows c.requires.back

pub returns-clause-whole : goal.returns-clause-whole
returns-clause-whole g c = IfOk-equal c.put_ahead.result _ _ _ c.put_ahead.ensures.whole
    (ap (λ (n : ℤ). insert_entry int_cmp c.args.self.now.rows n c.args.row) (to_z-of_z w64 c.args.number c.ranges.number) ∙ inserted_back c.args.number c.args.row c.args.self.now.rows c.requires.back)
