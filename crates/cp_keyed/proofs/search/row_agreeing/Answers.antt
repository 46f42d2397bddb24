use Rattle.std.proofs.Common.{rules, ◌≡◌, ◌∙◌, Option, ap, subst, sym, w64}
use Rattle.std.specs.Prelude.{ℤ}
use Rattle.std.specs.Ordering.{int_cmp}
use Rattle.std.specs.BTreeMap.{get}
use Rattle.std.proofs.lemmas.Int.{to_z-of_z}
use Rattle.cp_keyed.specs.Index.{has_agreeing, row_at}
use Rattle.cp_keyed.specs.Search.{IsLeastAfter}
use Rattle.cp_keyed.proofs.Finding.{no_tried, none_tried, tried_found, has_row}
use Rattle.cp_keyed.proofs.search.row_agreeing.Goals as goal

pub unreachable-requires : goal.unreachable-requires
unreachable-requires g c =
    let least = subst (λ (o : Option ℤ). IsLeastAfter (λ q. has_agreeing g.T.Keyed.key (get int_cmp c.args.rows.now q) c.args.key.now) c.args.after o) c.in-Some.is c.in_ok-number.ensures in
    has_row g.T.Keyed.key (row_at c.in-Some.number c.args.rows.now.entries) c.args.key.now least.0
    (ap (λ (n : ℤ). row_at n c.args.rows.now.entries) (sym (to_z-of_z w64 c.in-Some.number (search rules))) ∙ c.in-None-row_with.ensures)

pub returns-in-Some-row_with : goal.returns-in-Some-row_with
returns-in-Some-row_with g c =
    let least = subst (λ (o : Option ℤ). IsLeastAfter (λ q. has_agreeing g.T.Keyed.key (get int_cmp c.args.rows.now q) c.args.key.now) c.args.after o) c.in-Some.is c.in_ok-number.ensures in
    tried_found g.T.Keyed.key c.args.rows.now.entries c.args.key.now c.args.after c.in-Some-row_with.found.0 c.in-Some.number c.in-Some-row_with.found.1.now c.requires.ascending
    (c.in-Some-row_with.ensures.0 ∙ to_z-of_z w64 c.in-Some.number (search rules)) least
    (ap (λ (n : ℤ). row_at n c.args.rows.now.entries) (sym (to_z-of_z w64 c.in-Some.number (search rules))) ∙ c.in-Some-row_with.ensures.1)

pub returns-in-None : goal.returns-in-None
returns-in-None g c = no_tried g.T.Keyed.key c.args.key.now c.args.after c.args.rows.now.entries
    (none_tried g.T.Keyed.key c.args.rows.now.entries c.requires.ascending c.args.key.now c.args.after
    (subst (λ (o : Option ℤ). IsLeastAfter (λ q. has_agreeing g.T.Keyed.key (get int_cmp c.args.rows.now q) c.args.key.now) c.args.after o) c.in-None.is c.in_ok-number.ensures))
