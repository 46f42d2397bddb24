use Rattle.std.proofs.Common.{rules, Some, None, length, arith, sym, subst, ◌∙◌, ap, to_z, of_z, w64}
use Rattle.std.proofs.lemmas.Int.{to_z-of_z}
use Rattle.cp_counted.specs.Keys.{term_key}
use Rattle.cp_keyed.specs.Index.{AreAscending}
use Rattle.cp_factindex.proofs.Collecting.{spots_in, next_tried, none_tried, gathers, passes, gathered_all, counts, fewer, fewest}
use Rattle.cp_factindex.proofs.Looking.{left}
use Rattle.cp_factindex.proofs.Purging.{unified, purges_at_most, purged}
use Rattle.cp_factindex.proofs.look.unifying_rows.Goals as goal

pub returns-in_err-place-clause-steps : goal.returns-in_err-place-clause-steps
returns-in_err-place-clause-steps g c =
    purges_at_most c.args.pattern.now c.args.facts.now.rows c.rows.steps c.args.steps.now (fewest c.rows.steps (length (left c.args.pattern.now c.args.facts.now.rows c.rows.cursor)) _ c.rows.invariant.steps)

pub returns-in_err-unifiable_counted-clause-steps : goal.returns-in_err-unifiable_counted-clause-steps
returns-in_err-unifiable_counted-clause-steps g c =
    let q = to_z w64 (of_z w64 c.in-Some.place) in
    let next = next_tried term_key c.args.key.now (term_key c.args.pattern.now) c.args.facts.now.whole c.args.facts.now.rows c.requires.key c.requires.whole c.rows.cursor c.in-Some.place q c.in-Some.fact.now
    (to_z-of_z w64 c.in-Some.place (search rules)) (rw c.in-Some.is at c.in_ok-place.ensures.found) in
    purges_at_most c.args.pattern.now c.args.facts.now.rows c.unifiable_counted.new.steps c.args.steps.now (fewest c.unifiable_counted.new.steps (length (left c.args.pattern.now c.args.facts.now.rows (Some q))) _
    (counts (left c.args.pattern.now c.args.facts.now.rows c.rows.cursor) (left c.args.pattern.now c.args.facts.now.rows (Some q)) (q, c.in-Some.fact.now) next c.rows.steps _ c.unifiable_counted.new.steps c.unifiable_counted.ensures.steps c.rows.invariant.steps))

pub returns-in_err-key-clause-steps : goal.returns-in_err-key-clause-steps
returns-in_err-key-clause-steps g c =
    let q = to_z w64 (of_z w64 c.in-Some.place) in
    let next = next_tried term_key c.args.key.now (term_key c.args.pattern.now) c.args.facts.now.whole c.args.facts.now.rows c.requires.key c.requires.whole c.rows.cursor c.in-Some.place q c.in-Some.fact.now
    (to_z-of_z w64 c.in-Some.place (search rules)) (rw c.in-Some.is at c.in_ok-place.ensures.found) in
    purges_at_most c.args.pattern.now c.args.facts.now.rows c.unifiable_counted.new.steps c.args.steps.now (fewest c.unifiable_counted.new.steps (length (left c.args.pattern.now c.args.facts.now.rows (Some q))) _
    (counts (left c.args.pattern.now c.args.facts.now.rows c.rows.cursor) (left c.args.pattern.now c.args.facts.now.rows (Some q)) (q, c.in-Some.fact.now) next c.rows.steps _ c.unifiable_counted.new.steps c.unifiable_counted.ensures.steps c.rows.invariant.steps))

pub returns-in_err-push-clause-steps : goal.returns-in_err-push-clause-steps
returns-in_err-push-clause-steps g c =
    let q = to_z w64 (of_z w64 c.in-Some.place) in
    let next = next_tried term_key c.args.key.now (term_key c.args.pattern.now) c.args.facts.now.whole c.args.facts.now.rows c.requires.key c.requires.whole c.rows.cursor c.in-Some.place q c.in-Some.fact.now
    (to_z-of_z w64 c.in-Some.place (search rules)) (rw c.in-Some.is at c.in_ok-place.ensures.found) in
    purges_at_most c.args.pattern.now c.args.facts.now.rows c.unifiable_counted.new.steps c.args.steps.now (fewest c.unifiable_counted.new.steps (length (left c.args.pattern.now c.args.facts.now.rows (Some q))) _
    (counts (left c.args.pattern.now c.args.facts.now.rows c.rows.cursor) (left c.args.pattern.now c.args.facts.now.rows (Some q)) (q, c.in-Some.fact.now) next c.rows.steps _ c.unifiable_counted.new.steps c.unifiable_counted.ensures.steps c.rows.invariant.steps))

pub rows-smaller-in_ok-push : goal.rows-smaller-in_ok-push
rows-smaller-in_ok-push g c =
    let q = to_z w64 (of_z w64 c.in-Some.place) in
    let next = next_tried term_key c.args.key.now (term_key c.args.pattern.now) c.args.facts.now.whole c.args.facts.now.rows c.requires.key c.requires.whole c.rows.cursor c.in-Some.place q c.in-Some.fact.now
    (to_z-of_z w64 c.in-Some.place (search rules)) (rw c.in-Some.is at c.in_ok-place.ensures.found) in
    omega (arith, fewer (left c.args.pattern.now c.args.facts.now.rows c.rows.cursor) (left c.args.pattern.now c.args.facts.now.rows (Some q)) (q, c.in-Some.fact.now) next)

pub rows-smaller : goal.rows-smaller
rows-smaller g c =
    let q = to_z w64 (of_z w64 c.in-Some.place) in
    let next = next_tried term_key c.args.key.now (term_key c.args.pattern.now) c.args.facts.now.whole c.args.facts.now.rows c.requires.key c.requires.whole c.rows.cursor c.in-Some.place q c.in-Some.fact.now
    (to_z-of_z w64 c.in-Some.place (search rules)) (rw c.in-Some.is at c.in_ok-place.ensures.found) in
    omega (arith, fewer (left c.args.pattern.now c.args.facts.now.rows c.rows.cursor) (left c.args.pattern.now c.args.facts.now.rows (Some q)) (q, c.in-Some.fact.now) next)

pub rows-preserved-in_ok-push : goal.rows-preserved-in_ok-push
rows-preserved-in_ok-push g c =
    let q = to_z w64 (of_z w64 c.in-Some.place) in
    let next = next_tried term_key c.args.key.now (term_key c.args.pattern.now) c.args.facts.now.whole c.args.facts.now.rows c.requires.key c.requires.whole c.rows.cursor c.in-Some.place q c.in-Some.fact.now
    (to_z-of_z w64 c.in-Some.place (search rules)) (rw c.in-Some.is at c.in_ok-place.ensures.found) in
    record {
      spots = gathers term_key (unified c.args.pattern.now) (spots_in term_key (unified c.args.pattern.now) (left c.args.pattern.now c.args.facts.now.rows None)) (left c.args.pattern.now c.args.facts.now.rows c.rows.cursor) (left c.args.pattern.now c.args.facts.now.rows (Some q)) (q, c.in-Some.fact.now) next c.rows.spots.items c.push.new.self.items (c.in_ok-key.field-0, q) c.rows.invariant.spots (sym c.in_ok-unifiable_counted.ensures.value ∙ c.if-branch.true) (ap (λ k. (k, q)) c.in_ok-key.ensures) c.in_ok-push.ensures.items;
      counted = omega (arith, c.unifiable_counted.ensures.steps, c.rows.invariant.counted);
      steps = counts (left c.args.pattern.now c.args.facts.now.rows c.rows.cursor) (left c.args.pattern.now c.args.facts.now.rows (Some q)) (q, c.in-Some.fact.now) next c.rows.steps _ c.unifiable_counted.new.steps c.unifiable_counted.ensures.steps c.rows.invariant.steps;
    }

pub rows-preserved : goal.rows-preserved
rows-preserved g c =
    let q = to_z w64 (of_z w64 c.in-Some.place) in
    let next = next_tried term_key c.args.key.now (term_key c.args.pattern.now) c.args.facts.now.whole c.args.facts.now.rows c.requires.key c.requires.whole c.rows.cursor c.in-Some.place q c.in-Some.fact.now
    (to_z-of_z w64 c.in-Some.place (search rules)) (rw c.in-Some.is at c.in_ok-place.ensures.found) in
    record {
      spots = passes term_key (unified c.args.pattern.now) (spots_in term_key (unified c.args.pattern.now) (left c.args.pattern.now c.args.facts.now.rows None)) (left c.args.pattern.now c.args.facts.now.rows c.rows.cursor) (left c.args.pattern.now c.args.facts.now.rows (Some q)) (q, c.in-Some.fact.now) next c.rows.spots.items c.rows.invariant.spots (sym c.in_ok-unifiable_counted.ensures.value ∙ c.if-branch.false);
      counted = omega (arith, c.unifiable_counted.ensures.steps, c.rows.invariant.counted);
      steps = counts (left c.args.pattern.now c.args.facts.now.rows c.rows.cursor) (left c.args.pattern.now c.args.facts.now.rows (Some q)) (q, c.in-Some.fact.now) next c.rows.steps _ c.unifiable_counted.new.steps c.unifiable_counted.ensures.steps c.rows.invariant.steps;
    }

pub returns-clause-purged : goal.returns-clause-purged
returns-clause-purged g c = purged c.args.pattern.now c.args.facts.now.rows (subst AreAscending c.requires.whole c.first_agreeing.ensures.ascending) c.rows.spots.items
    (gathered_all term_key (unified c.args.pattern.now) (spots_in term_key (unified c.args.pattern.now) (left c.args.pattern.now c.args.facts.now.rows None)) (left c.args.pattern.now c.args.facts.now.rows c.rows.cursor) c.rows.spots.items c.rows.invariant.spots (none_tried term_key c.args.key.now (term_key c.args.pattern.now) c.args.facts.now.whole c.args.facts.now.rows c.requires.key c.requires.whole c.rows.cursor (rw c.in_default.is at c.in_ok-place.ensures.found)))

pub returns-clause-steps : goal.returns-clause-steps
returns-clause-steps g c =
    purges_at_most c.args.pattern.now c.args.facts.now.rows c.rows.steps c.args.steps.now (fewest c.rows.steps (length (left c.args.pattern.now c.args.facts.now.rows c.rows.cursor)) _ c.rows.invariant.steps)
