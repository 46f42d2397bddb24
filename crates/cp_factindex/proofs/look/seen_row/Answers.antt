use Rattle.std.proofs.Common.{rules, Some, arith, sym, ◌∙◌, ap, to_z, of_z, w64}
use Rattle.std.proofs.lemmas.Int.{to_z-of_z}
use Rattle.cp_counted.specs.Keys.{term_key}
use Rattle.cp_factindex.proofs.Collecting.{next_tried, none_tried, row_tried, fewer, fewest}
use Rattle.cp_factindex.proofs.Looking.{left, seen_is, seen_in, tries_in, seen_first, seen_later, tries_later, tries_more, looked}
use Rattle.cp_factindex.proofs.look.seen_row.Goals as goal

pub returns-in_err-place-clause-steps : goal.returns-in_err-place-clause-steps
returns-in_err-place-clause-steps g c = looked c.args.pattern.now c.args.after c.args.facts.now.rows c.rows.steps c.args.steps.now
    (fewest c.rows.steps (tries_in c.args.pattern.now (left c.args.pattern.now c.args.facts.now.rows c.rows.cursor)) _ c.rows.invariant.steps)

pub returns-in_err-unifiable_counted-clause-steps : goal.returns-in_err-unifiable_counted-clause-steps
returns-in_err-unifiable_counted-clause-steps g c =
    let q = to_z w64 (of_z w64 c.in-Some.place) in
    let next = next_tried term_key c.args.key.now (term_key c.args.pattern.now) c.args.facts.now.whole c.args.facts.now.rows c.requires.key c.requires.whole c.rows.cursor c.in-Some.place q c.in-Some.fact.now
    (to_z-of_z w64 c.in-Some.place (search rules)) (rw c.in-Some.is at c.in_ok-place.ensures.found) in
    looked c.args.pattern.now c.args.after c.args.facts.now.rows c.unifiable_counted.new.steps c.args.steps.now
    (tries_more c.args.pattern.now (left c.args.pattern.now c.args.facts.now.rows c.args.after) (left c.args.pattern.now c.args.facts.now.rows c.rows.cursor) (left c.args.pattern.now c.args.facts.now.rows (Some q)) (q, c.in-Some.fact.now) next
    c.rows.steps _ c.unifiable_counted.new.steps c.unifiable_counted.ensures.steps c.rows.invariant.steps)

pub returns-in_err-copy-clause-steps : goal.returns-in_err-copy-clause-steps
returns-in_err-copy-clause-steps g c =
    let q = to_z w64 (of_z w64 c.in-Some.place) in
    let next = next_tried term_key c.args.key.now (term_key c.args.pattern.now) c.args.facts.now.whole c.args.facts.now.rows c.requires.key c.requires.whole c.rows.cursor c.in-Some.place q c.in-Some.fact.now
    (to_z-of_z w64 c.in-Some.place (search rules)) (rw c.in-Some.is at c.in_ok-place.ensures.found) in
    looked c.args.pattern.now c.args.after c.args.facts.now.rows c.unifiable_counted.new.steps c.args.steps.now
    (tries_more c.args.pattern.now (left c.args.pattern.now c.args.facts.now.rows c.args.after) (left c.args.pattern.now c.args.facts.now.rows c.rows.cursor) (left c.args.pattern.now c.args.facts.now.rows (Some q)) (q, c.in-Some.fact.now) next
    c.rows.steps _ c.unifiable_counted.new.steps c.unifiable_counted.ensures.steps c.rows.invariant.steps)

pub returns-then-branch-clause-found : goal.returns-then-branch-clause-found
returns-then-branch-clause-found g c =
    let q = to_z w64 (of_z w64 c.in-Some.place) in
    let next = next_tried term_key c.args.key.now (term_key c.args.pattern.now) c.args.facts.now.whole c.args.facts.now.rows c.requires.key c.requires.whole c.rows.cursor c.in-Some.place q c.in-Some.fact.now
    (to_z-of_z w64 c.in-Some.place (search rules)) (rw c.in-Some.is at c.in_ok-place.ensures.found) in
    rw c.in_ok-copy.ensures (seen_first c.args.pattern.now (left c.args.pattern.now c.args.facts.now.rows c.args.after) (left c.args.pattern.now c.args.facts.now.rows c.rows.cursor) (left c.args.pattern.now c.args.facts.now.rows (Some q)) (q, c.in-Some.fact.now) next
    c.rows.invariant.seen (sym c.in_ok-unifiable_counted.ensures.value ∙ c.if-branch.true)
    ∙ sym (seen_is c.args.pattern.now c.args.after c.args.facts.now.rows))

pub returns-then-branch-clause-row : goal.returns-then-branch-clause-row
returns-then-branch-clause-row g c =
    let q = to_z w64 (of_z w64 c.in-Some.place) in
    let next = next_tried term_key c.args.key.now (term_key c.args.pattern.now) c.args.facts.now.whole c.args.facts.now.rows c.requires.key c.requires.whole c.rows.cursor c.in-Some.place q c.in-Some.fact.now
    (to_z-of_z w64 c.in-Some.place (search rules)) (rw c.in-Some.is at c.in_ok-place.ensures.found) in
    rw c.in_ok-copy.ensures (row_tried term_key c.args.key.now (term_key c.args.pattern.now) c.args.facts.now.whole c.args.facts.now.rows c.requires.key c.requires.whole c.rows.cursor q c.in-Some.fact.now c.first_agreeing.ensures.ascending next)

pub returns-then-branch-clause-steps : goal.returns-then-branch-clause-steps
returns-then-branch-clause-steps g c =
    let q = to_z w64 (of_z w64 c.in-Some.place) in
    let next = next_tried term_key c.args.key.now (term_key c.args.pattern.now) c.args.facts.now.whole c.args.facts.now.rows c.requires.key c.requires.whole c.rows.cursor c.in-Some.place q c.in-Some.fact.now
    (to_z-of_z w64 c.in-Some.place (search rules)) (rw c.in-Some.is at c.in_ok-place.ensures.found) in
    looked c.args.pattern.now c.args.after c.args.facts.now.rows c.unifiable_counted.new.steps c.args.steps.now
    (tries_more c.args.pattern.now (left c.args.pattern.now c.args.facts.now.rows c.args.after) (left c.args.pattern.now c.args.facts.now.rows c.rows.cursor) (left c.args.pattern.now c.args.facts.now.rows (Some q)) (q, c.in-Some.fact.now) next
    c.rows.steps _ c.unifiable_counted.new.steps c.unifiable_counted.ensures.steps c.rows.invariant.steps)

pub rows-smaller : goal.rows-smaller
rows-smaller g c =
    let q = to_z w64 (of_z w64 c.in-Some.place) in
    let next = next_tried term_key c.args.key.now (term_key c.args.pattern.now) c.args.facts.now.whole c.args.facts.now.rows c.requires.key c.requires.whole c.rows.cursor c.in-Some.place q c.in-Some.fact.now
    (to_z-of_z w64 c.in-Some.place (search rules)) (rw c.in-Some.is at c.in_ok-place.ensures.found) in
    omega (arith, fewer (left c.args.pattern.now c.args.facts.now.rows c.rows.cursor) (left c.args.pattern.now c.args.facts.now.rows (Some q)) (q, c.in-Some.fact.now) next)

pub rows-preserved : goal.rows-preserved
rows-preserved g c =
    let q = to_z w64 (of_z w64 c.in-Some.place) in
    let next = next_tried term_key c.args.key.now (term_key c.args.pattern.now) c.args.facts.now.whole c.args.facts.now.rows c.requires.key c.requires.whole c.rows.cursor c.in-Some.place q c.in-Some.fact.now
    (to_z-of_z w64 c.in-Some.place (search rules)) (rw c.in-Some.is at c.in_ok-place.ensures.found) in
    let apart = sym c.in_ok-unifiable_counted.ensures.value ∙ c.if-branch.false in
    record {
      seen = seen_later c.args.pattern.now (left c.args.pattern.now c.args.facts.now.rows c.args.after) (left c.args.pattern.now c.args.facts.now.rows c.rows.cursor) (left c.args.pattern.now c.args.facts.now.rows (Some q)) (q, c.in-Some.fact.now) next
          c.rows.invariant.seen apart;
      counted = omega (arith, c.unifiable_counted.ensures.steps, c.rows.invariant.counted);
      steps = tries_later c.args.pattern.now (left c.args.pattern.now c.args.facts.now.rows c.args.after) (left c.args.pattern.now c.args.facts.now.rows c.rows.cursor) (left c.args.pattern.now c.args.facts.now.rows (Some q)) (q, c.in-Some.fact.now) next
          c.rows.steps _ c.unifiable_counted.new.steps c.unifiable_counted.ensures.steps c.rows.invariant.steps apart;
    }

pub returns-clause-found : goal.returns-clause-found
returns-clause-found g c = sym (seen_is c.args.pattern.now c.args.after c.args.facts.now.rows ∙ (c.rows.invariant.seen ∙ ap (seen_in c.args.pattern.now) (none_tried term_key c.args.key.now (term_key c.args.pattern.now) c.args.facts.now.whole c.args.facts.now.rows c.requires.key c.requires.whole c.rows.cursor (rw c.in_default.is at c.in_ok-place.ensures.found))))

pub returns-clause-steps : goal.returns-clause-steps
returns-clause-steps g c = looked c.args.pattern.now c.args.after c.args.facts.now.rows c.rows.steps c.args.steps.now
    (fewest c.rows.steps (tries_in c.args.pattern.now (left c.args.pattern.now c.args.facts.now.rows c.rows.cursor)) _ c.rows.invariant.steps)
