use Rattle.std.proofs.Common.{◌≡◌, ◌+◌, true, cond, List, length, drop, ◌∙◌, ap, subst}
use Rattle.std.specs.Prelude.{None}
use Rattle.cp_term.specs.declared.cell.Cell.{Cell}
use Rattle.cp_term.specs.Preorder.{is_terms}
use Rattle.cp_code.specs.Properties.{matched}
use Rattle.cp_props.specs.Pending.{pending}
use Rattle.cp_props.specs.Patterns.{places_shown, found}
use Rattle.cp_props.proofs.Stacks.{drop-item, terms-step}
use Rattle.cp_props.proofs.pattern.matched.Goals as goal

pub cells-preserved : goal.cells-preserved
cells-preserved c =
    let h = c.args.heap.now in
    let pattern = c.args.pattern.now in
    let i = c.cells.cell-index in
    let cell = c.cell-item.result in
    let here = drop-item pattern i cell c.cells-test.true c.cell-item.is in
    let step = c.in_ok-match_cell.ensures in
    let passed = c.if-not-branch.false in
    record {
      stack = step.stack;
      places = step.places;
      terms = terms-step (length c.cells.stack) (length c.match_cell.new.stack) cell (drop (i + 1) pattern)
          (step.count passed)
          (subst (λ (cs : List Cell). is_terms (length c.cells.stack) cs ≡ true) here c.cells.invariant.terms);
      so_far = c.cells.invariant.so_far
          ∙ ap (λ cs. found (places_shown h c.cells.places) (matched cs (pending h c.cells.stack))) here
          ∙ step.matched (drop (i + 1) pattern)
          ∙ ap (λ ok. cond ok (found (places_shown h c.match_cell.new.places) (matched (drop (i + 1) pattern) (pending h c.match_cell.new.stack))) None) passed;
    }
