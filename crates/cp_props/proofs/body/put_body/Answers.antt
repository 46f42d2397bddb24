use Rattle.std.proofs.Common.{◌≡◌, ◌<◌, true, cond, List, [], ◌∷◌, length, refl, sym, ◌∙◌, ap, subst, arith}
use Rattle.std.specs.Prelude.{Some, None}
use Rattle.std.proofs.lemmas.Bool.Decides.{nat_tests}
use Rattle.cp_term.specs.declared.cell.Cell.{Cell}
use Rattle.cp_term.specs.Preorder.{is_terms, drop_terms}
use Rattle.cp_code.specs.Bodies.{seen_from}
use Rattle.cp_props.specs.Patterns.{places_shown}
use Rattle.cp_props.specs.Scans.{scanned}
use Rattle.cp_props.specs.Demands.{joined, both, goal_demands, demands_shown}
use Rattle.cp_props.proofs.Scanning.{joined-none, joined-both, joined-never, one_scanned, none_scanned, comma_step, goal_step}
use Rattle.cp_props.proofs.body.put_body.Goals as goal

pub goals-init : goal.goals-init
goals-init c =
    let h = c.args.heap.now in
    record {
      demands = c.requires.demands;
      len = omega arith;
      left = (1, c.requires.term, ap (joined (demands_shown h c.args.demands.now)) (one_scanned (places_shown h c.args.places.now) c.args.body.now c.requires.term));
    }

pub goals-preserved-in-Some : goal.goals-preserved-in-Some
goals-preserved-in-Some c =
    let h = c.args.heap.now in
    let places = places_shown h c.args.places.now in
    let rest = c.goals.rest.now in
    let i = c.goals.invariant in
    let step = comma_step places i.left.0 rest c.in-Some.ensures.0 i.left.1 in
    let here = c.in-Some.ensures.1 in
    record {
      demands = i.demands;
      len = omega (arith, ap length here, step.fewer, i.len);
      left = (
        step.count,
        subst (λ (cs : List Cell). is_terms step.count cs ≡ true) (sym here) step.terms,
        i.left.2 ∙ ap (joined (demands_shown h c.goals.demands)) (step.scanned_on ∙ ap (scanned places step.count) (sym here)),
      );
    }

pub put_seen-requires-clause-term : goal.put_seen-requires-clause-term
put_seen-requires-clause-term c =
    let places = places_shown c.args.heap.now c.args.places.now in
    let rest = c.goals.rest.now in
    let i = c.goals.invariant in
    let some : 0 < length rest = grind (arith, nat_tests) in
    let step = goal_step places i.left.0 rest c.in_default.ensures some i.left.1 in
    subst (λ (cs : List Cell). is_terms 1 cs ≡ true) (sym c.split_term.ensures.first) step.first

pub returns-then-not-branch-clause-put : goal.returns-then-not-branch-clause-put
returns-then-not-branch-clause-put c =
    let h = c.args.heap.now in
    let places = places_shown h c.args.places.now in
    let rest = c.goals.rest.now in
    let i = c.goals.invariant in
    let some : 0 < length rest = grind (arith, nat_tests) in
    let step = goal_step places i.left.0 rest c.in_default.ensures some i.left.1 in
    let never : joined (demands_shown h c.goals.demands) (goal_demands places ((seen_from [] c.split_term.result.0.now).goal)) ≡ None =
    c.in_ok-put_seen.ensures.put ∙ ap (λ ok. cond ok (Some (demands_shown h c.put_seen.new.demands)) None) c.if-not-branch.true in
    i.left.2
    ∙ ap (joined (demands_shown h c.goals.demands)) (step.scanned_on ∙ ap (λ t. both (goal_demands places ((seen_from [] t).goal)) (scanned places step.count (drop_terms 1 rest))) (sym c.split_term.ensures.first))
    ∙ joined-never (demands_shown h c.goals.demands) (goal_demands places ((seen_from [] c.split_term.result.0.now).goal)) (scanned places step.count (drop_terms 1 rest)) never

pub goals-smaller : goal.goals-smaller
goals-smaller c =
    let places = places_shown c.args.heap.now c.args.places.now in
    let rest = c.goals.rest.now in
    let i = c.goals.invariant in
    let some : 0 < length rest = grind (arith, nat_tests) in
    let step = goal_step places i.left.0 rest c.in_default.ensures some i.left.1 in
    omega (arith, ap length c.split_term.ensures.rest, step.fewer)

pub goals-preserved : goal.goals-preserved
goals-preserved c =
    let h = c.args.heap.now in
    let places = places_shown h c.args.places.now in
    let rest = c.goals.rest.now in
    let i = c.goals.invariant in
    let some : 0 < length rest = grind (arith, nat_tests) in
    let step = goal_step places i.left.0 rest c.in_default.ensures some i.left.1 in
    let behind = c.split_term.ensures.rest in
    let met : joined (demands_shown h c.goals.demands) (goal_demands places ((seen_from [] c.split_term.result.0.now).goal)) ≡ Some (demands_shown h c.put_seen.new.demands) =
    c.in_ok-put_seen.ensures.put ∙ ap (λ ok. cond ok (Some (demands_shown h c.put_seen.new.demands)) None) c.if-not-branch.false in
    record {
      demands = c.in_ok-put_seen.ensures.demands;
      len = omega (arith, ap length behind, step.fewer, i.len);
      left = (
        step.count,
        subst (λ (cs : List Cell). is_terms step.count cs ≡ true) (sym behind) step.terms,
        i.left.2
            ∙ ap (joined (demands_shown h c.goals.demands)) (step.scanned_on ∙ ap (λ t. both (goal_demands places ((seen_from [] t).goal)) (scanned places step.count (drop_terms 1 rest))) (sym c.split_term.ensures.first))
            ∙ joined-both (demands_shown h c.goals.demands) (demands_shown h c.put_seen.new.demands) (goal_demands places ((seen_from [] c.split_term.result.0.now).goal)) (scanned places step.count (drop_terms 1 rest)) met
            ∙ ap (λ cs. joined (demands_shown h c.put_seen.new.demands) (scanned places step.count cs)) (sym behind),
      );
    }

empty : (rest : List Cell) → length rest ≡ 0 → rest ≡ []
empty [] e = refl
empty (c ∷ rest) e = absurd (omega arith)

pub returns-clause-put : goal.returns-clause-put
returns-clause-put c =
    let h = c.args.heap.now in
    let places = places_shown h c.args.places.now in
    let i = c.goals.invariant in
    let none : c.goals.rest.now ≡ [] = empty c.goals.rest.now (grind (arith, nat_tests)) in
    i.left.2
    ∙ ap (joined (demands_shown h c.goals.demands))
    (ap (scanned places i.left.0) none ∙ none_scanned places i.left.0 (subst (λ (cs : List Cell). is_terms i.left.0 cs ≡ true) none i.left.1))
    ∙ joined-none (demands_shown h c.goals.demands)
