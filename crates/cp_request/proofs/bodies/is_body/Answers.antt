use Rattle.std.proofs.Common.{sym, ◌∙◌}
use Rattle.cp_request.proofs.StackLaws.{next_place, wrong, pushed_bodies, pushed_places, pushed_fewer}
use Rattle.cp_request.proofs.bodies.is_body.Goals as goal

pub of-parts-requires : goal.of-parts-requires
of-parts-requires c = next_place c.args.heap.now c.parts.left c.pop.new.self c.in-Some.next c.in-Some.ensures c.parts.invariant.0

pub returns-then-not-can_be_body : goal.returns-then-not-can_be_body
returns-then-not-can_be_body c m =
    sym (c.parts.invariant.1 m ∙ wrong c.args.heap.now c.parts.left c.pop.new.self c.in-Some.next c.in-Some.ensures c.of-parts.result c.of-parts.ensures m (sym c.can_be_body.ensures ∙ c.if-not-can_be_body.true))

pub parts-smaller : goal.parts-smaller
parts-smaller c =
    pushed_fewer c.args.heap.now c.parts.left c.pop.new.self c.in-Some.next c.in-Some.ensures c.of-parts.result c.of-parts.ensures c.push_places.new.left c.in_ok-push_places-in-Some.ensures

pub parts-preserved : goal.parts-preserved
parts-preserved c = (
  pushed_places c.args.heap.now c.parts.left c.pop.new.self c.in-Some.next c.in-Some.ensures c.of-parts.result c.of-parts.ensures c.push_places.new.left c.in_ok-push_places-in-Some.ensures c.parts.invariant.0,
  λ m. c.parts.invariant.1 m ∙ pushed_bodies c.args.heap.now c.parts.left c.pop.new.self c.in-Some.next c.in-Some.ensures c.of-parts.result c.of-parts.ensures m c.push_places.new.left (sym c.can_be_body.ensures ∙ c.if-not-can_be_body.false) c.in_ok-push_places-in-Some.ensures,
)
