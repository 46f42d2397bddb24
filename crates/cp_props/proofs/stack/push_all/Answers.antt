use Rattle.std.proofs.Common.{◌≡◌, ◌+◌, ◌-◌, ◌≤◌, ◌++◌, [], ◌∷◌, length, drop, refl, sym, ◌∙◌, ap, subst, arith, length-append}
use Rattle.std.specs.List.{flat_map}
use Rattle.std.proofs.lemmas.List.{drop_all}
use Rattle.cp_term.specs.Preorder.{arguments}
use Rattle.cp_heap.specs.State.{instance_at, AreRefs}
use Rattle.cp_lists.proofs.lemmas.Places.{live-push}
use Rattle.cp_props.specs.Pending.{pending}
use Rattle.cp_props.proofs.Stacks.{length-arguments, flat-arguments, pushed-one}
use Rattle.cp_props.proofs.stack.push_all.Goals as goal

pub arguments-init : goal.arguments-init
arguments-init c =
    let h = c.args.heap.now in
    let parts = arguments (instance_at h c.args.at.at) in
    let all : length parts ≤ c.args.arity = omega (arith, length-arguments c.args.arity (instance_at h c.args.at.at) c.requires.compound) in
    record {
      within = omega arith;
      places = c.requires.places;
      pushed = ap (λ ts. flat_map (λ t. t) ts ++ pending h c.args.stack.now) (sym (drop_all c.args.arity parts all));
      count = refl;
    }

pub arguments-preserved : goal.arguments-preserved
arguments-preserved c =
    let h = c.args.heap.now in
    let grown = c.in_ok-push-in-Some.ensures.ok in
    let some = c.arguments-test.true in
    record {
      within = omega arith;
      places = subst (AreRefs h) (sym grown) (live-push h c.arguments.stack c.in-Some.argument c.arguments.invariant.places c.in-Some.ensures.0);
      pushed = pushed-one h c.arguments.stack c.push.new.self c.args.stack.now (arguments (instance_at h c.args.at.at)) c.arguments.index c.in-Some.argument some c.in-Some.ensures.1 c.arguments.invariant.pushed grown;
      count = omega (arith, ap length grown, length-append c.arguments.stack (c.in-Some.argument ∷ []));
    }

pub unreachable-requires : goal.unreachable-requires
unreachable-requires c =
    let all = length-arguments c.args.arity (instance_at c.args.heap.now c.args.at.at) c.requires.compound in
    let within = c.arguments.invariant.within in
    let past = c.in-None.ensures in
    omega arith

pub returns-clause-pushed : goal.returns-clause-pushed
returns-clause-pushed c =
    let h = c.args.heap.now in
    let parts = arguments (instance_at h c.args.at.at) in
    let none : c.arguments.index ≡ 0 = omega arith in
    c.arguments.invariant.pushed
    ∙ ap (λ k. flat_map (λ t. t) (drop k parts) ++ pending h c.args.stack.now) none
    ∙ ap (λ cs. cs ++ pending h c.args.stack.now) (flat-arguments c.args.arity (instance_at h c.args.at.at) c.requires.compound c.requires.term)
