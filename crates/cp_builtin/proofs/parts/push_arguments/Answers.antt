use Rattle.std.proofs.Common.{◌≡◌, ◌∙◌, ◌+◌, ◌≤◌, ◌++◌, take, length, ap, sym, subst, arith}
use Rattle.cp_term.specs.Preorder.{arguments}
use Rattle.cp_heap.specs.State.{instance_at, AreRefs}
use Rattle.cp_lists.specs.Places.{instances}
use Rattle.cp_lists.proofs.lemmas.Places.{live-push}
use Rattle.cp_builtin.proofs.ListLaws.{arguments-count, arguments-all, arguments-next}
use Rattle.cp_builtin.proofs.parts.push_arguments.Goals as goal

pub arguments-preserved : goal.arguments-preserved
arguments-preserved c =
    let h = c.args.heap.now in
    let compound = c.requires.compound in
    let grown = sym c.in_ok-push-in-Some.ensures.ok in
    let r = c.in-Some.argument in
    record {
      live = subst (AreRefs h) grown (live-push h c.arguments.places r c.arguments.invariant.live c.in-Some.ensures.0);
      pushed = subst (λ refs. instances h refs ≡ instances h c.args.places.now ++ take (c.arguments.index + 1) (arguments (instance_at h c.args.whole.at))) grown
          (arguments-next h c.args.whole.at compound.0 c.args.arity compound.1 compound.2 (instances h c.args.places.now) c.arguments.places r c.arguments.index c.arguments.invariant.pushed c.in-Some.ensures.1);
    }

pub unreachable-requires : goal.unreachable-requires
unreachable-requires c =
    let compound = c.requires.compound in
    let count = arguments-count c.args.heap.now c.args.whole.at compound.0 c.args.arity compound.1 compound.2 in
    let past : length (arguments (instance_at c.args.heap.now c.args.whole.at)) ≤ c.arguments.index = c.in-None.ensures in
    omega arith

pub returns-clause-pushed : goal.returns-clause-pushed
returns-clause-pushed c =
    let h = c.args.heap.now in
    let compound = c.requires.compound in
    c.arguments.invariant.pushed
    ∙ ap (λ ts. instances h c.args.places.now ++ ts) (arguments-all h c.args.whole.at compound.0 c.args.arity compound.1 compound.2 c.arguments.index c.arguments-test.false)
