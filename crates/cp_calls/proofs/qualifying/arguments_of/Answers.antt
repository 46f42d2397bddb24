use Rattle.std.proofs.Common.{◌≡◌, ◌++◌, ◌∷◌, [], ◌+◌, take, length, sym, ◌∙◌, ap, subst, arith, length-append}
use Rattle.std.specs.Prelude.{Some, slice_get}
use Rattle.std.proofs.lemmas.List.{take_all}
use Rattle.cp_term.specs.Preorder.{arguments}
use Rattle.cp_heap.specs.State.{instance_at, AreRefs}
use Rattle.cp_code.specs.Tree.{with_modules}
use Rattle.cp_lists.specs.Places.{instances}
use Rattle.cp_lists.proofs.lemmas.Growth.{gains-trans, live-stays}
use Rattle.cp_lists.proofs.lemmas.Places.{live-push, instances-push}
use Rattle.cp_builtin.proofs.ListLaws.{arguments-count, instance-same, instances-same, take_got}
use Rattle.cp_calls.proofs.GoalLaws.{with-length}
use Rattle.cp_calls.proofs.qualifying.arguments_of.Goals as goal

pub argument_of-requires-clause-index : goal.argument_of-requires-clause-index
argument_of-requires-clause-index c =
    let old = c.args.heap.now in
    let shape = c.requires.compound in
    let count = arguments-count old c.args.goal.at shape.0 c.args.arity shape.1 shape.2 in
    let same = ap (λ t. length (arguments t)) (instance-same old c.arguments.heap c.arguments.invariant.gains c.args.goal.at c.requires.goal) in
    let lt = c.arguments-test.true in
    omega arith

pub arguments-preserved : goal.arguments-preserved
arguments-preserved c =
    let old = c.args.heap.now in
    let now = c.arguments.heap in
    let new = c.argument_of.new.heap in
    let r = c.in_ok-place.place in
    let i = c.arguments.index in
    let refs = c.arguments.places in
    let all = with_modules c.args.seer.now c.args.marks.now (arguments (instance_at old c.args.goal.at)) in
    let got : slice_get all i ≡ Some (instance_at new r.at) =
    ap (λ t. slice_get (with_modules c.args.seer.now c.args.marks.now (arguments t)) i) (sym (instance-same old now c.arguments.invariant.gains c.args.goal.at c.requires.goal)) ∙ c.in_ok-place.ensures.instance in
    let gains = c.in_ok-place.ensures.gains in
    let grown = sym c.in_ok-push.ensures.ok in
    record {
      gains = gains-trans old now new c.arguments.invariant.gains gains;
      live = subst (AreRefs new) grown (live-push new refs r (live-stays now new gains refs c.arguments.invariant.live) c.in_ok-place.ensures.live);
      len = let e = ap length c.in_ok-push.ensures.ok in let n = c.arguments.invariant.len in omega (arith, length-append refs (r ∷ []));
      pushed = subst (λ rs. instances new rs ≡ take (i + 1) all) grown
          (instances-push new refs r
          ∙ ap (λ ts. ts ++ instance_at new r.at ∷ []) (instances-same now new gains refs c.arguments.invariant.live ∙ c.arguments.invariant.pushed)
          ∙ sym (take_got all i (instance_at new r.at) got));
    }

pub returns-clause-instances : goal.returns-clause-instances
returns-clause-instances c =
    let old = c.args.heap.now in
    let shape = c.requires.compound in
    let args = arguments (instance_at old c.args.goal.at) in
    let count = arguments-count old c.args.goal.at shape.0 c.args.arity shape.1 shape.2 in
    let same = with-length c.args.seer.now c.args.marks.now args in
    let past = c.arguments-test.false in
    c.arguments.invariant.pushed ∙ take_all c.arguments.index (with_modules c.args.seer.now c.args.marks.now args) (omega arith)
