use Rattle.std.proofs.Common.{◌≡◌, ◌++◌, ◌∷◌, [], ◌+◌, take, sym, ◌∙◌, ap, subst}
use Rattle.cp_term.specs.Preorder.{arguments}
use Rattle.cp_heap.specs.State.{instance_at, AreRefs}
use Rattle.cp_lists.specs.Places.{instances}
use Rattle.cp_lists.proofs.lemmas.Places.{live-push, instances-push}
use Rattle.cp_builtin.proofs.ListLaws.{take_got}
use Rattle.cp_goals.proofs.arguments.arguments_of.Goals as goal

pub arguments-preserved : goal.arguments-preserved
arguments-preserved c =
    let h = c.args.heap.now in
    let r = c.in-Some.argument in
    let all = arguments (instance_at h c.args.at.at) in
    let grown = sym c.in_ok-push-in-Some.ensures.ok in
    record {
      live = subst (AreRefs h) grown (live-push h c.arguments.places r c.arguments.invariant.live c.in-Some.ensures.0);
      pushed = subst (λ refs. instances h refs ≡ take (c.arguments.index + 1) all) grown
          (instances-push h c.arguments.places r ∙ ap (λ ts. ts ++ instance_at h r.at ∷ []) c.arguments.invariant.pushed ∙ sym (take_got all c.arguments.index (instance_at h r.at) c.in-Some.ensures.1));
    }
