use Rattle.std.proofs.Common.{◌≡◌, sym, ◌∙◌, ap, subst}
use Rattle.cp_heap.specs.State.{instance_at, AreRefs}
use Rattle.cp_goal.specs.Lists.{spine}
use Rattle.cp_lists.specs.Places.{instances}
use Rattle.cp_lists.specs.Steps.{behind}
use Rattle.cp_lists.proofs.lemmas.Places.{live-push, further}
use Rattle.cp_lists.proofs.lemmas.Spines.{behind-nil, behind-partial, behind-improper}
use Rattle.cp_lists.proofs.spine.Spine.of.Goals as goal

pub tails-preserved : goal.tails-preserved
tails-preserved c =
    let h = c.args.heap.now in
    let grown = sym c.in_ok-push-in-Element.ensures.ok in
    record {
      live = c.in-Element.ensures.tail_live;
      elements = subst (AreRefs h) grown (live-push h c.tails.elements c.in-Element.head c.tails.invariant.elements c.in-Element.ensures.head_live);
      is = subst (λ es. spine (instance_at h c.args.at.at) ≡ behind (instances h es) (spine (instance_at h c.in-Element.behind.at))) grown
          (further h c.args.at c.tails.elements c.tails.tail c.in-Element.head c.in-Element.behind c.tails.invariant.is c.in-Element.ensures);
    }

pub returns-in-End-clause-told : goal.returns-in-End-clause-told
returns-in-End-clause-told c =
    c.tails.invariant.is ∙ ap (behind (instances c.args.heap.now c.tails.elements)) c.in-End.ensures ∙ behind-nil (instances c.args.heap.now c.tails.elements)

pub returns-in-Open-clause-told : goal.returns-in-Open-clause-told
returns-in-Open-clause-told c =
    c.tails.invariant.is ∙ ap (behind (instances c.args.heap.now c.tails.elements)) c.in-Open.ensures ∙ behind-partial (instances c.args.heap.now c.tails.elements)

pub returns-in-Other-clause-told : goal.returns-in-Other-clause-told
returns-in-Other-clause-told c =
    c.tails.invariant.is ∙ ap (behind (instances c.args.heap.now c.tails.elements)) c.in-Other.ensures ∙ behind-improper (instances c.args.heap.now c.tails.elements)
