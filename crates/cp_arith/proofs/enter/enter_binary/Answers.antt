use Rattle.std.proofs.Common.{◌∙◌, sym, ap, subst}
use Rattle.std.specs.Prelude.{Err}
use Rattle.cp_goal.specs.declared.why.Why.TheVariants.{NotEvaluable}
use Rattle.cp_goal.specs.Operations.{binary_named}
use Rattle.cp_arith.specs.declared.now.Now.TheVariants.{At}
use Rattle.cp_arith.specs.Frames.{Advances}
use Rattle.cp_arith.proofs.lemmas.Plugging.{no_binary_at, first_at}
use Rattle.cp_arith.proofs.enter.enter_binary.Goals as goal

pub returns-in_default-named : goal.returns-in_default-named
returns-in_default-named c =
    no_binary_at c.args.heap.now c.args.frames.now c.args.at c.requires.compound.0 c.in-Some.name.now c.requires.compound.1 c.requires.compound.2 c.requires.term c.in-Some.ensures
    (ap binary_named (sym c.bytes.ensures.bytes) ∙ sym c.named.ensures ∙ c.in_default-named.is)
    ∙ ap (λ f. Err (NotEvaluable f 2)) (sym c.in_ok-clone.ensures.cases)

pub returns : goal.returns
returns c =
    subst (λ fs. Advances c.args.heap.now c.args.frames.now (At c.args.at) fs (At c.in-Some-argument.first)) (sym c.in_ok-push.ensures.ok)
    (first_at c.args.heap.now c.args.frames.now c.args.at c.in-Some-argument.first c.in-Some-argument-2.second c.in-Some-named.op c.requires.compound.0 c.in-Some.name.now c.requires.compound.1 c.requires.compound.2 c.requires.term c.in-Some.ensures
    (ap binary_named (sym c.bytes.ensures.bytes) ∙ sym c.named.ensures ∙ c.in-Some-named.is)
    c.in-Some-argument.ensures.1 c.in-Some-argument-2.ensures.1 c.in-Some-argument.ensures.0 c.in-Some-argument-2.ensures.0 c.requires.frames)
