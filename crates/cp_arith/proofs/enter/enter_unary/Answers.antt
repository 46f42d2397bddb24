use Rattle.std.proofs.Common.{◌∙◌, sym, ap, subst}
use Rattle.std.specs.Prelude.{Err}
use Rattle.cp_goal.specs.declared.why.Why.TheVariants.{NotEvaluable}
use Rattle.cp_goal.specs.Operations.{unary_named}
use Rattle.cp_arith.specs.declared.now.Now.TheVariants.{At}
use Rattle.cp_arith.specs.Frames.{Advances}
use Rattle.cp_arith.proofs.lemmas.Plugging.{no_unary_at, only_at}
use Rattle.cp_arith.proofs.enter.enter_unary.Goals as goal

pub returns-in_default-named : goal.returns-in_default-named
returns-in_default-named c =
    no_unary_at c.args.heap.now c.args.frames.now c.args.at c.requires.compound.0 c.in-Some.name.now c.requires.compound.1 c.requires.compound.2 c.requires.term c.in-Some.ensures
    (ap unary_named (sym c.bytes.ensures.bytes) ∙ sym c.named.ensures ∙ c.in_default-named.is)
    ∙ ap (λ f. Err (NotEvaluable f 1)) (sym c.in_ok-clone.ensures.cases)

pub returns : goal.returns
returns c =
    subst (λ fs. Advances c.args.heap.now c.args.frames.now (At c.args.at) fs (At c.in-Some-argument.operand)) (sym c.in_ok-push.ensures.ok)
    (only_at c.args.heap.now c.args.frames.now c.args.at c.in-Some-argument.operand c.in-Some-named.op c.requires.compound.0 c.in-Some.name.now c.requires.compound.1 c.requires.compound.2 c.requires.term c.in-Some.ensures
    (ap unary_named (sym c.bytes.ensures.bytes) ∙ sym c.named.ensures ∙ c.in-Some-named.is)
    c.in-Some-argument.ensures.1 c.in-Some-argument.ensures.0 c.requires.frames)
