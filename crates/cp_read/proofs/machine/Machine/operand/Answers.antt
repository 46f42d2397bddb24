use Rattle.std.proofs.Common.{subst}
use Rattle.std.specs.Prelude.{Some, None, Option}
use Rattle.cp_read.specs.declared.look.Look.{Look}
use Rattle.cp_read.specs.Look.{IsFront}
use Rattle.cp_read.specs.Progress.{Progress}
use Rattle.cp_read.proofs.lemmas.OperandLaws.{nothing_stands}
use Rattle.cp_read.proofs.machine.Machine.operand.Goals as goal

pub returns-in-None : goal.returns-in-None
returns-in-None c = λ s h.
    nothing_stands c.args.ops.now s c.args.self.now c.args.max c.unexpected.result
    (subst (λ (p : Progress). IsFront None p.tokens) c.self.view_is (subst (λ (o : Option Look). IsFront o c.self.inside.tokens.now) c.in-None.is c.look_at.ensures)) h c.unexpected.ensures

pub returns-in-Some : goal.returns-in-Some
returns-in-Some c = λ s h.
    c.operand_by.ensures s (subst (λ (p : Progress). IsFront (Some c.in-Some.look) p.tokens) c.self.view_is (subst (λ (o : Option Look). IsFront o c.self.inside.tokens.now) c.in-Some.is c.look_at.ensures)) h
