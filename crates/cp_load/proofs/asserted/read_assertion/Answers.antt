use Rattle.std.proofs.Common.{sym, ap, subst, List}
use Rattle.cp_code.specs.declared.assertion.Assertion.{Assertion}
use Rattle.cp_code.specs.declared.program.Program.{Program}
use Rattle.cp_load.specs.Answers.{SpeakOfArguments}
use Rattle.cp_load.proofs.Asserting.{speaks_more}
use Rattle.cp_load.proofs.asserted.read_assertion.Goals as goal

pub returns-in-Ok-clause-arguments : goal.returns-in-Ok-clause-arguments
returns-in-Ok-clause-arguments c = λ h.
    let P : List Assertion → Type 0 = λ cs. SpeakOfArguments cs in
    subst P (sym (ap (λ (x : Program). x.checks) c.in_ok-push_assertion-in-Ok.ensures)) (speaks_more c.args.program.now.checks c.in-Ok.assertion h c.in-Ok.ensures.arguments)
