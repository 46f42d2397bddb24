use Rattle.std.proofs.Common.{rules, ◌≡◌, sym, ap, ◌∙◌, None, drop}
use Rattle.std.specs.Prelude.{Ok}
use Rattle.std.proofs.lemmas.List.{drop_all}
use Rattle.cp_load.proofs.Asserting.{file_next, file_refused, all_files_read}
use Rattle.cp_load.proofs.assertions.add_assertions.Goals as goal

pub returns-in-Some-clause-refusal : goal.returns-in-Some-clause-refusal
returns-in-Some-clause-refusal c =
    file_refused c.args.program.now c.args.parts.now c.loop-part.program c.loop-part.part-index c.part-item.result c.in-Some.cause c.in_ok-refusal.refusal c.loop-part-test.true c.part-item.is
    (sym c.in-Some.is ∙ c.in_ok-found.ensures.cause) (c.in_ok-refusal.ensures ∙ (λ i. record { file = c.file.ensures i; cause = c.in-Some.cause })) c.loop-part.invariant

pub loop-part-preserved : goal.loop-part-preserved
loop-part-preserved c =
    let none : c.in_ok-found.found ≡ None = search rules in
    file_next c.args.program.now c.args.parts.now c.loop-part.program c.add_file_assertions.new.program c.loop-part.part-index c.part-item.result c.loop-part-test.true c.part-item.is
    (sym none ∙ c.in_ok-found.ensures.cause) (c.in_ok-found.ensures.added (ap Ok none)) c.in_ok-found.ensures.rest c.in_ok-found.ensures.arguments c.loop-part.invariant

pub returns-clause-refusal : goal.returns-clause-refusal
returns-clause-refusal c =
    (all_files_read c.args.program.now c.args.parts.now c.loop-part.program (drop c.loop-part.part-index c.args.parts.now) (drop_all c.loop-part.part-index c.args.parts.now c.loop-part-test.false) c.loop-part.invariant).0
