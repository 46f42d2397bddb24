use Rattle.std.proofs.Common.{rules, ◌≡◌, sym, ◌∙◌, None}
use Rattle.std.proofs.lemmas.List.{drop_all}
use Rattle.cp_load.proofs.Typing.{none_typed, typed_next, typed_refused, all_typed}
use Rattle.cp_load.proofs.types.add_types.Goals as goal

pub loop-part-init : goal.loop-part-init
loop-part-init c = none_typed c.args.types.now c.args.parts.now c.new-names.result c.new-names.ensures

pub returns-in-Some-clause-refusal : goal.returns-in-Some-clause-refusal
returns-in-Some-clause-refusal c =
    typed_refused c.args.types.now c.args.parts.now c.loop-part.names c.loop-part.types c.loop-part.part-index c.part-item.result c.in-Some.cause c.in_ok-refusal.refusal c.loop-part-test.true c.part-item.is
    (sym c.in-Some.is ∙ c.in_ok-found.ensures.cause) (c.in_ok-refusal.ensures ∙ (λ i. record { file = c.file.ensures i; cause = c.in-Some.cause })) c.loop-part.invariant

pub loop-part-preserved : goal.loop-part-preserved
loop-part-preserved c =
    let none : c.in_ok-found.found ≡ None = search rules in
    typed_next c.args.types.now c.args.parts.now c.loop-part.names c.type_cause.new.names c.loop-part.types c.type_cause.new.types c.loop-part.part-index c.part-item.result c.loop-part-test.true c.part-item.is
    (sym none ∙ c.in_ok-found.ensures.cause) c.in_ok-found.ensures.types c.in_ok-found.ensures.names c.loop-part.invariant

pub returns-clause-types : goal.returns-clause-types
returns-clause-types c = λ e.
    (all_typed c.args.types.now c.args.parts.now c.loop-part.names c.loop-part.types c.loop-part.part-index (drop_all c.loop-part.part-index c.args.parts.now c.loop-part-test.false) c.loop-part.invariant).1
