use Rattle.std.proofs.Common.{◌≡◌, ◌∙◌, ap}
use Rattle.cp_term.specs.Numbering.{fresh}
use Rattle.cp_term.specs.Substitution.{apply}
use Rattle.cp_term.proofs.lemmas.NumberingLaws.{fresh-zero}
use Rattle.cp_heap.specs.State.{State, term, substitution, instance_at}
use Rattle.cp_code.specs.Programs.{code_of}
use Rattle.cp_engine.proofs.StartedLaws.{named-context, call-context}
use Rattle.cp_engine.proofs.started.context_of.Goals as goal

pub returns-in-Some : goal.returns-in-Some
returns-in-Some c program budget =
    let h : State = c.import.new.self in
    let whole : instance_at h c.in_ok-at.at.at ≡ c.args.goal.now =
    ap (λ s. apply s (term h c.in_ok-at.at.at)) (c.in_ok-at.ensures.bindings ∙ ap substitution c.new-heap.ensures)
    ∙ c.in_ok-at.ensures.term ∙ ap (λ (x : State). fresh x.variables c.args.goal.now) c.new-heap.ensures ∙ fresh-zero c.args.goal.now in
    named-context (code_of program budget) c.args.first.now c.args.goal.now h c.in_ok-at.at.at c.of-seen.result whole c.of-seen.ensures.seen (c.in-Some.name, c.in-Some.arity) c.seer-seer.result.now c.in_ok-context-in-Some.context (c.in_ok-name.ensures ∙ c.in-Some.is) c.seer-seer.ensures c.in_ok-context-in-Some.ensures

pub returns : goal.returns
returns c program budget =
    let h : State = c.import.new.self in
    let whole : instance_at h c.in_ok-at.at.at ≡ c.args.goal.now =
    ap (λ s. apply s (term h c.in_ok-at.at.at)) (c.in_ok-at.ensures.bindings ∙ ap substitution c.new-heap.ensures)
    ∙ c.in_ok-at.ensures.term ∙ ap (λ (x : State). fresh x.variables c.args.goal.now) c.new-heap.ensures ∙ fresh-zero c.args.goal.now in
    call-context (code_of program budget) c.args.first.now c.args.goal.now h c.in_ok-at.at.at c.of-seen.result whole c.of-seen.ensures.seen c.seer-seer.result.now c.in_ok-context-in-None.context (c.in_ok-name.ensures ∙ c.in-None.is) c.seer-seer.ensures c.in_ok-context-in-None.ensures
