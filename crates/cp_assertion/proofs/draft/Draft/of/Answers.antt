use Rattle.std.proofs.Common.{◌≡◌, sym, ◌∙◌, ap, subst}
use Rattle.cp_assertion.specs.Assertions.{IsDraft, declared, drafted, drafted_body, drafted_shown, draft_shown}
use Rattle.cp_assertion.proofs.Speaking.{DraftedSpeaks, drafted-speaks}
use Rattle.cp_assertion.proofs.draft.Draft.of.Goals as goal

pub returns-in-None-clause-err : goal.returns-in-None-clause-err
unfolding drafted
returns-in-None-clause-err c = ap (λ t. drafted_body (declared t)) (sym c.cells.ensures.value) ∙ ap drafted_body c.in-None.ensures.value

pub returns-in-None-2-clause-err : goal.returns-in-None-2-clause-err
unfolding drafted
returns-in-None-2-clause-err c =
    ap (λ t. drafted_body (declared t)) (sym c.cells.ensures.value) ∙ ap drafted_body c.in-Some.ensures.value ∙ c.in_ok-draft-in-Some.ensures ∙ ap drafted_shown c.in-None-2.is

pub returns-in-Some-2-clause-ok : goal.returns-in-Some-2-clause-ok
unfolding drafted
returns-in-Some-2-clause-ok c =
    ap (λ t. drafted_body (declared t)) (sym c.cells.ensures.value) ∙ ap drafted_body c.in-Some.ensures.value ∙ c.in_ok-draft-in-Some.ensures ∙ ap drafted_shown c.in-Some-2.is

pub returns-in-Some-2-clause-arguments : goal.returns-in-Some-2-clause-arguments
unfolding drafted
returns-in-Some-2-clause-arguments c =
    let e : drafted c.args.term.now ≡ IsDraft (draft_shown c.in-Some-2.draft) =
    ap (λ t. drafted_body (declared t)) (sym c.cells.ensures.value) ∙ ap drafted_body c.in-Some.ensures.value ∙ c.in_ok-draft-in-Some.ensures ∙ ap drafted_shown c.in-Some-2.is in
    subst DraftedSpeaks e (drafted-speaks c.args.term.now)
