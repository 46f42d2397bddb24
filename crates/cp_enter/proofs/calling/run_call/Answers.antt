use Rattle.std.proofs.Common.{◌≡◌, ◌+◌, suc, [], length, get_or, ◌∙◌, ap, arith}
use Rattle.std.specs.Prelude.{codes}
use Rattle.std.proofs.lemmas.List.{length-map}
use Rattle.cp_goal.specs.Builtins.{context}
use Rattle.cp_heap.specs.State.{term, terms_at}
use Rattle.cp_run.specs.Shown.{moved}
use Rattle.cp_enter.specs.Rows.{enter_row}
use Rattle.cp_enter.proofs.CallLaws.{call-arity}
use Rattle.cp_enter.proofs.calling.run_call.Goals as goal

pub returns-clause-moved : goal.returns-clause-moved
returns-clause-moved c code own =
    let r = c.args.run.now in
    let m = c.args.seer.now in
    let g = get_or r.heap.terms c.args.goal.at [] in
    let extra = c.in_ok-extra.extra in
    let more : c.in-Some.arity ≡ c.args.count + 1 = grind arith in
    let count : length (terms_at r.heap extra) ≡ c.args.count = length-map extra (λ r'. term r.heap r'.at) ∙ c.in_ok-extra.ensures.len in
    c.in_ok-enter.ensures.moved code
    ∙ ap (λ x. moved code r c.args.rest c.args.level (enter_row m g (terms_at r.heap extra) x)) c.in_ok-context.ensures
    ∙ ap (λ k. moved code r c.args.rest c.args.level (enter_row m g (terms_at r.heap extra) (context m (codes "call") k))) (call-arity c.in-Some.arity c.args.count (length (terms_at r.heap extra)) more count)
    ∙ ap (λ ts. moved code r c.args.rest c.args.level (enter_row m g ts (context m (codes "call") (suc (length ts))))) (c.in_ok-extra.ensures.terms r.heap.terms c.requires.extra)
