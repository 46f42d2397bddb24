use Rattle.std.proofs.Common.{◌∙◌, ◌<◌, [], length, get_or, sym, ap, subst, arith}
use Rattle.cp_heap.proofs.lemmas.Growth.{places-more}
use Rattle.cp_goal.specs.Lists.{list_term}
use Rattle.cp_run.specs.declared.run.Run.{Run}
use Rattle.cp_run.specs.Shown.{moved}
use Rattle.cp_run.proofs.GrowthLaws.{get-of-grown}
use Rattle.cp_run.proofs.GainLaws.{gained-is}
use Rattle.cp_code.specs.Tree.{apart}
use Rattle.cp_back.specs.Rows.{unify_row}
use Rattle.cp_back.proofs.BackLaws.{collected-is}
use Rattle.cp_back.proofs.gathering.collect.Goals as goal

pub unify_or_fail-requires-clause-holds : goal.unify_or_fail-requires-clause-holds
unify_or_fail-requires-clause-holds c =
    (gained-is c.put_copies.new.run c.list_of.new.heap c.in_ok-elements.ensures.extended.holds c.in_ok-whole.ensures.gains).extended.holds

pub returns-clause-moved : goal.returns-clause-moved
returns-clause-moved c code =
    let old = c.args.run.now in
    let mid = c.put_copies.new.run in
    let new : Run = record mid { heap = c.list_of.new.heap } in
    let x = c.in_ok-elements.ensures.extended in
    let imported = c.in_ok-elements.ensures.imported in
    let gains = c.in_ok-whole.ensures.gains in
    let gained = gained-is mid c.list_of.new.heap x.holds gains in
    let result = get_or old.heap.terms c.args.list.at [] in
    let more = places-more old.heap mid.heap x.heap in
    let there : c.args.list.at < length mid.heap.terms = (let lt = c.requires.list in omega arith) in
    let behind : c.args.rest < length mid.goals = subst (λ (r : Run). c.args.rest < length r.goals) (sym x.state) c.requires.rest in
    c.in_ok-unify_or_fail.ensures.moved code
    ∙ ap (λ t. moved code new c.args.rest c.args.level (unify_row t (get_or new.heap.terms c.in_ok-whole.whole.at [])))
    (get-of-grown mid.heap.terms new.heap.terms c.args.list.at [] gains.extends.terms there ∙ get-of-grown old.heap.terms mid.heap.terms c.args.list.at [] x.heap.terms c.requires.list)
    ∙ ap (λ t. moved code new c.args.rest c.args.level (unify_row result t)) (c.in_ok-whole.ensures.term ∙ ap list_term imported.terms)
    ∙ gained.moved code c.args.rest c.args.level (unify_row result (list_term (apart old.heap.variables c.args.copies))) behind
    ∙ collected-is code old mid c.args.copies c.in_ok-elements.elements result c.args.rest c.args.level imported x c.requires.rest
