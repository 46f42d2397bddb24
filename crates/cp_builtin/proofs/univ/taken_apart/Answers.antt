use Rattle.std.proofs.Common.{◌∙◌, ap, subst}
use Rattle.std.specs.Prelude.{IfOk}
use Rattle.cp_goal.specs.Lists.{list_term}
use Rattle.cp_goal.specs.Builtins.{End}
use Rattle.cp_lists.proofs.lemmas.Growth.{gains-trans}
use Rattle.cp_builtin.specs.declared.ended.Ended.{Ended}
use Rattle.cp_builtin.specs.Ends.{HasEnded}
use Rattle.cp_builtin.proofs.ListLaws.{list_made, by_same}
use Rattle.cp_builtin.proofs.univ.taken_apart.Goals as goal

pub returns-clause-ended : goal.returns-clause-ended
returns-clause-ended c =
    let old = c.args.heap.now in
    let mid = c.parts_of.new.heap in
    let new = c.list_of.new.heap in
    let parts = c.in_ok-parts.ensures in
    let made = c.in_ok-made.ensures in
    subst (λ (e : End). IfOk c.unified.result (λ (ended : Ended). HasEnded c.unified.new.heap ended e))
    (by_same old new (gains-trans old mid new parts.gains made.gains) c.args.list.at _ _ c.requires.list
    (list_made mid new made.gains c.in_ok-parts.parts c.in_ok-made.made.at made.term ∙ ap list_term parts.instances))
    c.unified.ensures.instance
