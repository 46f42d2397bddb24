use Rattle.std.proofs.Common.{◌∙◌, ap, sym, subst}
use Rattle.std.specs.Prelude.{IfOk}
use Rattle.cp_heap.specs.State.{instance_at, term, substitution}
use Rattle.cp_goal.specs.Builtins.{End, or_raises}
use Rattle.cp_builtin.specs.declared.ended.Ended.{Ended}
use Rattle.cp_builtin.specs.Ends.{HasEnded}
use Rattle.cp_builtin.proofs.ListLaws.{by_same, univ_told}
use Rattle.cp_builtin.proofs.univ.named.Goals as goal

pub returns-clause-ended : goal.returns-clause-ended
returns-clause-ended c =
    let old = c.args.heap.now in
    let new = c.compound_of.new.heap in
    let made = c.in_ok-made.ensures in
    let name = c.requires.name in
    subst (λ (e : End). IfOk c.unified.result (λ (ended : Ended). HasEnded c.unified.new.heap ended e))
    (by_same old new made.gains c.args.whole.at _ _ c.requires.whole (made.instance name.0 name.1)
    ∙ ap (λ r. or_raises r (term old c.args.whole.at) (substitution old) old.variables)
    (sym (univ_told old (instance_at old c.args.head.at) name.0 c.args.arguments.now name.1 c.requires.some c.if-arguments-gt255.false)))
    c.unified.ensures.instance
