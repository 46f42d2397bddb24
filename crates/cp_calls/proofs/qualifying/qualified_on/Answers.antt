use Rattle.std.proofs.Common.{refl, sym, ◌∙◌, ap}
use Rattle.cp_term.specs.declared.cell.Cell.TheVariants.{Var, Int, Atom}
use Rattle.cp_heap.specs.State.{instance_at}
use Rattle.cp_code.specs.Tree.{qualified}
use Rattle.cp_calls.proofs.GoalLaws.{whole-qualified, cell-qualified}
use Rattle.cp_calls.proofs.qualifying.qualified_on.Goals as goal

pub returns-then-not-is_any_marked-clause-instance : goal.returns-then-not-is_any_marked-clause-instance
returns-then-not-is_any_marked-clause-instance c =
    whole-qualified c.args.seer.now c.args.marks.now (instance_at c.args.heap.now c.args.goal.at) c.look-look.ensures.term (sym c.is_any_marked.ensures ∙ c.if-not-is_any_marked.true)

pub returns-in-Var-clause-instance : goal.returns-in-Var-clause-instance
returns-in-Var-clause-instance c =
    let e = c.in-Var.ensures.first.0 in
    e ∙ cell-qualified c.args.seer.now c.args.marks.now (Var c.in-Var.field-1) refl ∙ sym (ap (qualified c.args.seer.now c.args.marks.now) e)

pub returns-in-Int-clause-instance : goal.returns-in-Int-clause-instance
returns-in-Int-clause-instance c =
    let e = c.in-Int.ensures.first in
    e ∙ cell-qualified c.args.seer.now c.args.marks.now (Int c.in-Int.field-0) refl ∙ sym (ap (qualified c.args.seer.now c.args.marks.now) e)

pub returns-in-Atom-clause-instance : goal.returns-in-Atom-clause-instance
returns-in-Atom-clause-instance c =
    let first = c.in-Atom.ensures.first in
    let e = first.1 in
    e ∙ cell-qualified c.args.seer.now c.args.marks.now (Atom first.0) refl ∙ sym (ap (qualified c.args.seer.now c.args.marks.now) e)
