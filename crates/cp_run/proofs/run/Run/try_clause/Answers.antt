use Rattle.std.proofs.Common.{List, sym, ◌∙◌, ap, subst}
use Rattle.cp_term.specs.declared.cell.Cell.{Cell}
use Rattle.cp_heap.specs.State.{State}
use Rattle.cp_code.specs.Clauses.{body_term}
use Rattle.cp_run.specs.Entering.{HasBody}
use Rattle.cp_run.proofs.EnteringLaws.{body-good, entered-is}
use Rattle.cp_run.proofs.GrowthLaws.{moment-grow, moment-live}
use Rattle.cp_run.specs.Shown.{rules_from, instance_in, here_of, shown, moved}
use Rattle.cp_code.specs.Machine.{clause_move}
use Rattle.cp_code.specs.Programs.{clause_of}
use Rattle.cp_run.proofs.run.Run.try_clause.Goals as goal

pub unify_since-requires-clause-mark : goal.unify_since-requires-clause-mark
unify_since-requires-clause-mark c =
    let r1 = c.put_clause.new.self in
    moment-live c.moment-moment.result r1.heap r1.goals
    (moment-grow c.moment-moment.result (here_of c.args.self.now) (here_of r1) c.moment-moment.ensures.now c.in_ok-parts.ensures.extended.grows)

pub enter_clause-requires-clause-body : goal.enter_clause-requires-clause-body
enter_clause-requires-clause-body c =
    let P : List (List Cell) → Type 0 = λ ts. HasBody ts c.args.clause.now.module c.in_ok-parts.parts.body in
    subst P (sym (ap (λ (h : State). h.terms) c.in_ok-unified.ensures.kept))
    (body-good c.put_clause.new.self.heap.terms c.args.self.now.heap.variables c.args.clause.now.module c.in_ok-parts.parts.body (body_term c.args.clause.now.whole) c.in_ok-parts.ensures.clause.body c.requires.body c.in_ok-parts.ensures.clause.body_there)

pub returns-then-not-can_try-clause-moved : goal.returns-then-not-can_try-clause-moved
returns-then-not-can_try-clause-moved c code =
    ap (shown code) c.go.ensures
    ∙ ap (λ u. moved code c.args.self.now c.args.rest c.args.level (clause_move u (clause_of c.args.clause.now) (rules_from code c.args.pred c.args.from) (instance_in (here_of c.args.self.now) c.args.goal.at)))
    (sym (c.can_try.ensures c.if-not-can_try.true c.args.self.now.heap.variables))

pub returns-then-unified-clause-moved : goal.returns-then-unified-clause-moved
returns-then-unified-clause-moved c code =
    c.in_ok-enter_clause.ensures.entered code
    ∙ entered-is code c.args.self.now c.put_clause.new.self c.unify_since.new.self c.moment-moment.result c.args.clause.now c.in_ok-parts.parts c.in_ok-unified.unified c.args.pred c.args.from c.args.goal.at c.args.rest c.args.level
    c.in_ok-parts.ensures.clause c.in_ok-parts.ensures.extended c.in_ok-unified.ensures.extended c.in_ok-unified.ensures.kept c.in_ok-unified.ensures.unified c.if-unified.true
    c.moment-moment.ensures.now c.moment-moment.ensures.whole c.requires.goal c.requires.rest c.requires.body
