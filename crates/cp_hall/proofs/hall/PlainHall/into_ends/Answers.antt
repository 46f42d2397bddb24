use Rattle.std.proofs.Common.{◌≡◌, List, [], sym, ◌∙◌, subst}
use Rattle.std.specs.Prelude.{map}
use Rattle.std.proofs.lemmas.List.{nil_from_length}
use Rattle.cp_call.specs.declared.outcome.PredEnd.{PredEnd}
use Rattle.cp_call.specs.Sound.{AreKept}
use Rattle.cp_hall.specs.declared.hall.HallRow.{HallRow}
use Rattle.cp_hall.specs.Hall.{hall_object, objects_of, histories_of, ended_histories, EndsWith, CanEnd}
use Rattle.cp_hall.proofs.Ending.{one_ended, all_ended, can_end}
use Rattle.cp_hall.proofs.hall.PlainHall.into_ends.Goals as goal
use Rattle.cp_hall.proofs.hall.PlainHall.into_ends.Goals.{After-drop-row-iterator-2}

pub loop-row-preserved : goal.loop-row-preserved
loop-row-preserved c = subst (λ (ends : List PredEnd). EndsWith c.args.self ends (map hall_object c.next.new.self.rest.items)) (sym c.in_ok-push.ensures.ok)
    (one_ended c.args.self c.loop-row.ends (hall_object c.in-Some.row) (map hall_object c.next.new.self.rest.items) c.in_ok-end_of.field-0
    (subst (λ (rows : List HallRow). EndsWith c.args.self c.loop-row.ends (map hall_object rows)) c.in-Some.ensures.steps.0 c.loop-row.invariant)
    c.in_ok-end_of.ensures.kept c.in_ok-end_of.ensures.history)

ended : (c : After-drop-row-iterator-2) → AreKept (objects_of c.args.self) c.loop-row.ends × (ended_histories c.loop-row.ends ≡ histories_of c.args.self)
ended c =
    let none : c.loop-row.row-iterator.rest.items ≡ [] = nil_from_length c.loop-row.row-iterator.rest.items (sym c.loop-row.row-iterator.rest.ok.0 ∙ c.in-None.ensures.steps.0) in
    all_ended c.args.self c.loop-row.ends (subst (λ (rows : List HallRow). EndsWith c.args.self c.loop-row.ends (map hall_object rows)) none c.loop-row.invariant)

pub returns-clause-kept : goal.returns-clause-kept
returns-clause-kept c = (ended c).0

pub returns-clause-histories : goal.returns-clause-histories
returns-clause-histories c = (ended c).1

pub returns-in_err-end_of-clause-can_end : goal.returns-in_err-end_of-clause-can_end
returns-in_err-end_of-clause-can_end c = subst CanEnd c.self.view_is (can_end _ c.self.invariant)

pub returns-in_err-push-clause-can_end : goal.returns-in_err-push-clause-can_end
returns-in_err-push-clause-can_end c = subst CanEnd c.self.view_is (can_end _ c.self.invariant)

pub returns-clause-can_end : goal.returns-clause-can_end
returns-clause-can_end c = subst CanEnd c.self.view_is (can_end _ c.self.invariant)
