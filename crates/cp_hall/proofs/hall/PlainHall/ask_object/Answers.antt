use Rattle.std.proofs.Common.{◌≡◌, ◌<◌, List, length, refl, ◌∙◌, ap, subst, Some, arith}
use Rattle.std.specs.Prelude.{map, slice_get, slice_set, IfSome}
use Rattle.std.proofs.lemmas.Option.{slice_get_read}
use Rattle.cp_call.specs.Asker.{entry_added, IsFullBy, IsStill}
use Rattle.cp_hall.specs.declared.hall.HallRow.{HallRow}
use Rattle.cp_hall.specs.Hall.{HallObject, hall_object, objects_of, history_at, with_more, IsAnswered}
use Rattle.cp_hall.proofs.Asking.{set_is, get_is, object_is, history_set, length_is, length_objects, objects_more}
use Rattle.cp_hall.proofs.Ending.{legal_set}
use Rattle.cp_hall.proofs.hall.PlainHall.ask_object.Goals as goal
use Rattle.cp_hall.proofs.hall.PlainHall.ask_object.Goals.{After-self-1}

inside : (c : After-self-1) → c.args.object < length c.self.inside.rows.items
inside c = omega (arith, length_is c.self.inside.rows.items, ap length c.self.view_is, length_objects c.args.self.now, c.requires)

was : (c : After-self-1) → slice_get c.self.inside.rows.items c.args.object ≡ Some c.index_mut-row.result.now
was c = slice_get_read c.self.inside.rows.items (length c.self.inside.rows.items) c.args.object c.index_mut-row.result.now refl (inside c) c.index_mut-row.ensures.value

pub returns-clause-hall : goal.returns-clause-hall
returns-clause-hall c = set_is c.self.inside.rows.items c.args.object c.index_mut-row.result.now (record { name = c.index_mut-row.result.now.name; pred = c.ask_one.new.pred }) (entry_added c.args.caller c.args.call.now c.ask_one.result)
    (was c) (rw (c.ask_one.ensures.kind, c.ask_one.ensures.opening, c.ask_one.ensures.history) refl)
    ∙ ap (λ (hall : List HallObject). with_more (entry_added c.args.caller c.args.call.now c.ask_one.result) hall c.args.object) c.self.view_is

pub returns-clause-objects : goal.returns-clause-objects
returns-clause-objects c = ap objects_of (returns-clause-hall c) ∙ objects_more (entry_added c.args.caller c.args.call.now c.ask_one.result) c.args.self.now c.args.object

pub returns-clause-answer : goal.returns-clause-answer
returns-clause-answer c = subst (λ (hall : List HallObject). IfSome (slice_get hall c.args.object) (IsAnswered c.args.caller c.args.call.now c.ask_one.result)) c.self.view_is
    (rw (get_is c.self.inside.rows.items c.args.object c.index_mut-row.result.now (was c)) c.ask_one.ensures.answer)

pub returns-clause-full : goal.returns-clause-full
returns-clause-full c =
    let new : HallRow = record { name = c.index_mut-row.result.now.name; pred = c.ask_one.new.pred } in
    subst (λ (hall : List HallObject). IsFullBy (slice_get (objects_of hall) c.args.object) (history_at (map hall_object (slice_set c.self.inside.rows.items c.args.object new)) c.args.object) c.args.caller c.args.call.now c.ask_one.result) c.self.view_is
    (rw (object_is (map hall_object c.self.inside.rows.items) c.args.object (hall_object c.index_mut-row.result.now) (get_is c.self.inside.rows.items c.args.object c.index_mut-row.result.now (was c)), history_set c.self.inside.rows.items c.args.object new (inside c))
    (c.ask_one.ensures.full (hall_object c.index_mut-row.result.now).object refl refl))

pub returns-clause-still : goal.returns-clause-still
returns-clause-still c =
    let new : HallRow = record { name = c.index_mut-row.result.now.name; pred = c.ask_one.new.pred } in
    subst (λ (hall : List HallObject). IsStill (slice_get (objects_of hall) c.args.object) (history_at (map hall_object (slice_set c.self.inside.rows.items c.args.object new)) c.args.object) c.args.caller c.args.call.now c.ask_one.result) c.self.view_is
    (rw (object_is (map hall_object c.self.inside.rows.items) c.args.object (hall_object c.index_mut-row.result.now) (get_is c.self.inside.rows.items c.args.object c.index_mut-row.result.now (was c)), history_set c.self.inside.rows.items c.args.object new (inside c))
    (c.ask_one.ensures.still (hall_object c.index_mut-row.result.now).object refl refl))

pub invariant_of-self : goal.invariant_of-self
invariant_of-self c = legal_set c.self.inside.rows.items c.args.object (record { name = c.index_mut-row.result.now.name; pred = c.ask_one.new.pred }) c.self.invariant c.ask_one.ensures.legal
