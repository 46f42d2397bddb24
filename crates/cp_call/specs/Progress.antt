-- How a run goes on: by one event of one of its workers after another, each of which is the answer to the worker's pending
-- request.
use Rattle.std.specs.Prelude.{ℕ, zero, suc, ◌+◌, ◌≡◌, true, false, Some, List, [], ◌∷◌, ◌++◌, map, slice_get, slice_set}
use Rattle.std.specs.List.{list_any}
use Rattle.cp_call.specs.declared.call.Call.{Call}
use Rattle.cp_call.specs.declared.call.Reply.{Reply}
use Rattle.cp_call.specs.declared.call.Reply.TheVariants as reply
use Rattle.cp_call.specs.declared.call.Entry.{Entry}
use Rattle.cp_call.specs.declared.item.Item.{Item}
use Rattle.cp_call.specs.declared.item.Item.TheVariants as item
use Rattle.cp_call.specs.declared.item.PutReply.{PutReply}
use Rattle.cp_call.specs.declared.outcome.Stand.TheVariants as stand
use Rattle.cp_call.specs.declared.outcome.EngineEnd.{EngineEnd}
use Rattle.cp_call.specs.declared.outcome.PredEnd.{PredEnd}
use Rattle.cp_call.specs.declared.outcome.Outcome.{Outcome}
use Rattle.cp_call.specs.Object.{step, opening_state}
use Rattle.cp_call.specs.History.{Limit, MayFollow, state_after}
use Rattle.cp_call.specs.Life.{IsRequest, pending_request}
use Rattle.cp_call.specs.Asker.{IsFull}
use Rattle.cp_call.specs.Sound.{Object, Setup, is_lane, has_failed}

-- an engine with one event more
abbrev pub with_event : EngineEnd → Item → EngineEnd
with_event e i = record e { items = e.items ++ i ∷ [] }

-- an object with one entry more, in the state that its call leaves
abbrev pub with_entry : Object → PredEnd → Entry → PredEnd
with_entry o pred e = record pred {
  history = pred.history ++ e ∷ [];
  facts = (step (state_after o.kind o.opening pred.history) e.caller e.call).state.facts;
  is_open = (step (state_after o.kind o.opening pred.history) e.caller e.call).state.is_open;
  parked = (step (state_after o.kind o.opening pred.history) e.caller e.call).state.parked;
}

-- Engine n called object p, which replied: the object has one entry more, which may follow the others.
pub record IsCalled (s : Setup) (before : Outcome) (n p : ℕ) (c : Call) (r : Reply) (after : Outcome) : Type 0 where
  pub object : Object
  pub pred : PredEnd
  pub object_at : slice_get s.objects p ≡ Some object
  pub pred_at : slice_get before.preds p ≡ Some pred
  pub follows : MayFollow object.kind object.opening pred.history (record { caller = n; call = c; reply = r })
  pub preds : after.preds ≡ slice_set before.preds p (with_entry object pred (record { caller = n; call = c; reply = r }))
  pub port : after.port ≡ before.port

-- Engine n was refused a call of object p for want of room, rightly: no object has changed.
pub record IsRefused (s : Setup) (before : Outcome) (n p : ℕ) (c : Call) (limit : Limit) (after : Outcome) : Type 0 where
  pub object : Object
  pub pred : PredEnd
  pub object_at : slice_get s.objects p ≡ Some object
  pub pred_at : slice_get before.preds p ≡ Some pred
  pub full : IsFull object pred.history n c limit
  pub preds : after.preds ≡ before.preds
  pub port : after.port ≡ before.port

-- Engine n wrote on the port, which fails from its first failure on.
pub record IsWritten (before : Outcome) (n : ℕ) (bytes : List ℕ) (r : PutReply) (after : Outcome) : Type 0 where
  pub failed : list_any has_failed before.port ≡ true → has_failed (record { engine = n; bytes = bytes; reply = r }) ≡ true
  pub preds : after.preds ≡ before.preds
  pub port : after.port ≡ before.port ++ record { engine = n; bytes = bytes; reply = r } ∷ []

-- Neither an object nor the port has changed.
pub record IsElsewhere (before after : Outcome) : Type 0 where
  pub preds : after.preds ≡ before.preds
  pub port : after.port ≡ before.port

abbrev pub IsReplied : Setup → Outcome → (n p : ℕ) → Call → Reply → Outcome → Type 0
IsReplied s before n p c (reply.Full by count) after = IsRefused s before n p c (record { by = by; count = count }) after
IsReplied s before n p c r after = IsCalled s before n p c r after

-- what an event of engine n makes of objects and port
abbrev pub IsAnswered : Setup → Outcome → (n : ℕ) → Item → Outcome → Type 0
IsAnswered s before n (item.Asked p c r) after = IsReplied s before n p c r after
IsAnswered s before n (item.Wrote bytes r) after = IsWritten before n bytes r after
IsAnswered s before n (item.Remote c r) after = IsElsewhere before after
IsAnswered s before n (item.Given c) after = ⊥
IsAnswered s before n (item.Answered r) after = ⊥

-- The run goes on from one outcome to another by this event of the worker at place k of the engines, from 0: the event
-- answers the worker's pending request, and no other engine has changed.
pub record GoesOn (s : Setup) (before : Outcome) (k : ℕ) (i : Item) (after : Outcome) : Type 0 where
  pub engine : EngineEnd
  pub engine_at : slice_get before.engines k ≡ Some engine
  pub worker : is_lane engine.stand ≡ false
  pub due : IsRequest (pending_request s.rule engine.items) i
  pub engines : after.engines ≡ slice_set before.engines k (with_event engine i)
  pub answered : IsAnswered s before (k + 1) i after

-- Which worker goes on, by its place among the engines from 0, and by which event.
pub record Pick : Type 0 where
  pub place : ℕ
  pub event : Item

-- the run goes on from one outcome to another by these events, whichever worker each of them is of
abbrev pub GoesOnBy : Setup → Outcome → List Pick → Outcome → Type 0
GoesOnBy s before [] after = before ≡ after
GoesOnBy s before (p ∷ picks) after = (between : Outcome) × (GoesOn s before p.place p.event between × GoesOnBy s between picks after)

-- so many engines that have done nothing yet, numbered from n on
abbrev pub new_engines : (n count : ℕ) → List EngineEnd
new_engines n zero = []
new_engines n (suc count) = record { number = n; items = []; stand = stand.Parked 0 } ∷ new_engines (n + 1) count

-- an object as it begins
abbrev pub new_object : Object → PredEnd
new_object o = record {
  name = o.name;
  opening = o.opening;
  history = [];
  facts = (opening_state o.kind o.opening).facts;
  is_open = true;
  parked = [];
}

-- a run of so many workers as it begins, where each goal has this step budget
abbrev pub beginning : Setup → (steps workers : ℕ) → Outcome
beginning s steps workers = record { steps = steps; engines = new_engines 1 workers; preds = map new_object s.objects; port = [] }
