-- A run as a whole: the shared objects, the engines and the port, and how they belong together.
use Rattle.std.specs.Prelude.{ℕ, ◌+◌, ◌==◌, nat_le, nat_lt, ◌≡◌, Bool, true, false, ◌&&◌, IsTrue, MatchBool, MatchOption, cond, List, [], ◌∷◌, ◌++◌, length, Option, Some, None, slice_get}
use Rattle.std.specs.List.{list_all, list_any}
use Rattle.cp_list.specs.Lists.{own}
use Rattle.cp_term.specs.declared.cell.Cell.{Cell}
use Rattle.cp_term.specs.declared.pred_name.PredName.{PredName}
use Rattle.cp_call.specs.declared.call.ObjectKind.{ObjectKind}
use Rattle.cp_call.specs.declared.call.ObjectKind.TheVariants as kind
use Rattle.cp_call.specs.declared.call.ObjectName.{ObjectName}
use Rattle.cp_call.specs.declared.call.ObjectName.TheVariants as name
use Rattle.cp_call.specs.declared.call.Call.{Call}
use Rattle.cp_call.specs.declared.call.Reply.{Reply}
use Rattle.cp_call.specs.declared.call.Reply.TheVariants as reply
use Rattle.cp_call.specs.declared.call.Entry.{Entry}
use Rattle.cp_call.specs.declared.item.PutReply.TheVariants as put
use Rattle.cp_call.specs.declared.item.Item.{Item}
use Rattle.cp_call.specs.declared.item.Item.TheVariants as item
use Rattle.cp_call.specs.declared.outcome.Stand.{Stand}
use Rattle.cp_call.specs.declared.outcome.Stand.TheVariants as stand
use Rattle.cp_call.specs.declared.outcome.EngineEnd.{EngineEnd}
use Rattle.cp_call.specs.declared.outcome.PredEnd.{PredEnd}
use Rattle.cp_call.specs.declared.outcome.ParkedRow.{ParkedRow}
use Rattle.cp_call.specs.declared.outcome.OutEntry.{OutEntry}
use Rattle.cp_call.specs.declared.outcome.Outcome.{Outcome}
use Rattle.cp_call.specs.Object.{is_parked}
use Rattle.cp_call.specs.History.{Legal, Calm, Limit, state_after, full}
use Rattle.cp_call.specs.Life.{Rule, IsWorkersLife}
use Rattle.cp_call.specs.Lane.{IsLanesLife}

-- A shared object as a run begins.
pub record Object : Type 0 where
  pub name : ObjectName
  pub kind : ObjectKind
  pub opening : List (List Cell)

-- What a run is of: what its goals do, its shared objects by number, and which predicates its lanes serve; with None
-- nothing is asked of what a lane does by itself.
pub record Setup : Type 0 where
  pub rule : Rule
  pub objects : List Object
  pub served : Option (List PredName)

-- the shared objects of a run: the list of goals with the goals that it begins with, the empty list of ended goals,
-- and the program's predicates
abbrev pub objects_with : List (List Cell) → List Object → List Object
objects_with goals preds =
    record { name = name.Goals; kind = kind.Goals; opening = goals } ∷
    record { name = name.Ended; kind = kind.Ended; opening = [] } ∷ preds

-- whether an engine is a lane's: it is one that leaves when all is served, and is never left parked
abbrev pub is_lane : Stand → Bool
is_lane (stand.Parked object) = false
is_lane stand.Left = true

-- the entries of a history that are one caller's
abbrev pub own_entries : ℕ → List Entry → List Entry
own_entries n history = own (λ (e : Entry). e.caller) n history

-- the entries of the port that are one engine's
abbrev pub own_writes : ℕ → List OutEntry → List OutEntry
own_writes n port = own (λ (w : OutEntry). w.engine) n port

-- an entry in front of others, unless it is a refusal for want of room, which no history keeps
abbrev pub entry_unless_full : ℕ → Call → Reply → List Entry → List Entry
entry_unless_full n c (reply.Full by count) rest = rest
entry_unless_full n c r rest = record { caller = n; call = c; reply = r } ∷ rest

-- the entries that an engine's events say it has on an object: its calls there with their replies, but for those that were
-- refused for want of room
abbrev pub asked_entries : ℕ → ℕ → List Item → List Entry
asked_entries n p [] = []
asked_entries n p (item.Asked object c r ∷ items) =
    cond (object == p) (entry_unless_full n c r (asked_entries n p items)) (asked_entries n p items)
asked_entries n p (item.Wrote bytes r ∷ items) = asked_entries n p items
asked_entries n p (item.Remote c r ∷ items) = asked_entries n p items
asked_entries n p (item.Given c ∷ items) = asked_entries n p items
asked_entries n p (item.Answered r ∷ items) = asked_entries n p items

-- the entries that an engine's events say it has on the port
abbrev pub wrote_entries : ℕ → List Item → List OutEntry
wrote_entries n [] = []
wrote_entries n (item.Wrote bytes r ∷ items) = record { engine = n; bytes = bytes; reply = r } ∷ wrote_entries n items
wrote_entries n (item.Asked object c r ∷ items) = wrote_entries n items
wrote_entries n (item.Remote c r ∷ items) = wrote_entries n items
wrote_entries n (item.Given c ∷ items) = wrote_entries n items
wrote_entries n (item.Answered r ∷ items) = wrote_entries n items

-- A call was rightly refused for want of room: at some moment, when the object had these first entries of its
-- history, among which the caller's were those that it had made till then, the limit was reached, and the caller
-- was not parked.
pub record WasFull (o : Object) (history : List Entry) (n : ℕ) (mine : List Entry) (c : Call) (limit : Limit) : Type 0 where
  pub seen : List Entry
  pub later : List Entry
  pub begins : history ≡ seen ++ later
  pub own : own_entries n seen ≡ mine
  pub reached : full o.kind o.opening seen c ≡ Some limit
  pub awake : is_parked (state_after o.kind o.opening seen) n ≡ false

-- a reply is no refusal for want of room, or a right one
abbrev pub IsRight : Object → List Entry → ℕ → List Entry → Call → Reply → Type 0
IsRight o history n mine c (reply.Full by count) = WasFull o history n mine c (record { by = by; count = count })
IsRight o history n mine c _ = Unit {0}

-- an event is no refusal of object p for want of room, or a right one; `earlier` are the engine's events before it
abbrev pub IsRightEvent : Object → ℕ → List Entry → ℕ → List Item → Item → Type 0
IsRightEvent o p history n earlier (item.Asked object c r) =
    MatchBool (object == p) (IsRight o history n (asked_entries n p earlier) c r) (Unit {0})
IsRightEvent o p history n earlier _ = Unit {0}

-- the same of each of these events
abbrev pub RightRefusals : Object → ℕ → List Entry → ℕ → List Item → List Item → Type 0
RightRefusals o p history n earlier [] = Unit {0}
RightRefusals o p history n earlier (i ∷ items) = IsRightEvent o p history n earlier i × RightRefusals o p history n (earlier ++ i ∷ []) items

-- What engine n tells of object p is so: its calls stand in the object's history, each once and in its order, and it
-- was refused for want of room only where there was none.
pub record AgreeOn (o : Object) (p : ℕ) (history : List Entry) (n : ℕ) (items : List Item) : Type 0 where
  pub entries : own_entries n history ≡ asked_entries n p items
  pub refusals : RightRefusals o p history n [] items

-- what engine n tells of the objects, numbered from p on, is so; `history` gives the history of each
abbrev pub AgreeFrom : ℕ → List Object → (ℕ → List Entry) → ℕ → List Item → Type 0
AgreeFrom p [] history n items = Unit {0}
AgreeFrom p (o ∷ os) history n items = AgreeOn o p (history p) n items × AgreeFrom (p + 1) os history n items

-- whether an event speaks of one of the first so many objects, if of any
abbrev pub is_of_objects : ℕ → Item → Bool
is_of_objects count (item.Asked object c r) = nat_lt object count
is_of_objects count _ = true

-- All that engine n tells is so: it names only objects that there are, its calls stand in their histories, and its
-- writes are the port's entries of this engine.
pub record Agrees (objects : List Object) (history : ℕ → List Entry) (writes : List OutEntry) (n : ℕ) (items : List Item) : Type 0 where
  pub known : list_all (is_of_objects (length objects)) items ≡ true
  pub asked : AgreeFrom 0 objects history n items
  pub wrote : writes ≡ wrote_entries n items

-- the history of the object of this number
abbrev pub history_in : Option PredEnd → List Entry
history_in None = []
history_in (Some pred) = pred.history

abbrev pub history_at : List PredEnd → ℕ → List Entry
history_at preds p = history_in (slice_get preds p)

-- the life of an engine: one that has left is a lane, and every other one is a worker
abbrev pub IsLife : Setup → Stand → List Item → Type 0
IsLife s (stand.Parked object) items = IsWorkersLife s.rule items
IsLife s stand.Left items = MatchOption s.served (Unit {0}) (λ exports. IsLanesLife s.rule exports items)

-- Engine n is tied to the run: its events are a life, and they and the run tell the same.
pub record IsTied (s : Setup) (preds : List PredEnd) (port : List OutEntry) (n : ℕ) (e : EngineEnd) : Type 0 where
  pub number : e.number ≡ n
  pub life : IsLife s e.stand e.items
  pub agrees : Agrees s.objects (history_at preds) (own_writes n port) n e.items

-- the engines, numbered from n on, are tied to the run
abbrev pub AreTied : Setup → List PredEnd → List OutEntry → ℕ → List EngineEnd → Type 0
AreTied s preds port n [] = Unit {0}
AreTied s preds port n (e ∷ engines) = IsTied s preds port n e × AreTied s preds port (n + 1) engines

-- whether it is the number of one of so many engines, which are numbered from 1
abbrev pub is_engine : ℕ → ℕ → Bool
is_engine count n = nat_le 1 n && nat_le n count

-- whether each entry of a history has an engine as its caller
abbrev pub has_callers : ℕ → PredEnd → Bool
has_callers count pred = list_all (λ (e : Entry). is_engine count e.caller) pred.history

-- whether a write has failed
abbrev pub has_failed : OutEntry → Bool
has_failed w = elim w.reply [ put.Wrote ↦ false | put.Failed ↦ true ]

-- once a write has failed, every later one fails
abbrev pub stays_failed : List OutEntry → Bool
stays_failed [] = true
stays_failed (w ∷ port) = elim w.reply [ put.Wrote ↦ stays_failed port | put.Failed ↦ list_all has_failed port ]

-- Engines, objects and port belong together: every engine is tied to the run, and nobody else calls or writes.
pub record Tied (s : Setup) (o : Outcome) : Type 0 where
  pub engines : AreTied s o.preds o.port 1 o.engines
  pub callers : list_all (has_callers (length o.engines)) o.preds ≡ true
  pub writers : list_all (λ (w : OutEntry). is_engine (length o.engines) w.engine) o.port ≡ true
  pub failed : stays_failed o.port ≡ true

-- An object at the end is the one that it began as, with a legal history, in the state that the history leaves, which is calm.
pub record IsKept (o : Object) (pred : PredEnd) : Type 0 where
  pub name : pred.name ≡ o.name
  pub opening : pred.opening ≡ o.opening
  pub legal : Legal o.kind o.opening pred.history
  pub facts : pred.facts ≡ (state_after o.kind o.opening pred.history).facts
  pub is_open : pred.is_open ≡ (state_after o.kind o.opening pred.history).is_open
  pub parked : pred.parked ≡ (state_after o.kind o.opening pred.history).parked
  pub calm : Calm (state_after o.kind o.opening pred.history)

-- the same of each object, of which none is missing or too many
abbrev pub AreKept : List Object → List PredEnd → Type 0
AreKept [] [] = Unit {0}
AreKept (o ∷ os) (pred ∷ preds) = IsKept o pred × AreKept os preds
AreKept [] (pred ∷ preds) = ⊥
AreKept (o ∷ os) [] = ⊥

-- What holds of a run at every moment: each object is in the state that its legal history leaves, which is calm, and
-- engines, objects and port belong together.
pub record Going (s : Setup) (o : Outcome) : Type 0 where
  pub objects : AreKept s.objects o.preds
  pub tied : Tied s o

-- the last of some events is a call of the object which was replied Parked
abbrev pub EndsParkedOn : ℕ → List Item → Type 0
EndsParkedOn p items = (before : List Item) × (c : Call) × (items ≡ before ++ item.Asked p c reply.Parked ∷ [])

-- whether a caller is parked on the object of this number
abbrev pub is_parked_on : Option PredEnd → ℕ → Bool
is_parked_on None n = false
is_parked_on (Some pred) n = list_any (λ (w : ParkedRow). w.caller == n) pred.parked

-- an engine rests: a worker is parked on the object that it names, and its last event was to be parked there; a lane has left
abbrev pub Rests : List PredEnd → EngineEnd → Stand → Type 0
Rests preds e (stand.Parked p) = EndsParkedOn p e.items × IsTrue (is_parked_on (slice_get preds p) e.number)
Rests preds e stand.Left = Unit {0}

-- every engine rests
abbrev pub AllRest : List PredEnd → List EngineEnd → Type 0
AllRest preds [] = Unit {0}
AllRest preds (e ∷ engines) = Rests preds e e.stand × AllRest preds engines

-- What holds of a run at its end: all that holds at every moment, and that every engine rests.
pub record Sound (s : Setup) (o : Outcome) : Type 0 where
  pub going : Going s o
  pub rest : AllRest o.preds o.engines

-- whether some engine is a lane's
abbrev pub has_lane : Outcome → Bool
has_lane o = list_any (λ (e : EngineEnd). is_lane e.stand) o.engines
