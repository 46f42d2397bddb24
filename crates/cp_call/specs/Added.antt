-- What a call that works on behalf of one engine adds: events of the engine, which tell just what the asker and the writer
-- tell more than before; and what it leaves as it was.
use Rattle.std.specs.Prelude.{ℕ, ◌<◌, ◌≡◌, ◌≢◌, ◌==◌, true, false, Bool, MatchBool, Some, List, [], ◌∷◌, ◌++◌, length, slice_get}
use Rattle.std.specs.List.{list_all}
use Rattle.cp_list.specs.Lists.{IsPrefix}
use Rattle.cp_call.specs.declared.call.Call.{Call}
use Rattle.cp_call.specs.declared.call.Reply.{Reply}
use Rattle.cp_call.specs.declared.call.Reply.TheVariants as reply
use Rattle.cp_call.specs.declared.call.Entry.{Entry}
use Rattle.cp_call.specs.declared.item.Item.{Item}
use Rattle.cp_call.specs.declared.item.Item.TheVariants as item
use Rattle.cp_call.specs.declared.item.RemoteCall.{RemoteCall}
use Rattle.cp_call.specs.declared.item.RemoteReply.{RemoteReply}
use Rattle.cp_call.specs.declared.outcome.OutEntry.{OutEntry}
use Rattle.cp_call.specs.Object.{is_parked}
use Rattle.cp_call.specs.History.{Limit, full, state_after}
use Rattle.cp_call.specs.Sound.{Object, own_entries, asked_entries, wrote_entries, is_of_objects}

-- the asker tells of engine n, for each object, just the calls that the engine's events tell of
abbrev pub HasAsked : List Object → (seen : ℕ → List Entry) → ℕ → List Item → Type 0
HasAsked objects seen n items = (p : ℕ) → p < length objects → own_entries n (seen p) ≡ asked_entries n p items

-- A call was rightly refused for want of room after `seen` was seen of the object, of which `now` is seen now: at some
-- moment between, when the caller had added just `mine` to its entries of `seen`, the limit was reached, and the caller was
-- not parked.
pub record WasFullSince (o : Object) (seen now : List Entry) (n : ℕ) (mine : List Entry) (c : Call) (limit : Limit) : Type 0 where
  pub found : List Entry
  pub begins : IsPrefix seen found
  pub ends : IsPrefix found now
  pub own : own_entries n found ≡ own_entries n seen ++ mine
  pub reached : full o.kind o.opening found c ≡ Some limit
  pub awake : is_parked (state_after o.kind o.opening found) n ≡ false

-- a reply is no refusal for want of room, or a right one
abbrev pub IsRightSince : Object → (seen now : List Entry) → ℕ → (mine : List Entry) → Call → Reply → Type 0
IsRightSince o seen now n mine c (reply.Full by count) = WasFullSince o seen now n mine c (record { by = by; count = count })
IsRightSince o seen now n mine c _ = Unit {0}

-- an event is no refusal of object p for want of room, or a right one; `earlier` are the events added before it
abbrev pub IsRightEventSince : Object → ℕ → (seen now : List Entry) → ℕ → (earlier : List Item) → Item → Type 0
IsRightEventSince o p seen now n earlier (item.Asked object c r) =
    MatchBool (object == p) (IsRightSince o seen now n (asked_entries n p earlier) c r) (Unit {0})
IsRightEventSince o p seen now n earlier _ = Unit {0}

-- the same of each of these events
abbrev pub RightRefusalsSince : Object → ℕ → (seen now : List Entry) → ℕ → (earlier added : List Item) → Type 0
RightRefusalsSince o p seen now n earlier [] = Unit {0}
RightRefusalsSince o p seen now n earlier (i ∷ added) = IsRightEventSince o p seen now n earlier i × RightRefusalsSince o p seen now n (earlier ++ i ∷ []) added

-- The events that engine n has gained tell just what the asker has seen for it, and the writer has written for it, more
-- than before. It holds after a call that was answered and after one that was stopped for want of memory alike.
pub record HasAdded (objects : List Object) (seen now : ℕ → List Entry) (wrote wrote_now : List OutEntry) (n : ℕ) (added : List Item) : Type 0 where
  pub grows : (p : ℕ) → IsPrefix (seen p) (now p)
  pub known : list_all (is_of_objects (length objects)) added ≡ true
  pub asked : (p : ℕ) → own_entries n (now p) ≡ own_entries n (seen p) ++ asked_entries n p added
  pub refusals : (p : ℕ) (o : Object) → slice_get objects p ≡ Some o → RightRefusalsSince o p (seen p) (now p) n [] added
  pub writes : wrote_now ≡ wrote ++ wrote_entries n added

-- whether an event is neither a call of an object nor a write
abbrev pub is_silent : Item → Bool
is_silent (item.Asked object c r) = false
is_silent (item.Wrote bytes r) = false
is_silent (item.Remote c r) = true
is_silent (item.Given c) = true
is_silent (item.Answered r) = true

-- What a call that works on behalf of engine n leaves as it was in an asker: the objects, whom it asks for, and what it
-- tells of everybody else, save that it may have seen more of the others.
pub record AsksForOne (n : ℕ) (objects objects_now : List Object) (serves serves_now : ℕ → Bool) (seen now : ℕ → ℕ → List Entry) (looked looked_now : ℕ → ℕ → ℕ) : Type 0 where
  pub objects_stay : objects_now ≡ objects
  pub serves_stay : (m : ℕ) → serves_now m ≡ serves m
  pub seen_grows : (m p : ℕ) → IsPrefix (seen m p) (now m p)
  pub own_stay : (m p : ℕ) → m ≢ n → own_entries m (now m p) ≡ own_entries m (seen m p)
  pub looked_stays : (m p : ℕ) → m ≢ n → looked_now m p ≡ looked m p

-- What it leaves as it was in a writer: whom it writes for, and what it has written for everybody else.
pub record WritesForOne (n : ℕ) (serves serves_now : ℕ → Bool) (wrote wrote_now : ℕ → List OutEntry) : Type 0 where
  pub serves_stay : (m : ℕ) → serves_now m ≡ serves m
  pub wrote_stays : (m : ℕ) → m ≢ n → wrote_now m ≡ wrote m

-- The remote calls among these events, in order, lead a caller from one state to the other, where `went` says what one
-- call does to it.
abbrev pub Leads : {C : Type 0} → (went : C → RemoteCall → RemoteReply → C → Type 0) → C → List Item → C → Type 0
Leads went before [] after = before ≡ after
Leads {C} went before (item.Remote c r ∷ items) after = (between : C) × (went before c r between × Leads went between items after)
Leads went before (i ∷ items) after = Leads went before items after
