-- What asking a shared object does to what an asker tells of it, and when its refusals are right.
use Rattle.std.specs.Prelude.{ℕ, ◌+◌, min, ◌≡◌, ◌≢◌, List, [], ◌∷◌, ◌++◌, true, false, Option, Some, None}
use Rattle.cp_call.specs.declared.call.Call.{Call}
use Rattle.cp_call.specs.declared.call.Call.TheVariants as call
use Rattle.cp_call.specs.declared.call.Reply.TheVariants as reply
use Rattle.cp_call.specs.declared.call.Entry.{Entry}
use Rattle.cp_call.specs.declared.asked.Asked.{Asked}
use Rattle.cp_call.specs.declared.asked.Asked.TheVariants as asked
use Rattle.cp_call.specs.Object.{is_parked}
use Rattle.cp_call.specs.History.{Limit, full, state_after}
use Rattle.cp_call.specs.Sound.{Object, entry_unless_full, own_entries}

-- what a caller's own entries on the object have gained by an answer: its call and the reply, unless that is a
-- refusal for want of room or no reply at all
abbrev pub entry_added : ℕ → Call → Asked → List Entry
entry_added n c (asked.Replied r) = entry_unless_full n c r []
entry_added n c asked.StillParked = []
entry_added n c asked.NoMemory = []

-- how often the caller has looked in vain since it was parked, where the count stands still at its last value
abbrev pub looked_after : (last : ℕ) → Asked → ℕ → ℕ
looked_after last (asked.Replied reply.Parked) looked = 0
looked_after last (asked.Replied _) looked = looked
looked_after last asked.StillParked looked = min (looked + 1) last
looked_after last asked.NoMemory looked = looked

-- A call was refused for want of room: the limit is reached after what was seen, and the caller is not parked there.
pub record IsFull (o : Object) (seen : List Entry) (n : ℕ) (c : Call) (limit : Limit) : Type 0 where
  pub reached : full o.kind o.opening seen c ≡ Some limit
  pub awake : is_parked (state_after o.kind o.opening seen) n ≡ false

-- a refusal for want of room is a right one, by what was seen of the object
abbrev pub IsFullBy : Option Object → List Entry → ℕ → Call → Asked → Type 0
IsFullBy (Some o) seen n c (asked.Replied (reply.Full by count)) = IsFull o seen n c (record { by = by; count = count })
IsFullBy None seen n c (asked.Replied (reply.Full by count)) = ⊥
IsFullBy o seen n c _ = Unit {0}

-- the caller is parked by its own entries: the last of them was replied Parked
abbrev pub EndsParked : List Entry → Type 0
EndsParked mine = (before : List Entry) × (e : Entry) × ((mine ≡ before ++ e ∷ []) × (e.reply ≡ reply.Parked))

-- A caller still waits, by what was seen of the object: its call is no wish to leave, it is parked there, and the last of
-- its own entries was replied Parked.
pub record IsWaiting (o : Object) (seen : List Entry) (n : ℕ) (c : Call) : Type 0 where
  pub stays : c ≢ call.Leave
  pub parked : is_parked (state_after o.kind o.opening seen) n ≡ true
  pub last : EndsParked (own_entries n seen)

-- that the caller is still parked is answered only where it still waits
abbrev pub IsStill : Option Object → List Entry → ℕ → Call → Asked → Type 0
IsStill (Some o) seen n c asked.StillParked = IsWaiting o seen n c
IsStill None seen n c asked.StillParked = ⊥
IsStill o seen n c _ = Unit {0}

-- the answer is a refusal
abbrev pub IsRefusal : Asked → Type 0
IsRefusal (asked.Replied (reply.Full by count)) = Unit {0}
IsRefusal asked.StillParked = Unit {0}
IsRefusal _ = ⊥
