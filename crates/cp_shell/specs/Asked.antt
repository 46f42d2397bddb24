-- What asking an object adds to the events of an engine, and what comes of it.
use Rattle.std.specs.Prelude.{◌≡◌, ◌⊎◌, ℕ, List, [], ◌∷◌, ◌++◌, Option, Some, None}
use Rattle.cp_call.specs.declared.call.Call.{Call}
use Rattle.cp_call.specs.declared.call.Reply.{Reply}
use Rattle.cp_call.specs.declared.call.Entry.{Entry}
use Rattle.cp_call.specs.declared.asked.Asked.{Asked}
use Rattle.cp_call.specs.declared.asked.Asked.TheVariants as asked
use Rattle.cp_call.specs.declared.item.Item.{Item}
use Rattle.cp_call.specs.declared.item.Item.TheVariants as item
use Rattle.cp_call.specs.Sound.{Object}
use Rattle.cp_call.specs.Asker.{IsWaiting}

-- the event of a call that was replied; there is none where the caller is still parked or memory is short
abbrev pub event_of : ℕ → Call → Asked → List Item
event_of p c (asked.Replied r) = item.Asked p c r ∷ []
event_of p c asked.StillParked = []
event_of p c asked.NoMemory = []

-- an answer is the reply, or none where the caller is still parked; want of memory is no answer
abbrev pub IsAnswer : Asked → Option Reply → Type 0
IsAnswer (asked.Replied r) answer = answer ≡ Some r
IsAnswer asked.StillParked answer = answer ≡ None
IsAnswer asked.NoMemory answer = ⊥

-- the engine still waits at the object, by what was seen of it
abbrev pub StillWaits : Option Object → List Entry → ℕ → Call → Type 0
StillWaits None seen n c = ⊥
StillWaits (Some o) seen n c = IsWaiting o seen n c

-- the events have gained this call with some reply, or nothing
abbrev pub HasAskedOnce : (before now : List Item) → ℕ → Call → Type 0
HasAskedOnce before now p c = (now ≡ before) ⊎ ((r : Reply) × (now ≡ before ++ item.Asked p c r ∷ []))
