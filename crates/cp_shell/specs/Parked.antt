-- Where the events of an engine leave it parked, and what the remote calls of an engine are.
use Rattle.std.specs.Prelude.{◌≡◌, ◌⊎◌, ℕ, Bool, true, false, List, [], ◌∷◌, ◌++◌, Option, Some, None, is_none, cond}
use Rattle.std.specs.List.{list_all}
use Rattle.cp_call.specs.declared.call.Reply.{Reply}
use Rattle.cp_call.specs.declared.call.Reply.TheVariants as reply
use Rattle.cp_call.specs.declared.item.Item.{Item}
use Rattle.cp_call.specs.declared.item.Item.TheVariants as item
use Rattle.cp_call.specs.declared.item.Next.{Next}
use Rattle.cp_call.specs.declared.item.Next.TheVariants as next

-- the reply says that the caller is parked
abbrev pub is_parking : Reply → Bool
is_parking reply.Parked = true
is_parking r = false

-- the object where an event leaves the engine parked, if it does
abbrev pub parked_by : Item → Option ℕ
parked_by (item.Asked p c r) = cond (is_parking r) (Some p) None
parked_by (item.Wrote bytes r) = None
parked_by (item.Remote c r) = None
parked_by (item.Given c) = None
parked_by (item.Answered r) = None

-- whether it leaves the engine awake
abbrev pub leaves_awake : Item → Bool
leaves_awake i = is_none (parked_by i)

-- the object where the last of these events leaves it, where it was parked before them
abbrev pub parked_after : Option ℕ → List Item → Option ℕ
parked_after was [] = was
parked_after was (i ∷ items) = parked_after (parked_by i) items

-- the object where the last event of an engine has left it parked
abbrev pub parked_object : List Item → Option ℕ
parked_object items = parked_after None items

-- whether an event is a remote call
abbrev pub is_remote : Item → Bool
is_remote (item.Asked p c r) = false
is_remote (item.Wrote bytes r) = false
is_remote (item.Remote c r) = true
is_remote (item.Given c) = false
is_remote (item.Answered r) = false

-- whether what is asked for is a remote call
abbrev pub is_remote_request : Next → Bool
is_remote_request (next.Ask p c) = false
is_remote_request (next.Put bytes) = false
is_remote_request (next.Remote c) = true
is_remote_request (next.Answer goal) = false
is_remote_request (next.End how) = false

-- The events have gained one that is no remote call, and then remote calls alone: none where that one has left the engine
-- parked.
pub record HasMade (before now : List Item) : Type 0 where
  pub event : Item
  pub own : is_remote event ≡ false
  pub calls : List Item
  pub awake : (parked_by event ≡ None) ⊎ (calls ≡ [])
  pub added : now ≡ before ++ event ∷ calls
  pub remote : list_all is_remote calls ≡ true

-- they have gained one event that is no remote call, or nothing
abbrev pub HasMadeOne : (before now : List Item) → Type 0
HasMadeOne before now = (now ≡ before) ⊎ ((i : Item) × (now ≡ before ++ i ∷ []) × (is_remote i ≡ false))

-- they have gained one event that is no remote call and then remote calls alone, or nothing
abbrev pub HasMadeAtMost : (before now : List Item) → Type 0
HasMadeAtMost before now = (now ≡ before) ⊎ HasMade before now
