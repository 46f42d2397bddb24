-- The history of a shared object, the list of the calls that were made on it with their replies: the state that it leaves,
-- when it is full, when it is legal, and what every state keeps.
use Rattle.std.specs.Prelude.{ℕ, ◌≡◌, ◌+◌, ◌-◌, ◌^◌, min, nat_le, Bool, true, false, not, ◌&&◌, cond, List, [], ◌∷◌, ◌++◌, length, count_by, sum_by, Option, Some, None, is_none, ℤ, ◌≢◌, filter_map}
use Rattle.std.specs.List.{list_all}
use Rattle.cp_term.specs.declared.cell.Cell.{Cell}
use Rattle.cp_call.specs.declared.call.ObjectKind.{ObjectKind}
use Rattle.cp_call.specs.declared.call.ObjectKind.TheVariants as kind
use Rattle.cp_call.specs.declared.call.Call.{Call}
use Rattle.cp_call.specs.declared.call.Call.TheVariants as call
use Rattle.cp_call.specs.declared.call.Reply.{Reply}
use Rattle.cp_call.specs.declared.call.Reply.TheVariants as reply
use Rattle.cp_call.specs.declared.call.FullBy.{FullBy}
use Rattle.cp_call.specs.declared.call.FullBy.TheVariants as by
use Rattle.cp_call.specs.declared.call.Entry.{Entry}
use Rattle.cp_call.specs.declared.outcome.ParkedRow.{ParkedRow}
use Rattle.cp_call.specs.Object.{State, opening_state, step, is_parked, first_seen, suspends}

-- the state after the calls of these entries, one after another; their replies play no part
abbrev pub state_from : State → List Entry → State
state_from s [] = s
state_from s (e ∷ es) = state_from (step s e.caller e.call).state es

-- the state of an object that began with these opening facts, after its whole history
abbrev pub state_after : ObjectKind → List (List Cell) → List Entry → State
state_after k opening history = state_from (opening_state k opening) history

-- how many cells the terms of a call have
abbrev pub cells_of_call : Call → ℕ
cells_of_call (call.AddFront fact) = length fact
cells_of_call (call.AddBack fact) = length fact
cells_of_call (call.Next pattern after) = length pattern
cells_of_call (call.Take pattern after) = length pattern
cells_of_call (call.NextNb pattern after) = length pattern
cells_of_call (call.TakeNb pattern after) = length pattern
cells_of_call (call.Purge pattern) = length pattern
cells_of_call (call.Replace fact) = length fact
cells_of_call call.Close = 0
cells_of_call call.Reopen = 0
cells_of_call call.Leave = 0

-- how many cells the terms of a reply have: a found fact alone has any
abbrev pub cells_of_reply : Reply → ℕ
cells_of_reply (reply.Found place fact) = length fact
cells_of_reply (reply.Added place woken) = 0
cells_of_reply reply.NoMore = 0
cells_of_reply reply.Parked = 0
cells_of_reply (reply.Purged count) = 0
cells_of_reply (reply.Replaced place woken) = 0
cells_of_reply (reply.Closed woken) = 0
cells_of_reply reply.Reopened = 0
cells_of_reply reply.Left = 0
cells_of_reply reply.NotParked = 0
cells_of_reply (reply.Full by count) = 0

-- how many cells a history has
abbrev pub cells_of : List Entry → ℕ
cells_of history = sum_by (λ (e : Entry). cells_of_call e.call + cells_of_reply e.reply) history

-- whether a call adds a fact behind the others, as the call that posts a goal does
abbrev pub is_add_back : Call → Bool
is_add_back (call.AddBack fact) = true
is_add_back _ = false

-- whether it waits for a fact that it leaves, as the call that waits for the end of a goal does
abbrev pub is_next : Call → Bool
is_next (call.Next pattern after) = true
is_next _ = false

-- whether the caller gives up waiting
abbrev pub is_leave : Call → Bool
is_leave call.Leave = true
is_leave _ = false

-- how many goals have been posted on the list of goals, the opening ones among them
abbrev pub posts_of : List (List Cell) → List Entry → ℕ
posts_of opening history = length opening + count_by (λ (e : Entry). is_add_back e.call) history

-- Whether the limits of entries and cells bind a call on an object of this kind: on a program's predicate every call but the
-- wish to leave, on the list of goals the posting of a goal, on the list of ended goals the wait for one. So a worker can
-- always take a goal and say how it ended.
abbrev pub is_bound : ObjectKind → Call → Bool
is_bound kind.Goals c = is_add_back c
is_bound kind.Ended c = is_next c
is_bound kind.Concurrent c = not (is_leave c)
is_bound kind.Plain c = not (is_leave c)

-- whether the limit of posted goals binds it
abbrev pub is_post : ObjectKind → Call → Bool
is_post kind.Goals c = is_add_back c
is_post kind.Ended c = false
is_post kind.Concurrent c = false
is_post kind.Plain c = false

-- Which limit is reached, and the count that has reached it.
pub record Limit : Type 0 where
  pub by : FullBy
  pub count : ℕ

-- a count as it is told: one that needs more than 32 bits is told as the greatest number that does not
abbrev pub shown_count : ℕ → ℕ
shown_count n = min n (2 ^ 32 - 1)

-- the first limit that a call would pass where so many goals were posted and the history has so many entries and
-- cells: 4,096 posted goals, 1,048,576 entries, 2,097,152 cells
abbrev pub full_at : ObjectKind → (posts entries cells : ℕ) → Call → Option Limit
full_at k posts entries cells c =
    cond (is_post k c && nat_le 4096 posts) (Some (record { by = by.Posts; count = shown_count posts }))
    (cond (is_bound k c && nat_le 1048576 entries) (Some (record { by = by.Entries; count = shown_count entries }))
    (cond (is_bound k c && nat_le 2097152 cells) (Some (record { by = by.Cells; count = shown_count cells }))
    None))

-- the first limit that the call would pass after this history
abbrev pub full : ObjectKind → List (List Cell) → List Entry → Call → Option Limit
full k opening history c = full_at k (posts_of opening history) (length history) (cells_of history) c

-- An entry may follow these entries: its reply is the one that the object gives in the state that they leave, its caller
-- is not parked in that state unless it gives up waiting, and the history has room for its call.
pub record MayFollow (k : ObjectKind) (opening : List (List Cell)) (before : List Entry) (e : Entry) : Type 0 where
  pub replied : e.reply ≡ (step (state_after k opening before) e.caller e.call).reply
  pub awake : is_parked (state_after k opening before) e.caller && not (is_leave e.call) ≡ false
  pub room : full k opening before e.call ≡ None

-- each of these entries may follow the history up to it
abbrev pub LegalAfter : ObjectKind → List (List Cell) → List Entry → List Entry → Type 0
LegalAfter k opening before [] = Unit {0}
LegalAfter k opening before (e ∷ es) = MayFollow k opening before e × LegalAfter k opening (before ++ e ∷ []) es

-- a history is legal where each entry may follow those before it
abbrev pub Legal : ObjectKind → List (List Cell) → List Entry → Type 0
Legal k opening history = LegalAfter k opening [] history

-- A state is calm: only an open object of a kind that lets callers wait has parked ones, and no fact above a parked
-- caller's cursor unifies with its pattern.
pub record Calm (s : State) : Type 0 where
  pub waits : list_all (λ (w : ParkedRow). suspends s.kind && s.is_open) s.parked ≡ true
  pub unseen : list_all (λ (w : ParkedRow). is_none (first_seen s.facts w.pattern w.after)) s.parked ≡ true

-- the place of the fact that an entry took, if it took one
abbrev pub taken_place : Call → Reply → Option ℤ
taken_place (call.Take pattern after) (reply.Found place fact) = Some place
taken_place (call.TakeNb pattern after) (reply.Found place fact) = Some place
taken_place _ _ = None

-- the places of all facts that a history took, in order
abbrev pub taken_places : List Entry → List ℤ
taken_places history = filter_map (λ (e : Entry). taken_place e.call e.reply) history

-- the place is none of these
abbrev pub IsNoneOf : List ℤ → ℤ → Type 0
IsNoneOf [] place = Unit {0}
IsNoneOf (other ∷ places) place = (place ≢ other) × IsNoneOf places place

-- all of these places differ
abbrev pub AreDifferent : List ℤ → Type 0
AreDifferent [] = Unit {0}
AreDifferent (place ∷ places) = IsNoneOf places place × AreDifferent places

-- each fact is taken once at most
abbrev pub TakesOnce : List Entry → Type 0
TakesOnce history = AreDifferent (taken_places history)
