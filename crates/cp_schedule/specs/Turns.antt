-- Whose turn it is: the turns of a run, one after another, as a list of picks or the words of a generator give them.
use Rattle.std.specs.Prelude.{ℕ, zero, suc, ◌%◌, ◌==◌, ◌≡◌, Bool, true, false, not, MatchBool, cond, List, [], ◌∷◌, ◌++◌, length, map, Option, Some, None, slice_get}
use Rattle.std.specs.List.{list_all, list_any}
use Rattle.rand_pcg.specs.Lcg.{Lcg, started, increment_of}
use Rattle.rand_pcg.specs.Pcg.{multiplier_64, pcg32}
use Rattle.cp_call.specs.declared.item.Item.{Item}
use Rattle.cp_call.specs.declared.item.Item.TheVariants as item
use Rattle.cp_call.specs.declared.item.PutReply.{PutReply}
use Rattle.cp_call.specs.declared.item.RemoteReply.{RemoteReply}
use Rattle.cp_call.specs.declared.item.RemoteReply.TheVariants as remote
use Rattle.cp_call.specs.declared.outcome.Stand.TheVariants as stand
use Rattle.cp_call.specs.declared.outcome.EngineEnd.{EngineEnd}
use Rattle.cp_call.specs.declared.outcome.OutEntry.{OutEntry}
use Rattle.cp_call.specs.declared.outcome.ParkedRow.{ParkedRow}
use Rattle.cp_call.specs.declared.outcome.PredEnd.{PredEnd}
use Rattle.cp_call.specs.declared.outcome.Outcome.{Outcome}
use Rattle.cp_call.specs.Life.{pending_request}
use Rattle.cp_call.specs.Progress.{GoesOnBy, Pick, beginning}
use Rattle.cp_call.specs.Sound.{Setup}
use Rattle.cp_shell.specs.Parked.{is_remote, is_remote_request, parked_object}
use Rattle.cp_schedule.specs.Ended.{object_number}

-- whether worker n is parked on one of the objects
abbrev pub is_parked_somewhere : List PredEnd → ℕ → Bool
is_parked_somewhere preds n = list_any (λ (pred : PredEnd). list_any (λ (w : ParkedRow). w.caller == n) pred.parked) preds

-- whether there is a worker that is not parked
abbrev pub is_awake_engine : List PredEnd → Option EngineEnd → Bool
is_awake_engine preds None = false
is_awake_engine preds (Some e) = not (is_parked_somewhere preds e.number)

-- whether there is one at this place of the engines, from 0
abbrev pub is_awake : Outcome → ℕ → Bool
is_awake o place = is_awake_engine o.preds (slice_get o.engines place)

-- the places of the workers that are not parked, of those among the first so many, in order
abbrev pub awake_places_below : Outcome → ℕ → List ℕ
awake_places_below o zero = []
awake_places_below o (suc n) = awake_places_below o n ++ cond (is_awake o n) (n ∷ []) []

abbrev pub awake_places : Outcome → List ℕ
awake_places o = awake_places_below o (length o.engines)

-- whether a reply says that there is nobody to dial
abbrev pub is_no_dialer : RemoteReply → Bool
is_no_dialer (remote.Answers answers) = false
is_no_dialer remote.LinkFault = false
is_no_dialer remote.PeerEnded = false
is_no_dialer (remote.BadReply at) = false
is_no_dialer remote.NoDialer = true

-- whether an event is no remote call, or one that nobody dialled
abbrev pub is_undialled : Item → Bool
is_undialled (item.Asked p c r) = true
is_undialled (item.Wrote bytes r) = true
is_undialled (item.Remote c r) = is_no_dialer r
is_undialled (item.Given c) = true
is_undialled (item.Answered r) = true

-- an event of the worker at a place
abbrev pub pick_at : ℕ → Item → Pick
pick_at place i = record { place = place; event = i }

-- A turn of the worker at a place: its pending request is answered, and then the remote calls that are due before its next
-- event. Whatever is called remotely, there is nobody to dial.
pub record TakesTurn (s : Setup) (before : Outcome) (place : ℕ) (after : Outcome) : Type 0 where
  pub event : Item
  pub calls : List Item
  pub goes_on : GoesOnBy s before (map (pick_at place) (event ∷ calls)) after
  pub remote : list_all is_remote calls ≡ true
  pub undialled : list_all is_undialled (event ∷ calls) ≡ true
  pub settled : (e : EngineEnd) → slice_get after.engines place ≡ Some e → is_remote_request (pending_request s.rule e.items) ≡ false
  pub steps : after.steps ≡ before.steps

-- What a pick does, which names a worker by its number from 1: a turn of that worker, or nothing where it names none or one
-- that is parked.
abbrev pub TakesPick : Setup → Outcome → ℕ → Outcome → Type 0
TakesPick s before zero after = before ≡ after
TakesPick s before (suc place) after = MatchBool (is_awake before place) (TakesTurn s before place after) (before ≡ after)

-- whether a pick names a worker that is not parked
abbrev pub names_awake : Outcome → ℕ → Bool
names_awake o zero = false
names_awake o (suc place) = is_awake o place

-- a pick was taken, and drove a worker or not
abbrev pub HasDriven : Setup → (before : Outcome) → ℕ → (driven : Bool) → (after : Outcome) → Type 0
HasDriven s before n driven after = (names_awake before n ≡ driven) × TakesPick s before n after

-- these picks, one after another, lead from one moment of a run to another
abbrev pub TakesPicks : Setup → Outcome → List ℕ → Outcome → Type 0
TakesPicks s before [] after = before ≡ after
TakesPicks s before (n ∷ picks) after = (between : Outcome) × (TakesPick s before n between × TakesPicks s between picks after)

-- the same of picks that all name a worker that is not parked
abbrev pub RunsBy : Setup → Outcome → List ℕ → Outcome → Type 0
RunsBy s before [] after = before ≡ after
RunsBy s before (n ∷ picks) after = (names_awake before n ≡ true) × ((between : Outcome) × (TakesPick s before n between × RunsBy s between picks after))

-- The next turn by a generator: its next word, modulo the number of the workers that are not parked, picks one of them by
-- ascending number.
pub record TakesNextTurn (s : Setup) (words : Lcg) (before after : Outcome) : Type 0 where
  pub place : ℕ
  pub picked : slice_get (awake_places before) ((pcg32 words).0 % length (awake_places before)) ≡ Some place
  pub turn : TakesTurn s before place after

-- an engine at the end stands where its last event left it parked
abbrev pub at_rest : EngineEnd → EngineEnd
at_rest e = record e { stand = stand.Parked (object_number (parked_object e.items)) }

abbrev pub all_at_rest : Outcome → Outcome
all_at_rest o = record o { engines = map at_rest o.engines }

-- so many turns by a generator lead from one moment of a run to its end, where all workers are parked
abbrev pub RunsToEnd : Setup → Lcg → ℕ → Outcome → Outcome → Type 0
RunsToEnd s words zero before end = (awake_places before ≡ []) × (end ≡ all_at_rest before)
RunsToEnd s words (suc turns) before end = (between : Outcome) × (TakesNextTurn s words before between × RunsToEnd s (pcg32 words).1 turns between end)

-- the generator of 32-bit words of a seed, of stream 0
abbrev pub generator_of : ℕ → Lcg
generator_of seed = started 64 multiplier_64 seed (increment_of 64 0)

-- The run of this seed with so many workers, where each goal has this step budget, ends with this outcome.
abbrev pub IsRunOfSeed : Setup → (seed steps workers : ℕ) → Outcome → Type 0
IsRunOfSeed s seed steps workers end = (turns : ℕ) × RunsToEnd s (generator_of seed) turns (beginning s steps workers) end

-- how the writes of a run were replied, in order
abbrev pub puts_of : Outcome → List PutReply
puts_of o = map (λ (w : OutEntry). w.reply) o.port
