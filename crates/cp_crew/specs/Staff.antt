-- The workers of a round, each at the seats of its number.
use Rattle.std.specs.Prelude.{◌≡◌, ◌≢◌, ◌==◌, ℕ, List, [], ◌∷◌, ◌++◌, All, map}
use Rattle.cp_call.specs.declared.item.RemoteCall.{RemoteCall}
use Rattle.cp_call.specs.declared.item.RemoteReply.{RemoteReply}
use Rattle.cp_call.specs.declared.outcome.OutEntry.{OutEntry}
use Rattle.cp_call.specs.Life.{Rule}
use Rattle.cp_call.specs.Sound.{own_entries, own_writes}
use Rattle.cp_shell.specs.Shell.{ShellView}
use Rattle.cp_hall.specs.declared.hall.HallRow.{HallRow}
use Rattle.cp_hall.specs.Hall.{HallObject, AreLegal, objects_of, history_at}
use Rattle.cp_out.specs.Port.{PortView, GoesOn}
use Rattle.cp_turn.specs.Passes.{PassView, TurnstileView, IsOutside, ExtendsSeen}
use Rattle.cp_turn_hall.specs.Behind.{HallPassView, SeatView, IsPassOf, IsSeenIn, hall_at_start, seen_for}
use Rattle.cp_turn_port.specs.Seat.{PortSeatView, IsSeatOf, writes_for, wrote_for}
use Rattle.cp_round.specs.Worker.{WorkerView, IsTied, HasWorked}

-- a worker at a seat of the objects and a seat of the port
abbrev pub SeatedView : Type 0 → Type 0 → Type 0 → Type 0
SeatedView M S C = WorkerView M SeatView (PortSeatView S) C

module _ {M S C : Type 0} where
  -- the worker of a shell, at the seats of these passes
  abbrev pub seated : List (TurnstileView HallRow) → TurnstileView (PortView S) → ShellView M → HallPassView → PassView OutEntry (PortView S) → C → SeatedView M S C
  seated objects turn s h p c = record {
    shell = s;
    asker = record { turnstiles = objects; number = h.number; places = h.places };
    port = record { turn = turn; pass = p };
    caller = c;
  }

  -- the same of each shell, with the passes and the caller at its place
  abbrev pub all_seated : List (TurnstileView HallRow) → TurnstileView (PortView S) → List (ShellView M) → List HallPassView → List (PassView OutEntry (PortView S)) → List C → List (SeatedView M S C)
  all_seated objects turn (s ∷ ss) (h ∷ hs) (p ∷ ps) (c ∷ cs) = seated objects turn s h p c ∷ all_seated objects turn ss hs ps cs
  all_seated objects turn ss hs ps cs = []

  -- what a worker has the objects by, and the port
  abbrev pub hall_pass : SeatedView M S C → HallPassView
  hall_pass w = record { number = w.asker.number; places = w.asker.places }

  -- A worker at its seats: both passes are outside, and the engine is tied to what the seats have seen and written.
  pub record IsSeated {Code : Type 0} (code : M → Code) (asks : Code → Rule) (count : Code → ℕ) (w : SeatedView M S C) : Type 0 where
    pub objects : IsPassOf w.asker.turnstiles (hall_pass w)
    pub outside : IsOutside w.port.turn w.port.pass
    pub tied : IsTied (asks (code w.shell.machine)) (count (code w.shell.machine)) (objects_of (hall_at_start w.asker.turnstiles)) (λ n. n == w.asker.number) (writes_for w.port) (seen_for w.asker) (wrote_for w.port) w.shell.number w.shell.items

-- a seat of the objects later on: for the same caller at the same objects
abbrev pub StaysSeated : SeatView → SeatView → Type 0
StaysSeated s t = (t.turnstiles ≡ s.turnstiles) × (t.number ≡ s.number)

-- The objects are out from behind their turnstiles: each history has begun as it was, begins with what each pass has seen and
-- has no more entries of its caller, and has gained none of others.
pub record IsOut (turnstiles : List (TurnstileView HallRow)) (passes : List HallPassView) (hall : List HallObject) : Type 0 where
  pub objects : objects_of hall ≡ objects_of (hall_at_start turnstiles)
  pub seen : All (IsSeenIn hall turnstiles) passes
  pub others : (n p : ℕ) → All (λ pass. pass.number ≢ n) passes → own_entries n (history_at hall p) ≡ own_entries n (history_at (hall_at_start turnstiles) p)
  pub legal : AreLegal hall

-- The same of the port.
pub record IsPortOut {S : Type 0} (turn : TurnstileView (PortView S)) (passes : List (PassView OutEntry (PortView S))) (port : PortView S) : Type 0 where
  pub goes_on : GoesOn turn.base port
  pub later : List OutEntry
  pub entries : port.entries ≡ turn.base.entries ++ later
  pub seen : All (ExtendsSeen (λ (e : OutEntry). e.engine) later) passes
  pub others : (n : ℕ) → All (λ p. p.number ≢ n) passes → own_writes n later ≡ []

module _ {M S C Code : Type 0} (code : M → Code) (went : C → RemoteCall → RemoteReply → C → Type 0) where
  -- a worker has worked, and is at its seats
  abbrev pub Worked : SeatedView M S C → SeatedView M S C → Type 0
  Worked w v = HasWorked code StaysSeated IsSeatOf went w v

  abbrev pub AllWorked : List (SeatedView M S C) → List (SeatedView M S C) → Type 0
  AllWorked [] [] = Unit {0}
  AllWorked [] (v ∷ vs) = ⊥
  AllWorked (w ∷ ws) [] = ⊥
  AllWorked (w ∷ ws) (v ∷ vs) = Worked w v × AllWorked ws vs

-- What workers have left: each has worked and is at its seats, and this is what they are made of.
pub record HaveWorked {M S C Code : Type 0} (code : M → Code) (asks : Code → Rule) (count : Code → ℕ) (went : C → RemoteCall → RemoteReply → C → Type 0) (before : List (SeatedView M S C))
    (shells : List (ShellView M)) (hall_passes : List HallPassView) (port_passes : List (PassView OutEntry (PortView S))) (callers : List C) : Type 0 where
  pub now : List (SeatedView M S C)
  pub worked : AllWorked code went before now
  pub seated : All (IsSeated code asks count) now
  pub shells_are : shells ≡ map (λ (w : SeatedView M S C). w.shell) now
  pub hall_passes_are : hall_passes ≡ map hall_pass now
  pub port_passes_are : port_passes ≡ map (λ (w : SeatedView M S C). w.port.pass) now
  pub callers_are : callers ≡ map (λ (w : SeatedView M S C). w.caller) now
