-- What a prepared call does, and when that is the step of the call.
use Rattle.std.specs.Prelude.{ℕ, ◌≡◌, ◌≢◌, ◌==◌, not, List, [], ◌∷◌, length, filter, ℤ, pos, ◌+ℤ◌, ◌≤ℤ◌}
use Rattle.cp_call.specs.declared.call.Call.{Call}
use Rattle.cp_call.specs.declared.outcome.FactRow.{FactRow}
use Rattle.cp_call.specs.declared.outcome.ParkedRow.{ParkedRow}
use Rattle.cp_call.specs.Object.{State, Stepped, step}
use Rattle.cp_fact.specs.declared.effect.Effect.{Effect}
use Rattle.cp_fact.specs.Contents.{changed, IsWithin}

-- An effect on an object in this state makes this step.
pub record IsEffect (s : State) (goes : Stepped) (e : Effect) : Type 0 where
  pub reply : e.reply ≡ goes.reply
  pub state : changed e.change s ≡ goes.state
  pub within : IsWithin e.change.facts (length s.facts)

-- the parked callers but for this one
abbrev pub without_caller : ℕ → List ParkedRow → List ParkedRow
without_caller caller parked = filter (λ (w : ParkedRow). not (w.caller == caller)) parked

-- each fact lies at a place that was used
abbrev pub AreBetween : ℤ → ℤ → List FactRow → Type 0
AreBetween low high [] = Unit {0}
AreBetween low high (f ∷ facts) = (low ≤ℤ f.place) × (f.place ≤ℤ high) × AreBetween low high facts

-- none of the facts lies at this place
abbrev pub AreOff : ℤ → List FactRow → Type 0
AreOff place [] = Unit {0}
AreOff place (f ∷ facts) = (f.place ≢ place) × AreOff place facts

-- no two facts lie at one place
abbrev pub AreApart : List FactRow → Type 0
AreApart [] = Unit {0}
AreApart (f ∷ facts) = AreOff f.place facts × AreApart facts

-- The facts lie at different places between the lowest and the highest.
pub record IsPlaced (s : State) : Type 0 where
  pub between : AreBetween s.lowest s.highest s.facts
  pub apart : AreApart s.facts
  pub order : s.lowest ≤ℤ (s.highest +ℤ pos 1)
