-- What a prepared call does, and when that is the step of the call.
use Rattle.std.specs.Prelude.{◌≡◌, List, [], ◌∷◌, ℤ, pos, ◌+ℤ◌, ◌≤ℤ◌}
use Rattle.cp_call.specs.declared.outcome.FactRow.{FactRow}
use Rattle.cp_call.specs.Object.{State, Stepped}
use Rattle.cp_factindex.specs.declared.contents.Contents.{Contents}
use Rattle.cp_factindex.specs.declared.effect.Effect.{Effect}
use Rattle.cp_factindex.specs.Contents.{changed, IsRightChange}

-- An effect on an object with these contents makes this step.
pub record IsEffect (c : Contents) (goes : Stepped) (e : Effect) : Type 0 where
  pub reply : e.reply ≡ goes.reply
  pub state : changed e.change c ≡ goes.state
  pub right : IsRightChange e.change c

-- each fact lies at a place that was used
abbrev pub AreBetween : ℤ → ℤ → List FactRow → Type 0
AreBetween low high [] = Unit {0}
AreBetween low high (f ∷ facts) = (low ≤ℤ f.place) × (f.place ≤ℤ high) × AreBetween low high facts

-- The facts lie between the lowest and the highest place.
pub record IsPlaced (s : State) : Type 0 where
  pub between : AreBetween s.lowest s.highest s.facts
  pub order : s.lowest ≤ℤ (s.highest +ℤ pos 1)
