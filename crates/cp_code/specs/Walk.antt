-- The machine at work: it moves until it is ready, and takes the next input where there is one.
use Rattle.std.specs.Prelude.{ℕ, zero, suc, List, [], ◌∷◌, Option, Some, None}
use Rattle.cp_term.specs.declared.cell.Cell.{Cell}
use Rattle.cp_call.specs.declared.item.Input.{Input}
use Rattle.cp_call.specs.declared.item.Next.{Next}
use Rattle.cp_code.specs.Code.{Code}
use Rattle.cp_code.specs.Machine.{State, move, ready, told}

-- what goes on from a state and the inputs that are left
abbrev pub Walker : Type 0
Walker = State → List Input → Option Next

abbrev pub taken : Next → Walker → Walker
taken n go st [] = Some n
taken n go st (i ∷ inputs) = go (told st i) inputs

abbrev pub step : Code → List Cell → Option Next → Walker → Walker
step code goal (Some n) go st inputs = taken n go st inputs
step code goal None go st inputs = go (move code goal st) inputs

-- so many moves and inputs at most; none where they do not reach to what is asked behind all inputs
abbrev pub walk : Code → List Cell → ℕ → Walker
walk code goal zero st inputs = None
walk code goal (suc steps) st inputs = step code goal (ready st) (walk code goal steps) st inputs
