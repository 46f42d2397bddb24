-- Evaluation with a stack of what is to be done, whose top is last.
use Rattle.std.specs.Prelude.{◌≡◌, ℕ, ◌+◌, ◌*◌, ◌<◌, List, [], ◌∷◌, length, Some, Result, Ok, Err, ℤ}
use Rattle.cp_term.specs.declared.cell.Cell.{Cell}
use Rattle.cp_term.specs.declared.cell.Cell.TheVariants.{Func}
use Rattle.cp_heap.specs.State.{State, instance_at}
use Rattle.cp_heap.specs.Looks.{name_of}
use Rattle.cp_goal.specs.declared.fault.Fault.{Fault}
use Rattle.cp_goal.specs.declared.why.Why.{Why}
use Rattle.cp_goal.specs.declared.why.Why.TheVariants.{Faulty, NotEvaluable}
use Rattle.cp_goal.specs.Evaluation.{Value, value, applied, applied_to_two, why_kind}
use Rattle.cp_arith.specs.declared.frame.Frame.{Frame}
use Rattle.cp_arith.specs.declared.frame.Frame.TheVariants.{Only, First, Second}
use Rattle.cp_arith.specs.declared.now.Now.{Now}
use Rattle.cp_arith.specs.declared.now.Now.TheVariants.{At, Behind}
use Rattle.cp_arith.specs.declared.stop.Stop.{Stop}
use Rattle.cp_arith.specs.declared.stop.Stop.TheVariants.{NoValue, NoMemory}
use Rattle.cp_arith.specs.declared.evaluation.EvalError.{EvalError}
use Rattle.cp_arith.specs.declared.evaluation.EvalError.TheVariants as errors

-- the value of the expression at a place
abbrev pub value_at : State → ℕ → Value
value_at h at = value (instance_at h at)

-- what one frame makes of a value, and what all of them do, from the top
abbrev pub filled : State → Frame → Value → Value
filled h (Only op) v = applied op v
filled h (First op r) v = applied_to_two op v (value_at h r.at)
filled h (Second op a) v = applied_to_two op (Ok a) v

abbrev pub plugged : State → List Frame → Value → Value
plugged h [] v = v
plugged h (f ∷ frames) v = filled h f (plugged h frames v)

-- what an evaluation comes to from where it stands
abbrev pub meaning : State → List Frame → Now → Value
meaning h frames (At r) = plugged h frames (value_at h r.at)
meaning h frames (Behind z) = plugged h frames (Ok z)

-- the operands that are still to be evaluated are in the heap
abbrev pub IsLiveFrame : State → Frame → Type 0
IsLiveFrame h (Only op) = Unit {0}
IsLiveFrame h (First op r) = r.at < length h.terms
IsLiveFrame h (Second op a) = Unit {0}

abbrev pub AreLive : State → List Frame → Type 0
AreLive h [] = Unit {0}
AreLive h (f ∷ frames) = IsLiveFrame h f × AreLive h frames

abbrev pub IsLiveNow : State → Now → Type 0
IsLiveNow h (At r) = r.at < length h.terms
IsLiveNow h (Behind z) = Unit {0}

-- How much there is still to do: each cell that is still to be looked at counts three times, since it may push a frame,
-- which counts once.
abbrev pub frame_work : State → Frame → ℕ
frame_work h (Only op) = 1
frame_work h (First op r) = 1 + 3 * length (instance_at h r.at)
frame_work h (Second op a) = 1

abbrev pub frames_work : State → List Frame → ℕ
frames_work h [] = 0
frames_work h (f ∷ frames) = frame_work h f + frames_work h frames

abbrev pub now_work : State → Now → ℕ
now_work h (At r) = 3 * length (instance_at h r.at)
now_work h (Behind z) = 1

abbrev pub work : State → List Frame → Now → ℕ
work h frames now = frames_work h frames + now_work h now

-- one step of an evaluation, which comes to the same and has less to do
pub record Advances (h : State) (before : List Frame) (now : Now) (after : List Frame) (next : Now) : Type 0 where
  pub means : meaning h after next ≡ meaning h before now
  pub frames : AreLive h after
  pub place : IsLiveNow h next
  pub less : work h after next < work h before now

-- an evaluation was stopped, by what it comes to or by want of memory
abbrev pub StopsAt : Stop → Value → Type 0
StopsAt (NoValue why) v = v ≡ Err why
StopsAt NoMemory v = Unit {0}

abbrev pub or_stop : Result ℤ Fault → Result Now Stop
or_stop (Ok z) = Ok (Behind z)
or_stop (Err f) = Err (NoValue (Faulty f))

-- how evaluation answers
abbrev pub Evaluates : Result ℤ EvalError → Value → Type 0
Evaluates (Ok z) v = v ≡ Ok z
Evaluates (Err (errors.Raised kind)) v = (why : Why) × (v ≡ Err why) × (kind ≡ why_kind why)
Evaluates (Err errors.NoMemory) v = Unit {0}

-- the expression is a compound of this many arguments
abbrev pub IsCompound : List Cell → ℕ → Type 0
IsCompound cells k = (f : List ℕ) × (rest : List Cell) × (cells ≡ Func f k ∷ rest)

-- the expression is an atom or a compound of this many arguments, and no operation
abbrev pub IsNotEvaluable : List Cell → ℕ → Type 0
IsNotEvaluable cells k = (f : List ℕ) × (name_of cells ≡ Some f) × (value cells ≡ Err (NotEvaluable f k))
