-- The stage at which a worker's shell keeps it, and what it stands for.
use Rattle.std.specs.Prelude.{◌≡◌, ℕ, ℤ, Bool, true, false, not, List, [], ◌++◌}
use Rattle.cp_term.specs.declared.cell.Cell.{Cell}
use Rattle.cp_call.specs.declared.item.Next.{Next}
use Rattle.cp_call.specs.declared.item.Next.TheVariants as next
use Rattle.cp_call.specs.declared.item.Input.{Input}
use Rattle.cp_call.specs.Machine.{IsInForm}
use Rattle.cp_call.specs.Life as life
use Rattle.cp_shell.specs.Parked.{is_remote_request}
use Rattle.cp_shell.specs.declared.stage.Stage.{Stage}
use Rattle.cp_shell.specs.declared.stage.Stage.TheVariants as stage

-- a goal asks for something: it has neither an answer nor an end
abbrev pub IsAsking : Next → Type 0
IsAsking (next.Ask object call) = Unit {0}
IsAsking (next.Put bytes) = Unit {0}
IsAsking (next.Remote call) = Unit {0}
IsAsking (next.Answer goal) = ⊥
IsAsking (next.End how) = ⊥

-- A goal runs: the worker is at its request, which names one of so many objects, and the machine goes on as the goal does
-- with the inputs that it was handed.
pub record IsRunningGoal (rule : life.Rule) (objects : ℕ) (continuation : List Input → Next) (failed : Bool) (at : life.WorkerStage) (number : ℤ) (request : Next) : Type 0 where
  pub goal : List Cell
  pub inputs : List Input
  pub stage : at ≡ life.Runs number goal inputs request
  pub request_is : request ≡ continuation []
  pub goes_on : (more : List Input) → continuation more ≡ rule goal (inputs ++ more)
  pub works : failed ≡ false
  pub in_form : IsInForm objects request
  pub asking : IsAsking request

-- the stage that the shell keeps is the worker's, and the machine runs the worker's goal
abbrev pub IsAt : life.Rule → (objects : ℕ) → (continuation : List Input → Next) → (failed : Bool) → life.WorkerStage → Stage → Type 0
IsAt rule objects continuation failed at stage.Idle = at ≡ life.Idle
IsAt rule objects continuation failed at (stage.Runs number request) = IsRunningGoal rule objects continuation failed at number request
IsAt rule objects continuation failed at (stage.Ends number end) = at ≡ life.Ends number end

-- the stage of a goal that does this next
abbrev pub stage_with : ℤ → Next → Stage
stage_with number (next.Ask object call) = stage.Runs number (next.Ask object call)
stage_with number (next.Put bytes) = stage.Runs number (next.Put bytes)
stage_with number (next.Remote call) = stage.Runs number (next.Remote call)
stage_with number (next.Answer answer) = stage.Ends number life.true_term
stage_with number (next.End how) = stage.Ends number (life.how_term how)

-- whether no remote call is due at a stage
abbrev pub is_settled : Stage → Bool
is_settled stage.Idle = true
is_settled (stage.Runs number request) = not (is_remote_request request)
is_settled (stage.Ends number end) = true
