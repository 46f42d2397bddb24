-- What is asked, as the definition of requests has it.
use Rattle.std.specs.Prelude.{List}
use Rattle.cp_term.specs.declared.cell.Cell.{Cell}
use Rattle.cp_heap.specs.State.{State, instance_at}
use Rattle.cp_code.specs.Goals as goals
use Rattle.cp_code.specs.Requests as requests
use Rattle.cp_request.specs.declared.fact_goal.FactGoal.{FactGoal}
use Rattle.cp_request.specs.declared.fact_goal.FactGoal.TheVariants as fact_goal
use Rattle.cp_request.specs.declared.manner.Manner.{Manner}
use Rattle.cp_request.specs.declared.manner.Manner.TheVariants as manner
use Rattle.cp_request.specs.declared.asking.Asking.{Asking}
use Rattle.cp_request.specs.Shapes.{IsPlace}

abbrev pub goal_shown : FactGoal → goals.FactGoal
goal_shown fact_goal.Current = goals.Current
goal_shown fact_goal.Retract = goals.Retract
goal_shown fact_goal.CurrentNb = goals.CurrentNb
goal_shown fact_goal.RetractNb = goals.RetractNb
goal_shown fact_goal.AddFront = goals.AddFront
goal_shown fact_goal.AddBack = goals.AddBack
goal_shown fact_goal.RetractAll = goals.RetractAll
goal_shown fact_goal.Set = goals.Set
goal_shown fact_goal.Close = goals.Close
goal_shown fact_goal.Open = goals.Open

-- the terms of the goal are instances; what is looked for once is the copy that was handed out
abbrev pub manner_shown : State → (copy : List Cell) → Manner → requests.Manner
manner_shown h copy (manner.Finds r) = requests.Finds (instance_at h r.at)
manner_shown h copy manner.FindsOnce = requests.FindsOnce copy
manner_shown h copy manner.Changes = requests.Changes
manner_shown h copy (manner.Posts r) = requests.Posts (instance_at h r.at)

abbrev pub asking_shown : State → Asking → requests.Asking
asking_shown h a = record {
  object = a.object;
  call = requests.call_of (goal_shown a.goal) a.copy;
  manner = manner_shown h a.copy a.manner;
  error_context = requests.full_name a.context;
}

-- its terms are in the heap
abbrev pub HasManner : State → Manner → Type 0
HasManner h (manner.Finds r) = IsPlace h r
HasManner h manner.FindsOnce = Unit {0}
HasManner h manner.Changes = Unit {0}
HasManner h (manner.Posts r) = IsPlace h r
