-- What a worker engine does, one event after another: it takes a goal, runs it to its first answer or its end, says how it
-- ended, and takes the next. What the goal does is the rule's; what the worker is replied is the shared objects'. So a life
-- is a list of events, each of which is the request that is due with some reply.
use Rattle.std.specs.Prelude.{◌≡◌, ℤ, List, [], ◌∷◌, ◌++◌, None, codes}
use Rattle.cp_term.specs.declared.cell.Cell.{Cell}
use Rattle.cp_term.specs.declared.cell.Cell.TheVariants.{Var, Int, Atom, Func}
use Rattle.cp_call.specs.declared.call.Call.TheVariants as call
use Rattle.cp_call.specs.declared.call.Reply.{Reply}
use Rattle.cp_call.specs.declared.call.Reply.TheVariants as reply
use Rattle.cp_call.specs.declared.item.How.{How}
use Rattle.cp_call.specs.declared.item.How.TheVariants as how
use Rattle.cp_call.specs.declared.item.Next.{Next}
use Rattle.cp_call.specs.declared.item.Next.TheVariants as next
use Rattle.cp_call.specs.declared.item.Input.{Input}
use Rattle.cp_call.specs.declared.item.Input.TheVariants as input
use Rattle.cp_call.specs.declared.item.Item.{Item}
use Rattle.cp_call.specs.declared.item.Item.TheVariants as item

-- What goals do, as a definition: what a goal does next, once it was handed these inputs since it was started.
abbrev pub Rule : Type 0
Rule = List Cell → List Input → Next

-- Where a worker stands between two events.
pub data WorkerStage : Type 0 where
  -- it looks for a goal
  Idle : WorkerStage
  -- it runs the goal of this number, which has been handed these inputs and now makes this request
  Runs : (number : ℤ) → (goal : List Cell) → (inputs : List Input) → (request : Next) → WorkerStage
  -- it says how the goal of this number ended
  Ends : (number : ℤ) → (end : List Cell) → WorkerStage

-- how a goal ended, as a term: `true`, `fail`, `steps` or `ball(B)`
abbrev pub true_term : List Cell
true_term = Atom (codes "true") ∷ []

abbrev pub how_term : How → List Cell
how_term how.Done = Atom (codes "fail") ∷ []
how_term how.Steps = Atom (codes "steps") ∷ []
how_term (how.Ball ball) = Func (codes "ball") 1 ∷ ball

-- the fact `ended(Number, How)`
abbrev pub ended_fact : ℤ → List Cell → List Cell
ended_fact number end = Func (codes "ended") 2 ∷ Int number ∷ end

-- the stage of a goal that does this next: with its first answer, or the end of its search, the goal has ended
abbrev pub stage_at : ℤ → List Cell → List Input → Next → WorkerStage
stage_at number goal inputs (next.Ask object call) = Runs number goal inputs (next.Ask object call)
stage_at number goal inputs (next.Put bytes) = Runs number goal inputs (next.Put bytes)
stage_at number goal inputs (next.Remote call) = Runs number goal inputs (next.Remote call)
stage_at number goal inputs (next.Answer answer) = Ends number true_term
stage_at number goal inputs (next.End end) = Ends number (how_term end)

-- the goal has been handed these inputs
abbrev pub runs_on : Rule → ℤ → List Cell → List Input → WorkerStage
runs_on rule number goal inputs = stage_at number goal inputs (rule goal inputs)

-- what a worker asks for at a stage: the first goal of the list of goals, what its goal asks for, or to add
-- `ended(Number, How)` to the list of ended goals
abbrev pub request_at : WorkerStage → Next
request_at Idle = next.Ask 0 (call.Take (Var 0 ∷ []) None)
request_at (Runs number goal inputs request) = request
request_at (Ends number end) = next.Ask 1 (call.AddBack (ended_fact number end))

-- The worker was replied this by an object. After Parked it asks the same again, and the goal is handed nothing. An idle
-- worker goes on only with a goal that it has found.
abbrev pub replied : Rule → WorkerStage → Reply → WorkerStage
replied rule Idle (reply.Found number goal) = runs_on rule number goal []
replied rule Idle _ = Idle
replied rule (Runs number goal inputs request) reply.Parked = Runs number goal inputs request
replied rule (Runs number goal inputs request) r = runs_on rule number goal (inputs ++ input.Reply r ∷ [])
replied rule (Ends number end) reply.Parked = Ends number end
replied rule (Ends number end) _ = Idle

-- the worker's goal was handed this, which no object has replied
abbrev pub handed : Rule → WorkerStage → Input → WorkerStage
handed rule Idle i = Idle
handed rule (Runs number goal inputs request) i = runs_on rule number goal (inputs ++ i ∷ [])
handed rule (Ends number end) i = Ends number end

-- the stage after an event
abbrev pub stage_after : Rule → WorkerStage → Item → WorkerStage
stage_after rule s (item.Asked object call r) = replied rule s r
stage_after rule s (item.Wrote bytes r) = handed rule s (input.Put r)
stage_after rule s (item.Remote call r) = handed rule s (input.Remote r)
stage_after rule s (item.Given call) = s
stage_after rule s (item.Answered r) = s

-- the stage after these events
abbrev pub last_stage : Rule → WorkerStage → List Item → WorkerStage
last_stage rule s [] = s
last_stage rule s (i ∷ items) = last_stage rule (stage_after rule s i) items

-- the event is this request with a reply
abbrev pub IsRequest : Next → Item → Type 0
IsRequest request (item.Asked object call r) = request ≡ next.Ask object call
IsRequest request (item.Wrote bytes r) = request ≡ next.Put bytes
IsRequest request (item.Remote call r) = request ≡ next.Remote call
IsRequest request (item.Given call) = ⊥
IsRequest request (item.Answered r) = ⊥

-- From this stage on the events are a worker's: each is what is asked for at the stage where it stands.
abbrev pub IsLifeFrom : Rule → WorkerStage → List Item → Type 0
IsLifeFrom rule s [] = Unit {0}
IsLifeFrom rule s (i ∷ items) = IsRequest (request_at s) i × IsLifeFrom rule (stage_after rule s i) items

-- The events are a worker's from its beginning.
abbrev pub IsWorkersLife : Rule → List Item → Type 0
IsWorkersLife rule items = IsLifeFrom rule Idle items

-- what the worker asks for after these events: the one request that is pending
abbrev pub pending_request : Rule → List Item → Next
pending_request rule items = request_at (last_stage rule Idle items)
