-- The terms of what is asked.
use Rattle.std.specs.Prelude.{Result, Ok, Err}
use Rattle.cp_heap.specs.State.{State}
use Rattle.cp_code.specs.Requests as requests
use Rattle.cp_code.specs.Requests.{Refused}
use Rattle.cp_request.specs.declared.asking.Asking.{Asking}
use Rattle.cp_request.specs.declared.refusal.Refusal.{Refusal}
use Rattle.cp_request.specs.declared.refusal.Refusal.TheVariants as refusal
use Rattle.cp_request.specs.Refused.{Asks}
use Rattle.cp_goals.specs.Rows.{HasAnswer}

pub answer-there : (h : State) (wanted : Result requests.Asking Refused) (answer : Result Asking Refusal) → Asks h wanted answer → HasAnswer h answer
answer-there h wanted (Ok a) asks = asks.1
answer-there h wanted (Err (refusal.Raised e)) asks = asks.1
answer-there h wanted (Err refusal.NoMemory) asks = tt
