-- When a prepared call is a right one.
use Rattle.std.specs.Prelude.{ℕ, ◌≡◌, ◌+◌, length, Option, Some, None}
use Rattle.cp_call.specs.declared.call.Call.{Call}
use Rattle.cp_call.specs.Object.{State, step}
use Rattle.cp_call.specs.Store.{Prepared}
use Rattle.cp_call.specs.History.{cells_of_call, cells_of_reply}
use Rattle.cp_fact.specs.declared.plan.Plan.{Plan}
use Rattle.cp_fact.specs.Contents.{changed, IsWithin}

-- the call of a plan
abbrev pub prepared_of : Option Plan → Option Prepared
prepared_of None = None
prepared_of (Some p) = Some (record { caller = p.caller; call = p.call })

-- A plan is right for an object in this state: it makes the step of its call.
pub record IsRightPlan (s : State) (p : Plan) : Type 0 where
  pub recorded : p.recorded ≡ p.reply
  pub reply : p.reply ≡ (step s p.caller p.call).reply
  pub state : changed p.change s ≡ (step s p.caller p.call).state
  pub within : IsWithin p.change.facts (length s.facts)
  pub cells : p.cells ≡ cells_of_call p.call + cells_of_reply p.reply

-- A right plan of this call.
pub record IsPlanFor (s : State) (caller : ℕ) (c : Call) (p : Plan) : Type 0 where
  pub caller_is : p.caller ≡ caller
  pub call_is : p.call ≡ c
  pub right : IsRightPlan s p
