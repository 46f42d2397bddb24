-- When a prepared call is a right one.
use Rattle.std.specs.Prelude.{ℕ, ◌≡◌, ◌+◌, Option, Some, None}
use Rattle.cp_call.specs.declared.call.Call.{Call}
use Rattle.cp_call.specs.Object.{step}
use Rattle.cp_call.specs.Store.{Prepared}
use Rattle.cp_call.specs.History.{cells_of_call, cells_of_reply}
use Rattle.cp_factindex.specs.declared.plan.Plan.{Plan}
use Rattle.cp_factindex.specs.declared.contents.Contents.{Contents}
use Rattle.cp_factindex.specs.Contents.{changed, state_in, IsRightChange}

-- the call of a plan
abbrev pub prepared_of : Option Plan → Option Prepared
prepared_of None = None
prepared_of (Some p) = Some (record { caller = p.caller; call = p.call })

-- A plan is right for an object with these contents: it makes the step of its call.
pub record IsRightPlan (c : Contents) (p : Plan) : Type 0 where
  pub recorded : p.recorded ≡ p.reply
  pub reply : p.reply ≡ (step (state_in c) p.caller p.call).reply
  pub state : changed p.change c ≡ (step (state_in c) p.caller p.call).state
  pub right : IsRightChange p.change c
  pub cells : p.cells ≡ cells_of_call p.call + cells_of_reply p.reply

-- A right plan of this call.
pub record IsPlanFor (c : Contents) (caller : ℕ) (call : Call) (p : Plan) : Type 0 where
  pub caller_is : p.caller ≡ caller
  pub call_is : p.call ≡ call
  pub right : IsRightPlan c p
