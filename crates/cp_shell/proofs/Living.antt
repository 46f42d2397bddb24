-- The life of a worker goes on by what its stage asks for, whether it is answered or memory stops it.
use Rattle.std.proofs.Common.{◌≡◌, inl, inr, ℕ, ℤ, ◌++◌, List, [], ◌∷◌, sym, ◌∙◌, ap, subst, Bool, None}
use Rattle.cp_term.specs.declared.cell.Cell.{Cell}
use Rattle.cp_term.specs.declared.cell.Cell.TheVariants.{Var}
use Rattle.cp_call.specs.declared.call.Call.{Call}
use Rattle.cp_call.specs.declared.call.Call.TheVariants as call
use Rattle.cp_call.specs.declared.item.Item.{Item}
use Rattle.cp_call.specs.declared.item.Item.TheVariants as item
use Rattle.cp_call.specs.declared.item.Input.{Input}
use Rattle.cp_call.specs.declared.item.Next.{Next}
use Rattle.cp_call.specs.declared.item.Next.TheVariants as next
use Rattle.cp_call.specs.declared.item.PutReply.{PutReply}
use Rattle.cp_call.specs.declared.item.RemoteCall.{RemoteCall}
use Rattle.cp_call.specs.declared.item.RemoteReply.{RemoteReply}
use Rattle.cp_call.specs.Life as life
use Rattle.cp_call.proofs.Growing.{IsWorkersLife-push}
use Rattle.cp_shell.specs.Asked.{HasAskedOnce}
use Rattle.cp_shell.specs.Stage.{IsRunningGoal}

lives_on : (rule : life.Rule) (before now : List Item) (p : ℕ) (c : Call) → life.pending_request rule before ≡ next.Ask p c → HasAskedOnce before now p c → life.IsWorkersLife rule before → life.IsWorkersLife rule now
lives_on rule before now p c pending (inl same) l = subst (λ x. life.IsWorkersLife rule x) (sym same) l
lives_on rule before now p c pending (inr more) l = subst (λ x. life.IsWorkersLife rule x) (sym more.1) (IsWorkersLife-push rule before (item.Asked p c more.0) l pending)

-- the list of goals was asked
pub lives_by_look : (rule : life.Rule) (before now : List Item) (pattern : List Cell) → pattern ≡ Var 0 ∷ [] → life.last_stage rule life.Idle before ≡ life.Idle
    → HasAskedOnce before now 0 (call.Take pattern None) → life.IsWorkersLife rule before → life.IsWorkersLife rule now
lives_by_look rule before now pattern any idle once l = lives_on rule before now 0 (call.Take pattern None) (ap life.request_at idle ∙ ap (λ t. next.Ask 0 (call.Take t None)) (sym any)) once l

-- a goal asked an object
pub lives_by_ask : (rule : life.Rule) (count : ℕ) (continuation : List Input → Next) (failed : Bool) (before now : List Item) (number : ℤ) (p : ℕ) (c : Call)
    → IsRunningGoal rule count continuation failed (life.last_stage rule life.Idle before) number (next.Ask p c)
    → HasAskedOnce before now p c → life.IsWorkersLife rule before → life.IsWorkersLife rule now
lives_by_ask rule count continuation failed before now number p c running once l = lives_on rule before now p c (ap life.request_at running.stage) once l

-- the list of ended goals was told
pub lives_by_end : (rule : life.Rule) (before now : List Item) (number : ℤ) (end fact : List Cell) → life.last_stage rule life.Idle before ≡ life.Ends number end → fact ≡ life.ended_fact number end
    → HasAskedOnce before now 1 (call.AddBack fact) → life.IsWorkersLife rule before → life.IsWorkersLife rule now
lives_by_end rule before now number end fact ends is once l = lives_on rule before now 1 (call.AddBack fact) (ap life.request_at ends ∙ ap (λ t. next.Ask 1 (call.AddBack t)) (sym is)) once l

-- a goal wrote
pub lives_by_put : (rule : life.Rule) (count : ℕ) (continuation : List Input → Next) (failed : Bool) (before now : List Item) (number : ℤ) (bytes : List ℕ) (r : PutReply)
    → IsRunningGoal rule count continuation failed (life.last_stage rule life.Idle before) number (next.Put bytes)
    → now ≡ before ++ item.Wrote bytes r ∷ [] → life.IsWorkersLife rule before → life.IsWorkersLife rule now
lives_by_put rule count continuation failed before now number bytes r running is l =
    subst (λ x. life.IsWorkersLife rule x) (sym is) (IsWorkersLife-push rule before (item.Wrote bytes r) l (ap life.request_at running.stage))

-- a goal made a remote call
pub lives_by_call : (rule : life.Rule) (count : ℕ) (continuation : List Input → Next) (failed : Bool) (before now : List Item) (number : ℤ) (c : RemoteCall) (r : RemoteReply)
    → IsRunningGoal rule count continuation failed (life.last_stage rule life.Idle before) number (next.Remote c)
    → now ≡ before ++ item.Remote c r ∷ [] → life.IsWorkersLife rule before → life.IsWorkersLife rule now
lives_by_call rule count continuation failed before now number c r running is l =
    subst (λ x. life.IsWorkersLife rule x) (sym is) (IsWorkersLife-push rule before (item.Remote c r) l (ap life.request_at running.stage))
