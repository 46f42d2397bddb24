-- The stage of a worker after a reply, by whether it was parked.
use Rattle.std.proofs.Common.{◌≡◌, ◌≢◌, ℕ, ℤ, ◌++◌, List, [], ◌∷◌, refl, sym, ◌∙◌, ap, subst, Bool, true, false}
use Rattle.cp_term.specs.declared.cell.Cell.{Cell}
use Rattle.cp_call.specs.declared.call.Reply.{Reply}
use Rattle.cp_call.specs.declared.call.Reply.TheVariants as reply
use Rattle.cp_call.specs.declared.item.Next.{Next}
use Rattle.cp_call.specs.declared.item.Input.{Input}
use Rattle.cp_call.specs.declared.item.Input.TheVariants as input
use Rattle.cp_call.specs.Life as life
use Rattle.cp_shell.specs.declared.stage.Stage.{Stage}
use Rattle.cp_shell.specs.declared.stage.Stage.TheVariants as stage
use Rattle.cp_shell.specs.Stage.{IsAt, IsRunningGoal}
use Rattle.cp_shell.specs.Parked.{is_parking}

pub no_parking : (r : Reply) → is_parking r ≡ false → r ≢ reply.Parked
no_parking r h e = let z : true ≡ false = subst (λ x. is_parking x ≡ false) e h in cc

-- a reply that is not Parked is handed to the goal
pub replied_goal : (rule : life.Rule) (number : ℤ) (goal : List Cell) (inputs : List Input) (request : Next) (r : Reply) → is_parking r ≡ false
    → life.replied rule (life.Runs number goal inputs request) r ≡ life.runs_on rule number goal (inputs ++ input.Reply r ∷ [])
replied_goal rule number goal inputs request (reply.Added place woken) h = refl
replied_goal rule number goal inputs request (reply.Found place fact) h = refl
replied_goal rule number goal inputs request reply.NoMore h = refl
replied_goal rule number goal inputs request reply.Parked h = cc
replied_goal rule number goal inputs request (reply.Purged count) h = refl
replied_goal rule number goal inputs request (reply.Replaced place woken) h = refl
replied_goal rule number goal inputs request (reply.Closed woken) h = refl
replied_goal rule number goal inputs request reply.Reopened h = refl
replied_goal rule number goal inputs request reply.Left h = refl
replied_goal rule number goal inputs request reply.NotParked h = refl
replied_goal rule number goal inputs request (reply.Full by count) h = refl

pub replied_parked : (rule : life.Rule) (number : ℤ) (goal : List Cell) (inputs : List Input) (request : Next) (r : Reply) → is_parking r ≡ true
    → life.replied rule (life.Runs number goal inputs request) r ≡ life.Runs number goal inputs request
replied_parked rule number goal inputs request (reply.Added place woken) h = cc
replied_parked rule number goal inputs request (reply.Found place fact) h = cc
replied_parked rule number goal inputs request reply.NoMore h = cc
replied_parked rule number goal inputs request reply.Parked h = refl
replied_parked rule number goal inputs request (reply.Purged count) h = cc
replied_parked rule number goal inputs request (reply.Replaced place woken) h = cc
replied_parked rule number goal inputs request (reply.Closed woken) h = cc
replied_parked rule number goal inputs request reply.Reopened h = cc
replied_parked rule number goal inputs request reply.Left h = cc
replied_parked rule number goal inputs request reply.NotParked h = cc
replied_parked rule number goal inputs request (reply.Full by count) h = cc

-- parked, the goal keeps its request
pub stays_parked : (rule : life.Rule) (objects : ℕ) (continuation : List Input → Next) (failed : Bool) (at : life.WorkerStage) (number : ℤ) (request : Next) (r : Reply)
    → IsRunningGoal rule objects continuation failed at number request → is_parking r ≡ true
    → IsAt rule objects continuation failed (life.replied rule at r) (stage.Runs number request)
stays_parked rule objects continuation failed at number request r g h =
    subst (λ x. IsRunningGoal rule objects continuation failed x number request)
    (sym (ap (λ s. life.replied rule s r) g.stage ∙ (replied_parked rule number g.goal g.inputs request r h ∙ sym g.stage))) g

-- not parked, it goes on
pub goes_on_at : (rule : life.Rule) (objects : ℕ) (before after : List Input → Next) (was failed : Bool) (at : life.WorkerStage) (number : ℤ) (request : Next) (r : Reply) (s : Stage)
    → IsRunningGoal rule objects before was at number request → is_parking r ≡ false
    → ((goal : List Cell) (inputs : List Input) → ((more : List Input) → before more ≡ rule goal (inputs ++ more)) → IsAt rule objects after failed (life.runs_on rule number goal (inputs ++ input.Reply r ∷ [])) s)
    → IsAt rule objects after failed (life.replied rule at r) s
goes_on_at rule objects before after was failed at number request r s g h f =
    subst (λ x. IsAt rule objects after failed x s) (sym (ap (λ k. life.replied rule k r) g.stage ∙ replied_goal rule number g.goal g.inputs request r h)) (f g.goal g.inputs g.goes_on)
