-- The checks of `eng_call`, by what is left of the definition.
use Rattle.std.specs.Prelude.{◌≡◌, ℕ, List, [], ◌∷◌, Result, Ok, Err}
use Rattle.cp_term.specs.declared.cell.Cell.{Cell}
use Rattle.cp_heap.specs.declared.reference.Ref.{Ref}
use Rattle.cp_heap.specs.State.{State, instance_at}
use Rattle.cp_code.specs.Bodies.{seen_from}
use Rattle.cp_code.specs.Requests as requests
use Rattle.cp_request.specs.declared.post.PostGoal.{PostGoal}
use Rattle.cp_request.specs.declared.refusal.Refusal.{Refusal}
use Rattle.cp_request.specs.Shapes.{IsPlace}
use Rattle.cp_request.specs.Refused.{Refuses}

-- the arguments
abbrev pub posted_terms : State → PostGoal → List (List Cell)
posted_terms h p = instance_at h p.goal.at ∷ instance_at h p.engine.at ∷ instance_at h p.thread.at ∷ instance_at h p.id.at ∷ []

abbrev pub HasPost : State → PostGoal → Type 0
HasPost h p = IsPlace h p.goal × IsPlace h p.engine × IsPlace h p.thread × IsPlace h p.id

-- the goal is there to be posted, or why it is not
abbrev pub IsChecked : State → PostGoal → Result (Unit {0}) Refusal → Type 0
IsChecked h p (Ok done) =
    (m : List ℕ) (ctx : List Cell) → requests.post_goal m (posted_terms h p) ctx ≡ requests.post_asking (instance_at h p.id.at) ctx (requests.handed_out (requests.posted m (instance_at h p.goal.at)))
IsChecked h p (Err e) = (m : List ℕ) (ctx : List Cell) → Refuses h (requests.post_goal m (posted_terms h p) ctx) e

-- the same for its first argument alone
abbrev pub IsGoalChecked : State → Ref → Result (Unit {0}) Refusal → Type 0
IsGoalChecked h at (Ok done) =
    (m : List ℕ) (goal engine thread id ctx : List Cell) → requests.post_of_goal (seen_from m (instance_at h at.at)) m goal engine thread id ctx ≡ requests.post_checked m goal engine thread id ctx
IsGoalChecked h at (Err e) = (m : List ℕ) (goal engine thread id ctx : List Cell) → Refuses h (requests.post_of_goal (seen_from m (instance_at h at.at)) m goal engine thread id ctx) e
