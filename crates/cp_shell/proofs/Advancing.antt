-- A goal that was started, or handed what it asked for, is at the stage that is kept.
use Rattle.std.proofs.Common.{◌≡◌, ℕ, ℤ, ◌++◌, List, [], ◌∷◌, refl, sym, ◌∙◌, ap, subst, Bool, false}
use Rattle.std.specs.Prelude.{Result, Ok, Err, IfOk}
use Rattle.cp_term.specs.declared.cell.Cell.{Cell}
use Rattle.cp_call.specs.declared.item.Next.{Next}
use Rattle.cp_call.specs.declared.item.Next.TheVariants as next
use Rattle.cp_call.specs.declared.item.Input.{Input}
use Rattle.cp_call.specs.Machine.{IsInForm}
use Rattle.cp_call.specs.Life as life
use Rattle.cp_shell.specs.declared.stage.Stage.{Stage}
use Rattle.cp_shell.specs.Stage.{IsAt, stage_with}

at_stage : (rule : life.Rule) (objects : ℕ) (continuation : List Input → Next) (failed : Bool) (number : ℤ) (goal : List Cell) (inputs : List Input) (n : Next)
    → n ≡ continuation [] → ((more : List Input) → continuation more ≡ rule goal (inputs ++ more)) → failed ≡ false → IsInForm objects n
    → IsAt rule objects continuation failed (life.stage_at number goal inputs n) (stage_with number n)
at_stage rule objects continuation failed number goal inputs (next.Ask object call) e g w f = record { goal = goal; inputs = inputs; stage = refl; request_is = e; goes_on = g; works = w; in_form = f; asking = tt }
at_stage rule objects continuation failed number goal inputs (next.Put bytes) e g w f = record { goal = goal; inputs = inputs; stage = refl; request_is = e; goes_on = g; works = w; in_form = f; asking = tt }
at_stage rule objects continuation failed number goal inputs (next.Remote call) e g w f = record { goal = goal; inputs = inputs; stage = refl; request_is = e; goes_on = g; works = w; in_form = f; asking = tt }
at_stage rule objects continuation failed number goal inputs (next.Answer answer) e g w f = refl
at_stage rule objects continuation failed number goal inputs (next.End how) e g w f = refl

nil_end : {X : Type 0} (xs : List X) → xs ++ [] ≡ xs
nil_end [] = refl
nil_end (x ∷ xs) = ap (λ r. x ∷ r) (nil_end xs)

-- the machine goes on as the goal does, and has done this next: the stage kept is that of the goal
pub runs_at : (rule : life.Rule) (objects : ℕ) (continuation : List Input → Next) (failed : Bool) (number : ℤ) (goal : List Cell) (inputs : List Input) (n : Next) (s : Stage)
    → n ≡ continuation [] → ((more : List Input) → continuation more ≡ rule goal (inputs ++ more)) → failed ≡ false → IsInForm objects n → s ≡ stage_with number n
    → IsAt rule objects continuation failed (life.runs_on rule number goal inputs) s
runs_at rule objects continuation failed number goal inputs n s e g w f k =
    subst (λ x. IsAt rule objects continuation failed (life.runs_on rule number goal inputs) x) (sym k)
    (subst (λ x. IsAt rule objects continuation failed (life.stage_at number goal inputs x) (stage_with number n)) (e ∙ (g [] ∙ ap (rule goal) (nil_end inputs)))
    (at_stage rule objects continuation failed number goal inputs n e g w f))

-- what follows from what holds of a result holds of it too
pub if_ok : {T E : Type 0} (r : Result T E) {A B : T → Type 0} → IfOk r A → ((x : T) → A x → B x) → IfOk r B
if_ok (Ok x) h f = f x h
if_ok (Err e) h f = tt
