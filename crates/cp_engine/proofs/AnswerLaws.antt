-- An answer that is handed out.
use Rattle.std.proofs.Common.{◌≡◌, ℕ, ◌<◌, ◌≤◌, List, [], length, sym, ◌∙◌, ap}
use Rattle.std.specs.Prelude.{Result, Ok, Err, codes}
use Rattle.cp_term.specs.declared.cell.Cell.{Cell}
use Rattle.cp_term.specs.Numbering.{canon}
use Rattle.cp_term.specs.Substitution.{apply}
use Rattle.cp_goal.specs.Errors.{resource_error}
use Rattle.cp_code.specs.declared.program.Program.{Program}
use Rattle.cp_code.specs.Code.{Code}
use Rattle.cp_code.specs.Programs.{code_of}
use Rattle.cp_code.specs.Requests.{full_name, handed_out}
use Rattle.cp_code.specs.Machine as machine
use Rattle.cp_run.specs.declared.point.Point.TheVariants as point
use Rattle.cp_run.specs.declared.run.Run.{Run}
use Rattle.cp_run.specs.Gaining.{Row, IsGained, raise_row}
use Rattle.cp_run.specs.Shown.{here_of, bound, instance_in, goals_shown, frames_of, shown, moved}
use Rattle.cp_run.proofs.GainLaws.{small-is-handed, large-is-not}
use Rattle.cp_engine.specs.declared.started.Started.{Started}
use Rattle.cp_engine.specs.Walking.{IsStarted, answer_row}

-- what becomes of an answer that is handed out so
result_row : Code → (goal : List Cell) → Result (List Cell) (List Cell) → Row
result_row c g o rest s next level = machine.answers_move c g o

answer-is : (p : Program) (budget level : ℕ) (s : Started) (r : Run) (goals : ℕ) (o : Result (List Cell) (List Cell)) → IsStarted p s → handed_out (apply (bound (here_of r)) s.answer) ≡ o
    → moved (code_of p budget) r goals level (answer_row (code_of p budget) s.goal) ≡ moved (code_of p budget) r goals level (result_row (code_of p budget) s.goal o)
unfolding result_row
answer-is p budget level s r goals o started e =
    ap (λ x. moved (code_of p budget) r goals level (result_row (code_of p budget) s.goal x))
    (ap (λ t. handed_out (apply (bound (here_of r)) t)) (sym started.answer) ∙ e)

pub answer-moved : (p : Program) (budget level : ℕ) (s : Started) (r put new : Run) (goals at : ℕ) (t : List Cell) → IsStarted p s → IsGained r put → instance_in (here_of put) at ≡ apply (bound (here_of r)) s.answer → goals < length r.goals
    → length (instance_in (here_of put) at) ≤ 4096 → t ≡ canon (instance_in (here_of put) at) → new ≡ record put { point = point.Answers t }
    → shown (code_of p budget) new ≡ moved (code_of p budget) r goals level (answer_row (code_of p budget) s.goal)
unfolding result_row
answer-moved p budget level s r put new goals at t started gained is lt fits copy state =
    let code = code_of p budget in
    let handed : handed_out (apply (bound (here_of r)) s.answer) ≡ Ok t = ap handed_out (sym is) ∙ small-is-handed (instance_in (here_of put) at) t fits copy in
    ap (shown code) state
    ∙ gained.moved code goals level (result_row code s.goal (Ok t)) lt
    ∙ sym (answer-is p budget level s r goals (Ok t) started handed)

pub error-moved : (p : Program) (budget level : ℕ) (s : Started) (r put new : Run) (goals at : ℕ) → IsStarted p s → IsGained r put → instance_in (here_of put) at ≡ apply (bound (here_of r)) s.answer → goals < length r.goals → goals_shown (here_of r) goals ≡ []
    → 4096 < length (instance_in (here_of put) at) → ((code : Code) (level : ℕ) → shown code new ≡ moved code put goals level (raise_row (resource_error (codes "term_size")) (full_name s.context)))
    → shown (code_of p budget) new ≡ moved (code_of p budget) r goals level (answer_row (code_of p budget) s.goal)
unfolding result_row
error-moved p budget level s r put new goals at started gained is lt none large raised =
    let code = code_of p budget in
    let kind = resource_error (codes "term_size") in
    let handed : handed_out (apply (bound (here_of r)) s.answer) ≡ Err kind = ap handed_out (sym is) ∙ large-is-not (instance_in (here_of put) at) large in
    raised code level
    ∙ gained.moved code goals level (raise_row kind (full_name s.context)) lt
    ∙ ap (λ gs. machine.raises kind (full_name s.context) gs r.units r.copies (frames_of code r)) none
    ∙ ap (λ ctx. machine.raises kind ctx [] r.units r.copies (frames_of code r)) (started.context budget)
    ∙ sym (answer-is p budget level s r goals (Err kind) started handed)
