-- What a worker tells of a goal that has ended.
use Rattle.std.proofs.Common.{◌≡◌, ℤ, List, [], ap, refl, arith}
use Rattle.std.specs.Prelude.{codes}
use Rattle.cp_term.specs.declared.cell.Cell.{Cell}
use Rattle.cp_goal.specs.Errors.{word}
use Rattle.cp_call.specs.declared.item.How.TheVariants as how
use Rattle.cp_call.specs.declared.item.Input.{Input}
use Rattle.cp_call.specs.declared.item.Next.{Next}
use Rattle.cp_call.specs.declared.item.Next.TheVariants as request
use Rattle.cp_call.specs.Life.{runs_on, stage_at, WorkerStage, Idle, Runs, Ends}
use Rattle.cp_code.specs.Code.{Code}
use Rattle.cp_code.specs.Tree as trees
use Rattle.cp_code.specs.Tree.{Left, Done, next_of, asks}
use Rattle.cp_code.specs.Laws.{goal_tree}

pub done_tree_is_failure : (code : Code) (goal : List Cell) (inputs : List Input) (number : ℤ) (left : Left) → goal_tree code goal inputs ≡ trees.Ends Done left → runs_on (asks code) number goal inputs ≡ Ends number (word (codes "fail"))
done_tree_is_failure code goal inputs number left e = ap (λ run. stage_at number goal inputs (next_of run)) e

pub done_is_failure : (code : Code) (goal : List Cell) (inputs : List Input) (number : ℤ) → asks code goal inputs ≡ request.End how.Done → runs_on (asks code) number goal inputs ≡ Ends number (word (codes "fail"))
done_is_failure code goal inputs number e = ap (stage_at number goal inputs) e

-- what a stage tells, if it is an end
told_end : List Cell → WorkerStage → List Cell
told_end other Idle = other
told_end other (Runs number goal inputs n) = other
told_end other (Ends number end) = end

only_done : (goal : List Cell) (inputs : List Input) (number : ℤ) (n : Next) → stage_at number goal inputs n ≡ Ends number (word (codes "fail")) → n ≡ request.End how.Done
only_done goal inputs number (request.Ask object call) e = absurd (let told = ap (told_end []) e in grind arith)
only_done goal inputs number (request.Put bytes) e = absurd (let told = ap (told_end []) e in grind arith)
only_done goal inputs number (request.Remote call) e = absurd (let told = ap (told_end []) e in grind arith)
only_done goal inputs number (request.Answer t) e = absurd (let told = ap (told_end []) e in grind arith)
only_done goal inputs number (request.End how.Done) e = refl
only_done goal inputs number (request.End how.Steps) e = absurd (let told = ap (told_end []) e in grind arith)
only_done goal inputs number (request.End (how.Ball ball)) e = absurd (let told = ap (told_end []) e in grind arith)

pub failure_is_done : (code : Code) (goal : List Cell) (inputs : List Input) (number : ℤ) → runs_on (asks code) number goal inputs ≡ Ends number (word (codes "fail")) → asks code goal inputs ≡ request.End how.Done
failure_is_done code goal inputs number e = only_done goal inputs number (asks code goal inputs) e
