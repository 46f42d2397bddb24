use Rattle.std.proofs.Common.{◌≡◌, ◌∙◌, ◌∷◌, [], ap, length, rules}
use Rattle.cp_term.specs.Preorder.{arguments}
use Rattle.cp_heap.specs.State.{instance_at}
use Rattle.cp_code.specs.Requests as requests
use Rattle.cp_code.specs.Requests.{full_name}
use Rattle.cp_run.specs.Shown.{moved}
use Rattle.cp_goals.specs.Rows.{asks_row}
use Rattle.cp_goals.proofs.ArgumentLaws.{one-is}
use Rattle.cp_goals.proofs.questions.wait.Goals as goal

pub returns-clause-moved : goal.returns-clause-moved
returns-clause-moved c code =
    let p = c.args.context.now in
    let g = instance_at c.args.run.now.heap c.args.goal.at in
    let one : length (arguments g) ≡ 1 = search rules in
    c.in_ok-ask_or_raise.ensures.moved code _ c.wait_goal-answer.ensures
    ∙ ap (λ ts. moved code c.args.run.now c.args.rest c.args.level (asks_row (requests.wait_goal ts (full_name p)) (full_name p)))
    (ap (λ t. t ∷ []) c.first_argument-at.ensures.argument ∙ one-is (arguments g) one)
