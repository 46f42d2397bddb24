use Rattle.std.proofs.Common.{sym, ◌∙◌, ap}
use Rattle.cp_term.specs.Preorder.{arguments}
use Rattle.cp_code.specs.Bodies.{seen_from}
use Rattle.cp_code.specs.Programs.{code_of}
use Rattle.cp_code.specs.Tree.{without_module, goal_context}
use Rattle.cp_engine.proofs.started.Started.of.Goals as goal

pub returns-clause-started : goal.returns-clause-started
returns-clause-started c =
    let p = c.args.program.now in
    record {
      answer = c.in_ok-answer.ensures ∙ ap (λ g. without_module g (arguments g)) (sym c.in_ok-goal.ensures);
      context = λ budget. c.in_ok-context.ensures p budget ∙ ap (λ g. goal_context (code_of p budget) (seen_from p.first g)) (sym c.in_ok-goal.ensures);
    }
