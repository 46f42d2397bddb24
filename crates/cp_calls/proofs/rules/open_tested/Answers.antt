use Rattle.std.proofs.Common.{List, length, map, sym, ◌∙◌, subst}
use Rattle.cp_term.specs.declared.cell.Cell.{Cell}
use Rattle.cp_term.specs.Preorder.{arguments}
use Rattle.cp_props.specs.Arguments.{HaveArguments}
use Rattle.cp_props.specs.Checks.{check_shown}
use Rattle.cp_run.specs.Shown.{here_of, instance_in, rules_from}
use Rattle.cp_calls.proofs.ExitLaws.{tested-moved}
use Rattle.cp_calls.proofs.rules.open_tested.Goals as goal

pub put_exit-requires-clause-named : goal.put_exit-requires-clause-named
put_exit-requires-clause-named c =
    subst (λ (t : List Cell). HaveArguments (length (arguments t)) (map check_shown c.args.held)) (sym c.in_ok-goal.ensures.term) c.requires.named

pub returns-clause-moved : goal.returns-clause-moved
returns-clause-moved c code =
    c.in_ok-open_rules.ensures.moved code
    ∙ tested-moved code c.args.run.now c.instance.new.self c.put_exit.new.run c.args.pred.now (map check_shown c.args.held) (rules_from code c.args.place 0) (instance_in (here_of c.args.run.now) c.args.goal.at) c.in_ok-goal.goal.at c.args.rest c.args.level c.in_ok-behind.behind
    c.in_ok-goal.ensures.gained c.requires.rest c.in_ok-behind.ensures.put c.in_ok-goal.ensures.term c.in_ok-goal.ensures.instance
