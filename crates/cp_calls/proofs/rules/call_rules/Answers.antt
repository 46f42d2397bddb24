use Rattle.std.proofs.Common.{◌≡◌, length, map, sym, ◌∙◌, ap, subst}
use Rattle.cp_builtin.proofs.ListLaws.{length-instances}
use Rattle.cp_props.specs.Arguments.{HaveArguments}
use Rattle.cp_props.specs.Checks.{check_shown}
use Rattle.cp_calls.proofs.CheckLaws.{good-checks}
use Rattle.cp_calls.proofs.rules.call_rules.Goals as goal

pub test_call-requires-clause-named : goal.test_call-requires-clause-named
test_call-requires-clause-named c =
    let h = c.args.run.now.heap in
    let args = c.in_ok-args.args in
    let e : c.args.pred.now.arity ≡ length args = sym (sym (length-instances h args) ∙ ap length c.in_ok-args.ensures.instances ∙ c.requires.arity) in
    let named : HaveArguments c.args.pred.now.arity (map check_shown c.in_ok-checks.checks) =
    subst (HaveArguments c.args.pred.now.arity) (sym c.in_ok-checks.ensures.checks) (good-checks c.args.program.now.checks c.args.pred.now c.requires.checks) in
    subst (λ k. HaveArguments k (map check_shown c.in_ok-checks.checks)) e named
