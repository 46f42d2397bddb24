use Rattle.std.proofs.Common.{◌≡◌, List, map, ◌∙◌, ap}
use Rattle.std.specs.List.{filter_map}
use Rattle.std.proofs.lemmas.Result.{IfOk-weaker}
use Rattle.cp_code.specs.Programs.{check_on}
use Rattle.cp_props.specs.declared.check.Check.{Check}
use Rattle.cp_props.specs.Arguments.{HaveArguments, NameArguments}
use Rattle.cp_props.specs.Checks.{check_shown}
use Rattle.cp_props.proofs.Naming.{checks_named, same_named}
use Rattle.cp_props.proofs.asserted.checks_of.Goals as goal

pub returns-clause-named : goal.returns-clause-named
returns-clause-named c =
    let pred = c.args.pred.now in
    let assertions = c.args.program.now.checks in
    IfOk-weaker c.checks_among.result
    (λ (checks : List Check). map check_shown checks ≡ filter_map (check_on pred) c.as_slice.result.now)
    (λ (checks : List Check). NameArguments assertions → HaveArguments pred.arity (map check_shown checks))
    (λ checks is named. same_named pred.arity (map check_shown checks) (filter_map (check_on pred) assertions) (is ∙ ap (filter_map (check_on pred)) c.as_slice.ensures) (checks_named pred assertions named))
    c.checks_among.ensures
