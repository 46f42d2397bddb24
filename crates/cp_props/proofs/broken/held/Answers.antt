use Rattle.std.proofs.Common.{◌≡◌, List, length, map}
use Rattle.std.proofs.lemmas.Result.{IfOk-weaker}
use Rattle.cp_lists.specs.Places.{instances}
use Rattle.cp_code.specs.Checks as tests
use Rattle.cp_code.specs.Programs.{type_of}
use Rattle.cp_props.specs.declared.check.Check.{Check}
use Rattle.cp_props.specs.Arguments.{HaveArguments}
use Rattle.cp_props.specs.Checks.{check_shown}
use Rattle.cp_props.proofs.Naming.{held_named, same_named}
use Rattle.cp_props.proofs.broken.held.Goals as goal

pub returns-clause-named : goal.returns-clause-named
returns-clause-named c =
    let types = map type_of c.args.types.now in
    let checks = map check_shown c.args.checks.now in
    let args = instances c.args.heap.now c.args.args.now in
    IfOk-weaker c.all_held.result
    (λ (held : List Check). map check_shown held ≡ tests.held types checks args)
    (λ (held : List Check). HaveArguments (length c.args.args.now) (map check_shown held))
    (λ held is. same_named (length c.args.args.now) (map check_shown held) (tests.held types checks args) is (held_named (length c.args.args.now) types checks args c.requires.named))
    c.all_held.ensures
