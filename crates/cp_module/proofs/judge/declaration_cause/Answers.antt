use Rattle.std.proofs.Common.{◌≡◌, Some, sym, ap, ◌∙◌}
use Rattle.cp_declaration.specs.declared.declaration.Declaration.TheVariants as declares
use Rattle.cp_module.specs.Causes.{declaration_cause}
use Rattle.cp_module.proofs.judge.declaration_cause.Goals as goal

pub returns-in-Some-Shared : goal.returns-in-Some-Shared
returns-in-Some-Shared c = λ done knows.
    let is : Some (declares.Shared c.in-Some-Shared._suspends c.as_slice-in-Some-Shared.result.now) ≡ c.args.said = cc in
    c.in_ok-cause-in-Some-Shared.ensures c.in-Some-Shared._suspends done knows ∙ ap (declaration_cause done) is
