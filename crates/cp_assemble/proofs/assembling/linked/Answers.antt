use Rattle.std.proofs.Common.{◌≤◌, ◌∙◌, length, ap, sym, subst}
use Rattle.cp_assemble.proofs.LimitLaws.{few_rules, few_shared}
use Rattle.cp_assemble.proofs.ProgramLaws.{assembled, preds_with}
use Rattle.cp_assemble.proofs.assembling.linked.Goals as goal

pub new-shared-requires : goal.new-shared-requires
new-shared-requires c = subst (λ preds. length preds ≤ 32) (sym c.in_ok-names.ensures) (few_shared c.args.parts.now c.requires.accepted)

pub program_of-requires : goal.program_of-requires
program_of-requires c = few_rules c.args.parts.now c.requires.accepted

pub returns-clause-program : goal.returns-clause-program
returns-clause-program c =
    let parts = c.args.parts.now in
    let prelude = c.args.prelude.now in
    let shared = c.into_preds.ensures ∙ c.new-shared.ensures ∙ c.in_ok-names.ensures in
    let preds = c.in_ok-defined.ensures.preds ∙ ap (λ names. preds_with names parts prelude) (sym c.into_preds.ensures) in
    assembled parts prelude _ _ _ _ c.in_ok-program.ensures shared preds c.in_ok-defined.ensures.peers
