use Rattle.std.proofs.Common.{ap, ◌∙◌, arith}
use Rattle.std.proofs.lemmas.Int.{to_z-of_z}
use Rattle.std.proofs.Common.{rules, w64}
use Rattle.std.specs.Prelude.{drop, pos}
use Rattle.cp_term.specs.declared.cell.Cell.TheVariants.{Int}
use Rattle.cp_read.specs.Progress.{Progress}
use Rattle.cp_read.proofs.lemmas.OperandLaws.{cell_made, number_comes, number_refused}
use Rattle.cp_read.proofs.machine.Machine.number.Goals as goal

pub returns-then-value : goal.returns-then-value
returns-then-value c = λ ops s front h.
    cell_made ops s c.args.self.now c.integer.new.self c.integer.result c.args.max c.behind-rest.result.now (drop 1 c.args.self.now.tokens) _ (Int (pos c.args.value))
    c.integer.ensures.turn c.integer.ensures.ok c.integer.ensures.err
    (c.behind-rest.ensures ∙ ap (λ (p : Progress). drop 1 p.tokens) c.self.view_is) (ap Int (to_z-of_z w64 c.positive.result (search rules) ∙ c.positive.ensures))
    (number_comes ops s c.args.self.now c.args.max c.args.value (omega (arith, c.if-value.true)) front h)

pub returns-else-value : goal.returns-else-value
returns-else-value c = λ ops s front h. number_refused ops s c.args.self.now c.args.max c.args.value c.unexpected.result (omega (arith, c.if-value.false)) front h c.unexpected.ensures
