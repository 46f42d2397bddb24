use Rattle.std.proofs.Common.{◌∙◌, ap}
use Rattle.cp_ops.specs.Operators.{look_up}
use Rattle.cp_ops.proofs.lemmas.RowLaws.{look_up-rows}
use Rattle.cp_ops.proofs.operators.Operators.find.Goals as goal

pub returns : goal.returns
returns c =
    c.copied.ensures ∙ c.get.ensures.value ∙ look_up-rows c.args.name.now c.self.inside.rows.entries ∙ ap (λ rows. look_up rows c.args.name.now) c.self.view_is
