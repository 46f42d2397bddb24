use Rattle.std.proofs.Common.{drop, ap, ◌∙◌, arith}
use Rattle.std.proofs.lemmas.List.{drop-drop}
use Rattle.cp_assertion.specs.Formulas.{stack_shown}
use Rattle.cp_assertion.proofs.formula.taken_away.Goals as goal

pub taking-preserved : goal.taking-preserved
taking-preserved c = (
  omega arith,
  c.take_away.ensures ∙ ap (drop 1) c.taking.invariant.1 ∙ drop-drop 1 c.taking.taken (stack_shown c.args.parts.now.items),
)
