use Rattle.std.proofs.Common.{◌∙◌, sym}
use Rattle.cp_code.proofs.Heads.{head_argument}
use Rattle.cp_code.proofs.clause.Clause.first_argument.Goals as goal

-- the first argument of a rule's head stands behind `:-` and the head's functor
pub returns-then-is_rule : goal.returns-then-is_rule
returns-then-is_rule c =
    c.argument_from.ensures ∙ head_argument c.args.self.now.whole (sym c.is_rule.ensures ∙ c.if-is_rule.true) c.cells-cells.ensures.term
