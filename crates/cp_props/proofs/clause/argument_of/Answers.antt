use Rattle.std.proofs.Common.{◌≡◌, true, List, sym, ◌∙◌, ap, subst}
use Rattle.cp_term.specs.declared.cell.Cell.{Cell}
use Rattle.cp_term.specs.Preorder.{is_terms}
use Rattle.cp_props.proofs.Clausal.{unary_term, unary_pattern, other_pattern}
use Rattle.cp_props.proofs.clause.argument_of.Goals as goal

pub returns-then-is_unary-clause-argument : goal.returns-then-is_unary-clause-argument
returns-then-is_unary-clause-argument c = λ body.
    unary_pattern c.args.cells.now (sym c.is_unary.ensures ∙ c.if-is_unary.true) c.requires body
    ∙ ap (λ (t : List Cell). record { pattern = t; body = body }) (sym c.behind_first.ensures)

pub returns-then-is_unary-clause-term : goal.returns-then-is_unary-clause-term
returns-then-is_unary-clause-term c =
    subst (λ (t : List Cell). is_terms 1 t ≡ true) (sym c.behind_first.ensures) (unary_term c.args.cells.now (sym c.is_unary.ensures ∙ c.if-is_unary.true) c.requires)

pub returns-else-is_unary-clause-argument : goal.returns-else-is_unary-clause-argument
returns-else-is_unary-clause-argument c = λ body. other_pattern c.args.cells.now (sym c.is_unary.ensures ∙ c.if-is_unary.false) body
