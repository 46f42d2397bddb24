use Rattle.std.proofs.Common.{◌+◌, ◌≤◌, length, sym, ◌∙◌, ap, arith}
use Rattle.cp_term.specs.declared.cell.Cell.TheVariants.{Func}
use Rattle.cp_code.specs.Clauses.{is_neck}
use Rattle.cp_run.proofs.ClauseLaws.{rule-head, rule-body}
use Rattle.cp_run.proofs.clause_parts.ClauseParts.of.Goals as goal

pub returns-then-is_neck-clause-head : goal.returns-then-is_neck-clause-head
returns-then-is_neck-clause-head c =
    let le : c.in-Compound.first + c.in-Compound.arity ≤ length c.args.heap.now.terms = omega (arith, c.in-Compound.ensures.placed.3, c.requires) in
    rule-head c.args.heap.now.terms _ _ c.in-Compound.arity c.in-Compound.first c.mark-mark.ensures.well_formed.terms c.in-Compound.ensures.term le
    (ap (λ f. is_neck (Func f c.in-Compound.arity)) (sym (c.bytes.ensures.bytes ∙ c.name_at.ensures)) ∙ sym c.is_neck.ensures.0 ∙ c.if-is_neck.true) (c.is_neck.ensures.1 c.if-is_neck.true)

pub returns-then-is_neck-clause-body : goal.returns-then-is_neck-clause-body
returns-then-is_neck-clause-body c =
    let le : c.in-Compound.first + c.in-Compound.arity ≤ length c.args.heap.now.terms = omega (arith, c.in-Compound.ensures.placed.3, c.requires) in
    rule-body c.args.heap.now.terms _ _ c.in-Compound.arity c.in-Compound.first c.mark-mark.ensures.well_formed.terms c.in-Compound.ensures.term le
    (ap (λ f. is_neck (Func f c.in-Compound.arity)) (sym (c.bytes.ensures.bytes ∙ c.name_at.ensures)) ∙ sym c.is_neck.ensures.0 ∙ c.if-is_neck.true) (c.is_neck.ensures.1 c.if-is_neck.true)
