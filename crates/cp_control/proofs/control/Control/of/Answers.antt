use Rattle.std.proofs.Common.{◌+◌, ◌≤◌, Some, length, get_or, [], ◌∷◌, sym, ◌∙◌, ap, arith}
use Rattle.cp_term.specs.declared.cell.Cell.TheVariants.{Atom}
use Rattle.cp_code.specs.Bodies.{CallOf, body_of, atom_body, compound_body}
use Rattle.cp_control.specs.Control.{readings}
use Rattle.cp_control.proofs.BodyLaws.{body-here, variable-body, integer-body, atom-body}
use Rattle.cp_control.proofs.control.Control.of.Goals as goal

pub returns-in-Variable-clause-body : goal.returns-in-Variable-clause-body
returns-in-Variable-clause-body c m =
    ap (body_of m) c.in-Variable.ensures.term ∙ variable-body m _ ∙ ap (λ t. Some (CallOf m t [])) (sym c.in-Variable.ensures.term)

pub returns-in-Integer-clause-body : goal.returns-in-Integer-clause-body
returns-in-Integer-clause-body c m = ap (body_of m) c.in-Integer.ensures.term ∙ integer-body m _

pub returns-in-Atom-clause-body : goal.returns-in-Atom-clause-body
returns-in-Atom-clause-body c m =
    let named = c.bytes.ensures.bytes ∙ c.name_at.ensures in
    ap (body_of m) c.in-Atom.ensures.term ∙ atom-body m _ ∙ ap (λ a. atom_body a m) (sym named)
    ∙ c.of_atom.ensures.body c.args.heap.now.terms c.args.at.at m (c.in-Atom.ensures.term ∙ ap (λ a. Atom a ∷ []) (sym named))

pub returns-in-Atom-clause-parts : goal.returns-in-Atom-clause-parts
returns-in-Atom-clause-parts c = c.of_atom.ensures.parts c.args.at.at

pub returns-in-Compound-clause-body : goal.returns-in-Compound-clause-body
returns-in-Compound-clause-body c m =
    let le : c.in-Compound.first + c.in-Compound.arity ≤ length c.args.heap.now.terms = omega (arith, c.in-Compound.ensures.placed.3, c.requires) in
    body-here m c.args.heap.now.terms _ _ c.in-Compound.arity c.in-Compound.first c.mark-mark.ensures.well_formed.terms c.in-Compound.ensures.term le
    ∙ ap (λ f. compound_body f c.in-Compound.arity (get_or c.args.heap.now.terms c.args.at.at []) (readings c.args.heap.now.terms c.in-Compound.first c.in-Compound.arity) m) (sym (c.bytes-in-Compound.ensures.bytes ∙ c.name_at-in-Compound.ensures))
    ∙ c.of_compound.ensures.body c.args.at.at m
