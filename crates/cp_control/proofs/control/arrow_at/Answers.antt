use Rattle.std.proofs.Common.{◌+◌, ◌≤◌, length, sym, ◌∙◌, ap, arith}
use Rattle.cp_code.specs.Bodies.{arrow_of}
use Rattle.cp_control.specs.Control.{arrow_in, readings}
use Rattle.cp_control.proofs.BodyLaws.{arrow-here, variable-arrow, integer-arrow, atom-arrow}
use Rattle.cp_control.proofs.control.arrow_at.Goals as goal

pub returns-in-Compound-clause-arrow : goal.returns-in-Compound-clause-arrow
returns-in-Compound-clause-arrow c =
    let le : c.in-Compound.first + c.in-Compound.arity ≤ length c.args.heap.now.terms = omega (arith, c.in-Compound.ensures.placed.3, c.requires.place) in
    arrow-here c.args.heap.now.terms _ _ c.in-Compound.arity c.in-Compound.first c.requires.terms c.in-Compound.ensures.term le
    ∙ ap (λ f. arrow_of f (readings c.args.heap.now.terms c.in-Compound.first c.in-Compound.arity)) (sym (c.bytes.ensures.bytes ∙ c.name_at.ensures))
    ∙ c.arrow_of_compound.ensures.arrow c.args.heap.now.terms le

pub returns-in-Variable-clause-arrow : goal.returns-in-Variable-clause-arrow
returns-in-Variable-clause-arrow c = ap arrow_in c.in-Variable.ensures.term ∙ variable-arrow _

pub returns-in-Integer-clause-arrow : goal.returns-in-Integer-clause-arrow
returns-in-Integer-clause-arrow c = ap arrow_in c.in-Integer.ensures.term ∙ integer-arrow _

pub returns-in-Atom-clause-arrow : goal.returns-in-Atom-clause-arrow
returns-in-Atom-clause-arrow c = ap arrow_in c.in-Atom.ensures.term ∙ atom-arrow _
