use Rattle.cp_request.proofs.BodyLaws.{made_integer, made_variable, made_atom}
use Rattle.cp_request.proofs.parts.Parts.of.Goals as goal

pub returns-in-Int : goal.returns-in-Int
returns-in-Int c = made_integer c.args.heap.now c.args.at _ c.in-Int.ensures.first

pub returns-in-Var : goal.returns-in-Var
returns-in-Var c = made_variable c.args.heap.now c.args.at _ c.in-Var.ensures.first.0

pub returns-in-Atom : goal.returns-in-Atom
returns-in-Atom c = let shape = c.in-Atom.ensures.first in made_atom c.args.heap.now c.args.at shape.0 shape.1
