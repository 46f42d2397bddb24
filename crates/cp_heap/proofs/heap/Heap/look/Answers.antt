use Rattle.std.proofs.Common.{get_or, sym, ◌∙◌, ap, arith, rules}
use Rattle.cp_heap.proofs.HeapLaws.{places, variable_here}
use Rattle.cp_heap.proofs.LookLaws.{word_instance, instance_is, one_term}
use Rattle.cp_heap.proofs.heap.Heap.look.Goals as goal

pub index-requires : goal.index-requires
index-requires c = let e = places c.self.inside c.self.invariant c.args.self.now c.self.view_is in let l = c.end_of-end.ensures.live in omega arith

pub returns-in-Variable-clause-first : goal.returns-in-Variable-clause-first
returns-in-Variable-clause-first c =
    let at = sym c.in-Variable.is ∙ c.index.ensures ∙ ap (get_or c.self.inside.words.items c.end_of-end.result) c.in-Variable.is in
    let here = variable_here c.self.inside c.self.invariant c.args.self.now c.self.view_is c.end_of-end.result c.in-Variable.variable c.end_of-end.ensures.live at in (
      sym c.end_of-end.ensures.same ∙ instance_is c.self.inside c.self.invariant c.args.self.now c.self.view_is c.end_of-end.result c.index.result.now c.end_of-end.ensures.live c.index.ensures c.end_of-end.ensures.end
          ∙ ap (word_instance c.args.self.now) c.in-Variable.is,
      record { place = c.end_of-end.ensures.live; variable = here; unbound = c.end_of-end.ensures.end c.in-Variable.variable here },
    )

pub returns-in-Integer-clause-first : goal.returns-in-Integer-clause-first
returns-in-Integer-clause-first c =
    let e = sym c.end_of-end.ensures.same ∙ instance_is c.self.inside c.self.invariant c.args.self.now c.self.view_is c.end_of-end.result c.index.result.now c.end_of-end.ensures.live c.index.ensures c.end_of-end.ensures.end
    ∙ ap (word_instance c.args.self.now) c.in-Integer.is in grind (arith, rules, e)

pub returns-in-Atom-clause-first : goal.returns-in-Atom-clause-first
returns-in-Atom-clause-first c = (
  _,
  sym c.end_of-end.ensures.same ∙ instance_is c.self.inside c.self.invariant c.args.self.now c.self.view_is c.end_of-end.result c.index.result.now c.end_of-end.ensures.live c.index.ensures c.end_of-end.ensures.end
      ∙ ap (word_instance c.args.self.now) c.in-Atom.is,
)

pub returns-in-Compound-clause-first : goal.returns-in-Compound-clause-first
returns-in-Compound-clause-first c = (
  _,
  _,
  sym c.end_of-end.ensures.same ∙ instance_is c.self.inside c.self.invariant c.args.self.now c.self.view_is c.end_of-end.result c.index.result.now c.end_of-end.ensures.live c.index.ensures c.end_of-end.ensures.end
      ∙ ap (word_instance c.args.self.now) c.in-Compound.is,
)

pub returns-in-Variable-clause-term : goal.returns-in-Variable-clause-term
returns-in-Variable-clause-term c = one_term c.self.inside c.self.invariant c.args.self.now c.self.view_is c.args.at.at c.requires

pub returns-in-Integer-clause-term : goal.returns-in-Integer-clause-term
returns-in-Integer-clause-term c = one_term c.self.inside c.self.invariant c.args.self.now c.self.view_is c.args.at.at c.requires

pub returns-in-Atom-clause-term : goal.returns-in-Atom-clause-term
returns-in-Atom-clause-term c = one_term c.self.inside c.self.invariant c.args.self.now c.self.view_is c.args.at.at c.requires

pub returns-in-Compound-clause-term : goal.returns-in-Compound-clause-term
returns-in-Compound-clause-term c = one_term c.self.inside c.self.invariant c.args.self.now c.self.view_is c.args.at.at c.requires
