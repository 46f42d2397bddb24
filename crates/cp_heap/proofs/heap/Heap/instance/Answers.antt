use Rattle.std.proofs.Common.{◌∙◌, ap, arith, rules}
use Rattle.cp_term.specs.Numbering.{next_variable}
use Rattle.cp_heap.proofs.lemmas.Growth.{substitution-stays}
use Rattle.cp_heap.proofs.lemmas.Instances.{instance-variables}
use Rattle.cp_heap.proofs.heap.Heap.instance.Goals as goal

pub put_same-put-requires-clause-variables : goal.put_same-put-requires-clause-variables
put_same-put-requires-clause-variables c =
    let e = ap next_variable (c.as_slice.ensures ∙ c.in_ok-cells.ensures.cells) in
    let low = instance-variables c.args.self.now c.mark-mark.ensures.well_formed c.args.at.at c.requires in
    omega arith

pub returns-clause-bindings : goal.returns-clause-bindings
returns-clause-bindings c = substitution-stays c.args.self.now c.keep_or_undo.new.self (search rules) c.mark-mark.ensures.well_formed (search rules)
