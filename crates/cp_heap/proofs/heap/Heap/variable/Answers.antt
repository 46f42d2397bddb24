use Rattle.std.proofs.Common.{arith}
use Rattle.std.proofs.lemmas.Grind.{common_steps}
use Rattle.cp_heap.specs.State.{Extends}
use Rattle.cp_heap.proofs.lemmas.Growth.{substitution-stays}
use Rattle.cp_heap.proofs.heap.Heap.variable.Goals as goal

pub returns-clause-bindings : goal.returns-clause-bindings
returns-clause-bindings c =
    let grown : Extends c.args.self.now c.keep_or_undo.new.self = record { terms = grind (arith, common_steps); trail = grind (arith, common_steps); variables = grind (arith, common_steps); names = grind (arith, common_steps) } in
    substitution-stays c.args.self.now c.keep_or_undo.new.self grown c.mark-mark.ensures.well_formed (grind (arith, common_steps))
