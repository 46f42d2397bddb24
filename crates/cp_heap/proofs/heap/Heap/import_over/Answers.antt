use Rattle.std.proofs.Common.{rules}
use Rattle.cp_heap.proofs.lemmas.Growth.{substitution-stays}
use Rattle.cp_heap.proofs.heap.Heap.import_over.Goals as goal

pub returns-clause-bindings : goal.returns-clause-bindings
returns-clause-bindings c = substitution-stays c.args.self.now c.keep_or_undo.new.self (search rules) c.mark-mark.ensures.well_formed (search rules)
