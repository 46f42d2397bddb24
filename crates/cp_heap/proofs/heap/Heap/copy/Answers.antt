use Rattle.std.proofs.Common.{ap, arith}
use Rattle.cp_term.specs.Numbering.{next_variable}
use Rattle.cp_heap.specs.State.{instance_at}
use Rattle.cp_heap.proofs.CountLaws.{next-canon}
use Rattle.cp_heap.proofs.heap.Heap.copy.Goals as goal

pub returns-clause-variables : goal.returns-clause-variables
returns-clause-variables c =
    let n = ap next_variable c.as_slice.ensures in
    let k = ap next_variable c.in_ok-cells.ensures.cells in
    let m = next-canon (instance_at c.args.self.now c.args.at.at) in
    grind (arith, n, k, m)
