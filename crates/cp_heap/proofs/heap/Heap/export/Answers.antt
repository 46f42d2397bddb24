use Rattle.cp_heap.specs.State.{instance_at}
use Rattle.cp_heap.proofs.WalkLaws.{is_numbered}
use Rattle.cp_heap.proofs.heap.Heap.export.Goals as goal

pub known-requires-clause-numbered : goal.known-requires-clause-numbered
known-requires-clause-numbered c = is_numbered c.in_ok-cells.cells (instance_at c.args.self.now c.args.at.at) c.in_ok-cells.ensures.cells
