use Rattle.std.proofs.Common.{sym, subst, arith}
use Rattle.cp_heap.specs.State.{State}
use Rattle.cp_heap.specs.Walk.{AreLive, argument_places}
use Rattle.cp_heap.proofs.WalkLaws.{live-append, argument_live, end_instance, put_first}
use Rattle.cp_heap.proofs.heap.Heap.put_first.Goals as goal

pub returns-clause-live : goal.returns-clause-live
returns-clause-live c =
    let s : State = c.args.self.now in
    let live = c.end-end.ensures.live in
    subst (AreLive s) (sym c.in_ok-push_arguments.ensures)
    (live-append s c.args.stack.now.items (argument_places c.word-word.result) c.requires.waiting (argument_live s _ _ _ c.word-word.result c.word-word.ensures.placed (omega arith)))

pub returns-clause-cells : goal.returns-clause-cells
returns-clause-cells c =
    let s : State = c.args.self.now in
    let live = c.end-end.ensures.live in
    put_first s c.args.cells.now c.push.new.self c.args.stack.now.items c.push_arguments.new.stack.items c.args.at c.end-end.result.at c.word-word.result c.in_ok-first_cell.field-0
    c.in_ok-push.ensures.ok c.in_ok-first_cell.ensures c.in_ok-push_arguments.ensures c.end-end.ensures.same
    (end_instance s _ _ _ c.end-end.result.at c.word-word.result c.word-word.ensures.term c.end-end.ensures.end c.word-word.ensures.placed (omega arith))
