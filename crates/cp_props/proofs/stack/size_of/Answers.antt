use Rattle.std.proofs.Common.{arith}
use Rattle.cp_props.proofs.Stacks.{walked-one}
use Rattle.cp_props.proofs.stack.size_of.Goals as goal

pub cells-smaller : goal.cells-smaller
cells-smaller c =
    let h = c.args.heap.now in
    let pushed = c.in_ok-push_arguments-in-Some.ensures in
    let fewer = walked-one h c.cells.stack c.pop.new.self c.push_arguments.new.stack c.in-Some.next c.in-Some.ensures pushed.term pushed.pushed in
    omega arith

pub cells-preserved : goal.cells-preserved
cells-preserved c =
    let h = c.args.heap.now in
    let pushed = c.in_ok-push_arguments-in-Some.ensures in
    let fewer = walked-one h c.cells.stack c.pop.new.self c.push_arguments.new.stack c.in-Some.next c.in-Some.ensures pushed.term pushed.pushed in
    let more = c.in_ok-size-in-Some.ensures in
    record { places = pushed.places; counted = omega (arith, c.cells.invariant.counted) }
