use Rattle.std.proofs.Common.{◌++◌, length, sym, ◌∙◌, ap, arith, length-append}
use Rattle.std.proofs.lemmas.List.{nil_from_length}
use Rattle.cp_term.specs.Preorder.{is_terms}
use Rattle.cp_heap.specs.State.{State, instance_at}
use Rattle.cp_heap.specs.Walk.{waiting}
use Rattle.cp_heap.proofs.LookLaws.{one_term}
use Rattle.cp_heap.proofs.WalkLaws.{top_live, top_waiting, all_put}
use Rattle.cp_heap.proofs.heap.Heap.instance_cells.Goals as goal

pub put_first-requires-clause-live : goal.put_first-requires-clause-live
put_first-requires-clause-live c = (top_live c.args.self.now c.out.stack.items c.pop.new.self.items c.in-Some.next c.in-Some.ensures.items c.out.invariant.0).1

pub put_first-requires-clause-waiting : goal.put_first-requires-clause-waiting
put_first-requires-clause-waiting c = (top_live c.args.self.now c.out.stack.items c.pop.new.self.items c.in-Some.next c.in-Some.ensures.items c.out.invariant.0).0

pub out-smaller : goal.out-smaller
out-smaller c =
    let s : State = c.args.self.now in
    let more = c.in_ok-put_first-in-Some.ensures.len in
    let top = ap length (top_waiting s c.out.stack.items c.pop.new.self.items c.in-Some.next c.in-Some.ensures.items) in
    let all = ap length c.in_ok-put_first-in-Some.ensures.cells in
    omega (arith, length-append c.put_first.new.cells (waiting s c.put_first.new.stack.items), length-append c.out.cells (instance_at s c.in-Some.next ++ waiting s c.pop.new.self.items))

pub out-preserved : goal.out-preserved
out-preserved c =
    let s : State = c.args.self.now in (
      c.in_ok-put_first-in-Some.ensures.live,
      c.in_ok-put_first-in-Some.ensures.cells
          ∙ ap (λ cs. c.out.cells ++ cs) (sym (top_waiting s c.out.stack.items c.pop.new.self.items c.in-Some.next c.in-Some.ensures.items))
          ∙ c.out.invariant.1,
    )

pub returns-in-None-clause-cells : goal.returns-in-None-clause-cells
returns-in-None-clause-cells c =
    let empty = nil_from_length c.out.stack.items (let k = c.out.stack.ok.0 in let z = c.in-None.ensures.cases.0 in omega arith) in
    all_put c.args.self.now c.out.cells c.out.stack.items (instance_at c.args.self.now c.args.at) c.out.invariant.1 empty

pub returns-in-None-clause-term : goal.returns-in-None-clause-term
returns-in-None-clause-term c =
    let s : State = c.args.self.now in
    let empty = nil_from_length c.out.stack.items (let k = c.out.stack.ok.0 in let z = c.in-None.ensures.cases.0 in omega arith) in
    ap (is_terms 1) (all_put s c.out.cells c.out.stack.items (instance_at s c.args.at) c.out.invariant.1 empty)
    ∙ one_term c.self.inside c.self.invariant s c.self.view_is c.args.at c.requires
