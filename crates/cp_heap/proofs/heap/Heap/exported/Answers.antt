use Rattle.std.proofs.Common.{[], ◌++◌, length, sym, ◌∙◌, ap, arith, length-append}
use Rattle.std.proofs.lemmas.List.{nil_from_length}
use Rattle.cp_term.specs.Numbering.{canon_from}
use Rattle.cp_heap.specs.State.{State, instance_at}
use Rattle.cp_heap.specs.Walk.{waiting}
use Rattle.cp_heap.proofs.LookLaws.{one_term}
use Rattle.cp_heap.proofs.WalkLaws.{top_live, top_waiting, some_cells, longer, as_long, all_out}
use Rattle.cp_term.specs.Preorder.{is_terms}
use Rattle.cp_term.proofs.lemmas.NumberingLaws.{is_terms-canon_from}
use Rattle.cp_heap.proofs.heap.Heap.exported.Goals as goal

pub returns-then-len-most-clause-too_large : goal.returns-then-len-most-clause-too_large
returns-then-len-most-clause-too_large c e =
    let s : State = c.args.self.now in
    let top = top_live s c.out.stack.items c.pop.new.self.items c.in-Some.next c.in-Some.ensures.items c.out.invariant.0 in
    let some = some_cells (instance_at s c.in-Some.next) (one_term c.self.inside c.self.invariant s c.self.view_is c.in-Some.next top.1) in
    let n = ap length (top_waiting s c.out.stack.items c.pop.new.self.items c.in-Some.next c.in-Some.ensures.items) in
    let full = c.if-len-most.true in
    longer c.args.most c.out.cells (waiting s c.out.stack.items) (instance_at s c.args.at) c.out.seen.keys c.out.invariant.2 (omega arith) (omega (arith, length-append (instance_at s c.in-Some.next) (waiting s c.pop.new.self.items)))

pub put_out-requires-clause-live : goal.put_out-requires-clause-live
put_out-requires-clause-live c = (top_live c.args.self.now c.out.stack.items c.pop.new.self.items c.in-Some.next c.in-Some.ensures.items c.out.invariant.0).1

pub put_out-requires-clause-waiting : goal.put_out-requires-clause-waiting
put_out-requires-clause-waiting c = (top_live c.args.self.now c.out.stack.items c.pop.new.self.items c.in-Some.next c.in-Some.ensures.items c.out.invariant.0).0

pub out-preserved : goal.out-preserved
out-preserved c =
    let s : State = c.args.self.now in
    let n = c.in_ok-put_out-in-Some.ensures.len in
    let room = c.if-len-most.false in (
      c.in_ok-put_out-in-Some.ensures.live,
      omega arith,
      c.in_ok-put_out-in-Some.ensures.cells
          ∙ ap (λ cs. c.out.cells ++ canon_from c.out.seen.keys cs) (sym (top_waiting s c.out.stack.items c.pop.new.self.items c.in-Some.next c.in-Some.ensures.items))
          ∙ c.out.invariant.2,
    )

pub returns-in-None-clause-term : goal.returns-in-None-clause-term
returns-in-None-clause-term c =
    let s : State = c.args.self.now in
    let t = instance_at s c.args.at in
    let e = all_out s c.out.cells c.out.seen.keys c.out.stack.items t c.out.invariant.2 (nil_from_length c.out.stack.items (let k = c.out.stack.ok.0 in let z = c.in-None.ensures.cases.0 in omega arith)) in
    ap (is_terms 1) e ∙ is_terms-canon_from [] 1 t ∙ one_term c.self.inside c.self.invariant s c.self.view_is c.args.at c.requires

pub returns-in-None-clause-fits : goal.returns-in-None-clause-fits
returns-in-None-clause-fits c =
    let s : State = c.args.self.now in
    let t = instance_at s c.args.at in
    let n = as_long c.out.cells t (all_out s c.out.cells c.out.seen.keys c.out.stack.items t c.out.invariant.2 (nil_from_length c.out.stack.items (let k = c.out.stack.ok.0 in let z = c.in-None.ensures.cases.0 in omega arith))) in
    let le = c.out.invariant.1 in
    omega arith
