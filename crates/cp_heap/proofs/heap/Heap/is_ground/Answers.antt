use Rattle.std.proofs.Common.{◌++◌, ◌&&◌, length, sym, ◌∙◌, ap, subst, arith}
use Rattle.std.specs.Prelude.{not}
use Rattle.std.proofs.lemmas.List.{nil_from_length}
use Rattle.cp_heap.specs.State.{State, is_ground}
use Rattle.cp_heap.specs.Walk.{waiting, AreLive, argument_places}
use Rattle.cp_heap.proofs.WalkLaws.{top_live, live-append, argument_live, end_instance, popped, is_free}
use Rattle.cp_heap.proofs.heap.Heap.is_ground.Goals as goal

pub end-end-requires : goal.end-end-requires
end-end-requires c = (top_live c.args.self.now c.walk.stack.items c.pop.new.self.items c.in-Some.next c.in-Some.ensures.items c.walk.invariant.0).1

pub walk-smaller : goal.walk-smaller
walk-smaller c =
    let s : State = c.args.self.now in
    let w = c.word-word.result in
    let live = c.end-end.ensures.live in
    let shown = end_instance s _ _ _ c.end-end.result.at w c.word-word.ensures.term c.end-end.ensures.end c.word-word.ensures.placed (omega arith) in
    let n = ap length (popped s c.walk.stack.items c.pop.new.self.items c.in-Some.next c.end-end.result.at w c.in-Some.ensures.items c.end-end.ensures.same shown) in
    let m = ap (λ items. length (waiting s items)) c.in_ok-push_arguments-in-Some.ensures in
    omega arith

pub walk-preserved : goal.walk-preserved
walk-preserved c =
    let s : State = c.args.self.now in
    let w = c.word-word.result in
    let live = c.end-end.ensures.live in
    let shown = end_instance s _ _ _ c.end-end.result.at w c.word-word.ensures.term c.end-end.ensures.end c.word-word.ensures.placed (omega arith) in
    let rest = (top_live s c.walk.stack.items c.pop.new.self.items c.in-Some.next c.in-Some.ensures.items c.walk.invariant.0).0 in
    let all = popped s c.walk.stack.items c.pop.new.self.items c.in-Some.next c.end-end.result.at w c.in-Some.ensures.items c.end-end.ensures.same shown in
    let value = is_free s.names w ∙ ap not (sym c.is_free_word.ensures ∙ c.if-is_free_word.false) in (
      subst (AreLive s) (sym c.in_ok-push_arguments-in-Some.ensures) (live-append s c.pop.new.self.items (argument_places w) rest (argument_live s _ _ _ w c.word-word.ensures.placed (omega arith))),
      ap (λ items. is_ground (waiting s items)) c.in_ok-push_arguments-in-Some.ensures
          ∙ sym (ap (λ t. t && is_ground (waiting s (c.pop.new.self.items ++ argument_places w))) value)
          ∙ sym (ap is_ground all)
          ∙ c.walk.invariant.1,
    )

pub returns-in-None : goal.returns-in-None
returns-in-None c =
    let s : State = c.args.self.now in
    let empty = nil_from_length c.walk.stack.items (let k = c.walk.stack.ok.0 in let z = c.in-None.ensures.cases.0 in omega arith) in
    sym (ap (λ items. is_ground (waiting s items)) empty) ∙ c.walk.invariant.1

pub returns-then-is_free_word : goal.returns-then-is_free_word
returns-then-is_free_word c =
    let s : State = c.args.self.now in
    let w = c.word-word.result in
    let live = c.end-end.ensures.live in
    let shown = end_instance s _ _ _ c.end-end.result.at w c.word-word.ensures.term c.end-end.ensures.end c.word-word.ensures.placed (omega arith) in
    let all = popped s c.walk.stack.items c.pop.new.self.items c.in-Some.next c.end-end.result.at w c.in-Some.ensures.items c.end-end.ensures.same shown in
    let free = is_free s.names w ∙ ap not (sym c.is_free_word.ensures ∙ c.if-is_free_word.true) in
    sym (ap (λ t. t && is_ground (waiting s (c.pop.new.self.items ++ argument_places w))) free) ∙ sym (ap is_ground all) ∙ c.walk.invariant.1
