use Rattle.std.proofs.Common.{◌≡◌, ◌+◌, ◌-◌, ◌<◌, length, sym, ◌∙◌, arith}
use Rattle.cp_term.specs.Order.{term_cmp}
use Rattle.cp_heap.specs.State.{State}
use Rattle.cp_unify.specs.Words.{first_of, count_of}
use Rattle.cp_unify.specs.Rows.{row}
use Rattle.cp_unify.proofs.StackLaws.{placed_within}
use Rattle.cp_unify.proofs.OrderLaws.{is_ne-true, is_ne-false}
use Rattle.cp_unify.proofs.RowLaws.{row_is, row_len, equal_count, first_decides, arguments_decide, others_decide, last_decides}
use Rattle.cp_unify.proofs.comparison.+compare_rows.Goals as goal

pub returns-then-is_ne : goal.returns-then-is_ne
returns-then-is_ne t c =
    let h : State = c.args.heap.now in
    let w = c.word-left_word.result in
    let x = c.word-right_word.result in
    let live = c.end.ensures.live in
    let live_right = c.end-in-row.ensures.live in
    let l = row_is h _ _ _ c.end.result.at c.row.left c.row.count w c.row-test.true c.end.ensures.same c.word-left_word.ensures.one_term c.word-left_word.ensures.term c.end.ensures.end c.word-left_word.ensures.placed (omega arith) in
    let r = row_is h _ _ _ c.end-in-row.result.at c.row.right c.row.count x c.row-test.true c.end-in-row.ensures.same c.word-right_word.ensures.one_term c.word-right_word.ensures.term c.end-in-row.ensures.end c.word-right_word.ensures.placed (omega arith) in
    first_decides h c.row.left c.row.right c.row.count w x l r c.first_order-first.result c.first_order-first.ensures (is_ne-true c.first_order-first.result c.is_ne.result c.is_ne.ensures c.if-is_ne.true)
    ∙ c.row.invariant.5

pub row-smaller-then-count-eq1 : goal.row-smaller-then-count-eq1
row-smaller-then-count-eq1 t c =
    let h : State = c.args.heap.now in
    let w = c.word-left_word.result in
    let x = c.word-right_word.result in
    let live = c.end.ensures.live in
    let live_right = c.end-in-row.ensures.live in
    let l = row_is h _ _ _ c.end.result.at c.row.left c.row.count w c.row-test.true c.end.ensures.same c.word-left_word.ensures.one_term c.word-left_word.ensures.term c.end.ensures.end c.word-left_word.ensures.placed (omega arith) in
    let r = row_is h _ _ _ c.end-in-row.result.at c.row.right c.row.count x c.row-test.true c.end-in-row.ensures.same c.word-right_word.ensures.one_term c.word-right_word.ensures.term c.end-in-row.ensures.end c.word-right_word.ensures.placed (omega arith) in
    let n = row_len h c.row.left c.row.count w l in
    let same : length (row h c.first_argument-left.result c.argument_count-arguments.result) ≡ length (row h (first_of w) (count_of w)) = (λ i. length (row h (c.first_argument-left.ensures i) (c.argument_count-arguments.ensures i))) in
    let less : length (row h c.first_argument-left.result c.argument_count-arguments.result) < length (row h c.row.left c.row.count) = omega arith in
    less

pub row-preserved-then-count-eq1 : goal.row-preserved-then-count-eq1
row-preserved-then-count-eq1 t c =
    let h : State = c.args.heap.now in
    let w = c.word-left_word.result in
    let x = c.word-right_word.result in
    let live = c.end.ensures.live in
    let live_right = c.end-in-row.ensures.live in
    let l = row_is h _ _ _ c.end.result.at c.row.left c.row.count w c.row-test.true c.end.ensures.same c.word-left_word.ensures.one_term c.word-left_word.ensures.term c.end.ensures.end c.word-left_word.ensures.placed (omega arith) in
    let r = row_is h _ _ _ c.end-in-row.result.at c.row.right c.row.count x c.row-test.true c.end-in-row.ensures.same c.word-right_word.ensures.one_term c.word-right_word.ensures.term c.end-in-row.ensures.end c.word-right_word.ensures.placed (omega arith) in
    let e = sym c.first_order-first.ensures ∙ is_ne-false c.first_order-first.result c.is_ne.result c.is_ne.ensures c.if-is_ne.false in
    let k = c.argument_count-arguments.ensures in
    let more = equal_count h.names w x e in
    let p = l.within in
    let q = r.within in
    let a = placed_within _ _ _ w c.word-left_word.ensures.placed in
    let b = placed_within _ _ _ x c.word-right_word.ensures.placed in
    let f = c.first_argument-left.ensures in
    let g = c.first_argument-right.ensures in
    let n = row_len h c.row.left c.row.count w l in
    let i1 = c.row.invariant.4 in
    let one : c.row.count ≡ 1 = c.if-count-eq1.true in
    let same : length (row h c.first_argument-left.result c.argument_count-arguments.result) ≡ length (row h (first_of w) (count_of w)) = (λ i. length (row h (f i) (k i))) in (
      omega arith,
      omega arith,
      omega arith,
      omega arith,
      omega arith,
      (λ i. term_cmp (row h (f i) (k i)) (row h (g i) (k i))) ∙ last_decides h c.row.left c.row.right c.row.count w x l r e one ∙ c.row.invariant.5,
    )

pub compare_rows-inner-requires : goal.compare_rows-inner-requires
compare_rows-inner-requires t c =
    let h : State = c.args.heap.now in
    let w = c.word-left_word.result in
    let x = c.word-right_word.result in
    let live = c.end.ensures.live in
    let live_right = c.end-in-row.ensures.live in
    let l = row_is h _ _ _ c.end.result.at c.row.left c.row.count w c.row-test.true c.end.ensures.same c.word-left_word.ensures.one_term c.word-left_word.ensures.term c.end.ensures.end c.word-left_word.ensures.placed (omega arith) in
    let r = row_is h _ _ _ c.end-in-row.result.at c.row.right c.row.count x c.row-test.true c.end-in-row.ensures.same c.word-right_word.ensures.one_term c.word-right_word.ensures.term c.end-in-row.ensures.end c.word-right_word.ensures.placed (omega arith) in
    let e = sym c.first_order-first.ensures ∙ is_ne-false c.first_order-first.result c.is_ne.result c.is_ne.ensures c.if-is_ne.false in
    let k = c.argument_count-arguments.ensures in
    let more = equal_count h.names w x e in
    let p = l.within in
    let q = r.within in
    let a = placed_within _ _ _ w c.word-left_word.ensures.placed in
    let b = placed_within _ _ _ x c.word-right_word.ensures.placed in
    let f = c.first_argument.ensures in
    let g = c.first_argument-else-count-eq1.ensures in
    let n = row_len h c.row.left c.row.count w l in
    let i1 = c.row.invariant.4 in
    let m = c.decreases in
    let same : length (row h c.first_argument.result c.argument_count-arguments.result) ≡ length (row h (first_of w) (count_of w)) = (λ i. length (row h (f i) (k i))) in
    let less : length (row h c.first_argument.result c.argument_count-arguments.result) < t = omega arith in
    (less, (omega arith, (omega arith, (omega arith, omega arith))))

pub returns-then-is_ne-2 : goal.returns-then-is_ne-2
returns-then-is_ne-2 t c =
    let h : State = c.args.heap.now in
    let w = c.word-left_word.result in
    let x = c.word-right_word.result in
    let live = c.end.ensures.live in
    let live_right = c.end-in-row.ensures.live in
    let l = row_is h _ _ _ c.end.result.at c.row.left c.row.count w c.row-test.true c.end.ensures.same c.word-left_word.ensures.one_term c.word-left_word.ensures.term c.end.ensures.end c.word-left_word.ensures.placed (omega arith) in
    let r = row_is h _ _ _ c.end-in-row.result.at c.row.right c.row.count x c.row-test.true c.end-in-row.ensures.same c.word-right_word.ensures.one_term c.word-right_word.ensures.term c.end-in-row.ensures.end c.word-right_word.ensures.placed (omega arith) in
    let e = sym c.first_order-first.ensures ∙ is_ne-false c.first_order-first.result c.is_ne.result c.is_ne.ensures c.if-is_ne.false in
    let k = c.argument_count-arguments.ensures in
    let f = c.first_argument.ensures in
    let g = c.first_argument-else-count-eq1.ensures in
    arguments_decide h c.row.left c.row.right c.row.count w x l r c.compare_rows-inner.result e (c.compare_rows-inner.ensures ∙ (λ i. term_cmp (row h (f i) (k i)) (row h (g i) (k i))))
    (is_ne-true c.compare_rows-inner.result c.is_ne-else-count-eq1.result c.is_ne-else-count-eq1.ensures c.if-is_ne-2.true)
    ∙ c.row.invariant.5

pub row-smaller : goal.row-smaller
row-smaller t c =
    let h : State = c.args.heap.now in
    let w = c.word-left_word.result in
    let x = c.word-right_word.result in
    let live = c.end.ensures.live in
    let live_right = c.end-in-row.ensures.live in
    let l = row_is h _ _ _ c.end.result.at c.row.left c.row.count w c.row-test.true c.end.ensures.same c.word-left_word.ensures.one_term c.word-left_word.ensures.term c.end.ensures.end c.word-left_word.ensures.placed (omega arith) in
    let r = row_is h _ _ _ c.end-in-row.result.at c.row.right c.row.count x c.row-test.true c.end-in-row.ensures.same c.word-right_word.ensures.one_term c.word-right_word.ensures.term c.end-in-row.ensures.end c.word-right_word.ensures.placed (omega arith) in
    let n = row_len h c.row.left c.row.count w l in
    let less : length (row h (c.row.left + 1) (c.row.count - 1)) < length (row h c.row.left c.row.count) = omega arith in
    less

pub row-preserved : goal.row-preserved
row-preserved t c =
    let h : State = c.args.heap.now in
    let w = c.word-left_word.result in
    let x = c.word-right_word.result in
    let live = c.end.ensures.live in
    let live_right = c.end-in-row.ensures.live in
    let l = row_is h _ _ _ c.end.result.at c.row.left c.row.count w c.row-test.true c.end.ensures.same c.word-left_word.ensures.one_term c.word-left_word.ensures.term c.end.ensures.end c.word-left_word.ensures.placed (omega arith) in
    let r = row_is h _ _ _ c.end-in-row.result.at c.row.right c.row.count x c.row-test.true c.end-in-row.ensures.same c.word-right_word.ensures.one_term c.word-right_word.ensures.term c.end-in-row.ensures.end c.word-right_word.ensures.placed (omega arith) in
    let e = sym c.first_order-first.ensures ∙ is_ne-false c.first_order-first.result c.is_ne.result c.is_ne.ensures c.if-is_ne.false in
    let k = c.argument_count-arguments.ensures in
    let f = c.first_argument.ensures in
    let g = c.first_argument-else-count-eq1.ensures in
    let n = row_len h c.row.left c.row.count w l in
    let i0 = c.row.invariant.0 in
    let i1 = c.row.invariant.1 in
    let i2 = c.row.invariant.2 in
    let i3 = c.row.invariant.3 in
    let i4 = c.row.invariant.4 in
    let some = c.row-test.true in
    let inner = is_ne-false c.compare_rows-inner.result c.is_ne-else-count-eq1.result c.is_ne-else-count-eq1.ensures c.if-is_ne-2.false in (
      omega arith,
      omega arith,
      omega arith,
      omega arith,
      omega arith,
      others_decide h c.row.left c.row.right c.row.count w x l r e (sym inner ∙ c.compare_rows-inner.ensures ∙ (λ i. term_cmp (row h (f i) (k i)) (row h (g i) (k i)))) ∙ c.row.invariant.5,
    )
