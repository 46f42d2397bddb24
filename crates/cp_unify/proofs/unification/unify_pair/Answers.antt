use Rattle.std.proofs.Common.{◌++◌, sym, ◌∙◌, arith}
use Rattle.cp_heap.specs.State.{State, instance_at}
use Rattle.cp_heap.specs.Walk.{first_cell}
use Rattle.cp_heap.proofs.WalkLaws.{end_instance}
use Rattle.cp_unify.specs.Pairs.{pairs_from}
use Rattle.cp_unify.proofs.StepLaws.{differ_from}
use Rattle.cp_unify.proofs.StackLaws.{placed_within, new_pairs, pair_goes_on, place_goes_on, apart_goes_on}
use Rattle.cp_unify.proofs.unification.unify_pair.Goals as goal

pub returns-then-same_first-clause-goes_on : goal.returns-then-same_first-clause-goes_on
returns-then-same_first-clause-goes_on c =
    let h : State = c.args.heap.now in
    let w = c.word-left_word.result in
    let x = c.word-right_word.result in
    let one = sym c.same_first.ensures ∙ c.if-same_first.true in
    let a = c.end-left.ensures.live in
    let b = c.end-right.ensures.live in
    let p = placed_within _ _ _ w c.word-left_word.ensures.placed in
    let q = placed_within _ _ _ x c.word-right_word.ensures.placed in
    let pushed = c.in_ok-push_pairs.ensures ∙ (λ i. c.args.pairs.now.items ++ pairs_from (c.first_argument.ensures i) (c.first_argument-then-same_first.ensures i) (c.argument_count.ensures i)) in
    pair_goes_on h w x c.args.pairs.now.items c.push_pairs.new.pairs.items one (omega arith) (omega arith) pushed
    c.args.pair.left.at c.args.pair.right.at c.end-left.result.at c.end-right.result.at c.end-left.ensures.same c.end-right.ensures.same c.word-left_word.ensures.term c.word-right_word.ensures.term

pub returns-then-same_first-clause-pairs : goal.returns-then-same_first-clause-pairs
returns-then-same_first-clause-pairs c =
    let h : State = c.args.heap.now in
    let w = c.word-left_word.result in
    let x = c.word-right_word.result in
    let one = sym c.same_first.ensures ∙ c.if-same_first.true in
    let a = c.end-left.ensures.live in
    let b = c.end-right.ensures.live in
    let p = placed_within _ _ _ w c.word-left_word.ensures.placed in
    let q = placed_within _ _ _ x c.word-right_word.ensures.placed in
    let pushed = c.in_ok-push_pairs.ensures ∙ (λ i. c.args.pairs.now.items ++ pairs_from (c.first_argument.ensures i) (c.first_argument-then-same_first.ensures i) (c.argument_count.ensures i)) in
    new_pairs h w x c.args.pairs.now.items c.push_pairs.new.pairs.items one (omega arith) (omega arith) pushed c.requires.pairs

pub unify_apart-requires-clause-differ : goal.unify_apart-requires-clause-differ
unify_apart-requires-clause-differ c =
    let h : State = c.args.heap.now in
    let w = c.word-left_word.result in
    let x = c.word-right_word.result in
    let a = c.end-left.ensures.live in
    let b = c.end-right.ensures.live in
    differ_from (instance_at h c.end-left.result.at) (instance_at h c.end-right.result.at) (first_cell h.names w) (first_cell h.names x) _ _
    (end_instance h _ _ _ c.end-left.result.at w c.word-left_word.ensures.term c.end-left.ensures.end c.word-left_word.ensures.placed (omega arith))
    (end_instance h _ _ _ c.end-right.result.at x c.word-right_word.ensures.term c.end-right.ensures.end c.word-right_word.ensures.placed (omega arith))
    (sym c.same_first.ensures ∙ c.if-same_first.false)

pub returns-clause-goes_on : goal.returns-clause-goes_on
returns-clause-goes_on c =
    apart_goes_on c.args.heap.now c.unify_apart.new.heap c.args.pair.left.at c.args.pair.right.at c.end-left.result.at c.end-right.result.at c.in_ok-goes_on.goes_on c.args.pairs.now.items
    c.in_ok-goes_on.ensures.kept c.end-left.ensures.same c.end-right.ensures.same c.in_ok-goes_on.ensures.goes_on

pub returns-then-left-right-clause-goes_on : goal.returns-then-left-right-clause-goes_on
returns-then-left-right-clause-goes_on c =
    place_goes_on c.args.heap.now c.args.pair.left.at c.args.pair.right.at c.end-left.result.at c.end-right.result.at c.args.pairs.now.items c.end-left.ensures.same c.end-right.ensures.same c.if-left-right.true
