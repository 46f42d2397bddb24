use Rattle.std.proofs.Common.{sym, ◌∙◌, ap, cond, arith}
use Rattle.std.specs.Prelude.{None}
use Rattle.std.proofs.lemmas.List.{nil_from_length}
use Rattle.cp_term.specs.Unification.{unify}
use Rattle.cp_heap.specs.State.{State, substitution}
use Rattle.cp_unify.specs.Pairs.{lefts, rights}
use Rattle.cp_unify.proofs.StackLaws.{top_is, unify-end, unifying_start, unifying_next, unifying_fails}
use Rattle.cp_unify.proofs.unification.unify_since.Goals as goal

pub turns-init : goal.turns-init
turns-init c = unifying_start c.args.heap.now c.args.a.at c.args.b.at c.horizon_of-horizon.result c.in_ok-pairs.pairs.items c.requires.a c.requires.b c.horizon_of-horizon.ensures c.in_ok-pairs.ensures

pub returns-in-None-clause-unified : goal.returns-in-None-clause-unified
returns-in-None-clause-unified c =
    let empty = nil_from_length c.turns.pairs.items (let k = c.turns.pairs.ok.0 in let z = c.in-None.ensures.cases.0 in omega arith) in
    sym c.turns.invariant.unifies ∙ unify-end c.turns.heap c.turns.pairs.items empty

pub unify_pair-requires-clause-left : goal.unify_pair-requires-clause-left
unify_pair-requires-clause-left c = (top_is c.turns.heap c.turns.pairs.items c.pop.new.self.items c.in-Some.pair c.in-Some.ensures.items c.turns.invariant.pairs_live).left

pub unify_pair-requires-clause-right : goal.unify_pair-requires-clause-right
unify_pair-requires-clause-right c = (top_is c.turns.heap c.turns.pairs.items c.pop.new.self.items c.in-Some.pair c.in-Some.ensures.items c.turns.invariant.pairs_live).right

pub unify_pair-requires-clause-pairs : goal.unify_pair-requires-clause-pairs
unify_pair-requires-clause-pairs c = (top_is c.turns.heap c.turns.pairs.items c.pop.new.self.items c.in-Some.pair c.in-Some.ensures.items c.turns.invariant.pairs_live).rest

pub returns-then-not-branch-clause-unified : goal.returns-then-not-branch-clause-unified
returns-then-not-branch-clause-unified c =
    let h : State = c.unify_pair.new.heap in
    unifying_fails c.args.heap.now c.turns.heap c.args.a.at c.args.b.at c.turns.horizon c.turns.pairs.items c.pop.new.self.items c.in-Some.pair c.turns.invariant c.in-Some.ensures.items
    (c.in_ok-unify_pair-in-Some.ensures.goes_on
    ∙ ap (λ t. cond t (unify (substitution h) (lefts h c.unify_pair.new.pairs.items) (rights h c.unify_pair.new.pairs.items)) None) c.if-not-branch.true)

pub turns-preserved : goal.turns-preserved
turns-preserved c =
    let h : State = c.unify_pair.new.heap in
    unifying_next c.args.heap.now c.turns.heap h c.args.a.at c.args.b.at c.turns.horizon c.unify_pair.new.horizon c.turns.pairs.items c.pop.new.self.items c.unify_pair.new.pairs.items c.in-Some.pair
    c.turns.invariant c.in-Some.ensures.items
    (c.in_ok-unify_pair-in-Some.ensures.goes_on
    ∙ ap (λ t. cond t (unify (substitution h) (lefts h c.unify_pair.new.pairs.items) (rights h c.unify_pair.new.pairs.items)) None) c.if-not-branch.false)
    c.in_ok-unify_pair-in-Some.ensures.pairs c.in_ok-unify_pair-in-Some.ensures.horizon c.in_ok-unify_pair-in-Some.ensures.kept c.in_ok-unify_pair-in-Some.ensures.extends
