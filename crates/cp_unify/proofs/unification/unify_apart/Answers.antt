use Rattle.std.proofs.Common.{refl, arith}
use Rattle.cp_heap.specs.State.{State, term, substitution, instance_at}
use Rattle.cp_heap.specs.Walk.{waiting, first_cell, argument_places}
use Rattle.cp_heap.proofs.BuildLaws.{Extends-refl}
use Rattle.cp_heap.proofs.WalkLaws.{end_instance}
use Rattle.cp_unify.proofs.PairLaws.{unify-values}
use Rattle.cp_unify.proofs.StepLaws.{no_variable, differ_to}
use Rattle.cp_unify.proofs.unification.unify_apart.Goals as goal

pub returns-in_default-word-2 : goal.returns-in_default-word-2
returns-in_default-word-2 c =
    let h : State = c.args.heap.now in
    let w = c.word.result in
    let x = c.word-in_default.result in
    let a = c.requires.left in
    let b = c.requires.right in
    let left = end_instance h _ _ _ c.args.left.at w c.word.ensures.term c.requires.left_end c.word.ensures.placed (omega arith) in
    let right = end_instance h _ _ _ c.args.right.at x c.word-in_default.ensures.term c.requires.right_end c.word-in_default.ensures.placed (omega arith) in
    let ne = differ_to (instance_at h c.args.left.at) (instance_at h c.args.right.at) (first_cell h.names w) (first_cell h.names x) _ _ left right c.requires.differ in
    record {
      goes_on = λ xs ys. unify-values (substitution h) (term h c.args.left.at) (term h c.args.right.at) xs ys (first_cell h.names w) (first_cell h.names x) (waiting h (argument_places w)) (waiting h (argument_places x))
          left right ne (no_variable h.names w c.in_default.not-Variable) (no_variable h.names x c.in_default-word-2.not-Variable);
      horizon = c.requires.horizon;
      kept = refl;
      extends = Extends-refl h;
    }
