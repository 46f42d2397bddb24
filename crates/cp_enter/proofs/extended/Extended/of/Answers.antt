use Rattle.std.proofs.Common.{◌∙◌, ◌+◌, length, subst, arith}
use Rattle.std.specs.Prelude.{IfOk, map}
use Rattle.cp_term.specs.Substitution.{apply}
use Rattle.cp_heap.specs.State.{substitution, instance_at, term, terms_at}
use Rattle.cp_enter.specs.Extending.{IsGoalOr}
use Rattle.cp_enter.proofs.ExtendLaws.{length-terms, longer-Func, longer-Atom, longer-Int, longer-Var}
use Rattle.cp_enter.proofs.extended.Extended.of.Goals as goal

pub returns-in-Compound-clause-goal : goal.returns-in-Compound-clause-goal
returns-in-Compound-clause-goal c =
    let h = c.args.heap.now in
    let s = substitution h in
    subst (λ g. IfOk c.with_arguments.result (λ e. IsGoalOr c.with_arguments.new.heap g e))
    (longer-Func s (term h c.end-end.result.at) (instance_at h c.args.goal.at) _ c.in-Compound.arity _ _ (map (apply s) (terms_at h c.args.extra.now))
    c.in-Compound.ensures.term c.end-end.ensures.same (length-terms s h c.args.extra.now))
    c.with_arguments.ensures.goal

pub returns-in-Atom-clause-goal : goal.returns-in-Atom-clause-goal
returns-in-Atom-clause-goal c =
    let h = c.args.heap.now in
    let s = substitution h in
    subst (λ g. IfOk c.with_arguments-in-Atom.result (λ e. IsGoalOr c.with_arguments-in-Atom.new.heap g e))
    (longer-Atom s (term h c.end-end.result.at) (instance_at h c.args.goal.at) _ (0 + length c.args.extra.now) (map (apply s) (terms_at h c.args.extra.now))
    c.in-Atom.ensures.term c.end-end.ensures.same (length-terms s h c.args.extra.now ∙ omega arith))
    c.with_arguments-in-Atom.ensures.goal

pub returns-in-Integer-clause-goal : goal.returns-in-Integer-clause-goal
returns-in-Integer-clause-goal c =
    let h = c.args.heap.now in
    let s = substitution h in
    subst (λ g. IfOk c.not_callable.result (λ e. IsGoalOr c.not_callable.new.heap g e))
    (longer-Int s (term h c.end-end.result.at) (instance_at h c.args.goal.at) _ (map (apply s) (terms_at h c.args.extra.now))
    c.in-Integer.ensures.term c.end-end.ensures.same)
    c.not_callable.ensures.error

pub returns-in-Variable-clause-goal : goal.returns-in-Variable-clause-goal
returns-in-Variable-clause-goal c =
    let h = c.args.heap.now in
    let s = substitution h in
    subst (λ g. IfOk c.not_callable-in-Variable.result (λ e. IsGoalOr c.not_callable-in-Variable.new.heap g e))
    (longer-Var h (term h c.end-end.result.at) (instance_at h c.args.goal.at) _ (map (apply s) (terms_at h c.args.extra.now))
    c.in-Variable.ensures.term (c.end-end.ensures.end _ c.in-Variable.ensures.term) c.end-end.ensures.same)
    c.not_callable-in-Variable.ensures.error
