use Rattle.std.proofs.Common.{length, sym, ◌∙◌, ap, subst}
use Rattle.cp_heap.specs.State.{substitution, terms_at, instance_at}
use Rattle.cp_heap.proofs.lemmas.Instances.{instance-again}
use Rattle.cp_goal.specs.Builtins.{End}
use Rattle.cp_goal.specs.Names.{builtin_named}
use Rattle.cp_builtin.specs.Ends.{IsOutcome, end_of_goal}
use Rattle.cp_builtin.proofs.ListLaws.{instances-terms, length-instances}
use Rattle.cp_run.proofs.EnteringLaws.{extended-is}
use Rattle.cp_goals.proofs.ArgumentLaws.{count-of}
use Rattle.cp_goals.proofs.BuiltinLaws.{same-end}
use Rattle.cp_goals.proofs.on_terms.outcome_of.Goals as goal

pub call_builtin-requires-clause-arity : goal.call_builtin-requires-clause-arity
call_builtin-requires-clause-arity c =
    let h = c.args.run.now.heap in
    sym (length-instances h c.in_ok-places.places)
    ∙ ap length c.in_ok-places.ensures.instances
    ∙ count-of (instance_at h c.args.goal.at) c.args.context.now.name c.args.context.now.arity c.requires.goal.functor

pub returns-clause-outcome : goal.returns-clause-outcome
returns-clause-outcome c =
    let h = c.args.run.now.heap in
    let p = c.args.context.now in
    let b = builtin_named p.name p.arity in
    let P : End → Type 0 = λ e. IsOutcome c.call_builtin.new.heap p c.in_ok-outcome.outcome e in
    subst P
    (same-end b (terms_at h c.in_ok-places.places) (substitution h) h.variables (instance-again h c.mark-mark.ensures.well_formed)
    ∙ ap (λ ts. end_of_goal b ts (substitution h) h.variables) (instances-terms h c.in_ok-places.places ∙ c.in_ok-places.ensures.instances))
    c.in_ok-outcome.ensures.outcome

pub returns-clause-extended : goal.returns-clause-extended
returns-clause-extended c = extended-is c.args.run.now c.call_builtin.new.heap c.requires.holds c.in_ok-outcome.ensures.extends
