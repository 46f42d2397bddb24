use Rattle.std.proofs.Common.{◌≡◌, sym, subst, arith}
use Rattle.std.specs.Prelude.{pos, IfOk}
use Rattle.cp_heap.specs.State.{State, term, substitution, instance_at}
use Rattle.cp_goal.specs.Builtins.{Fails, argument_at}
use Rattle.cp_builtin.proofs.ArgumentLaws.{few_arguments, argument-none, argument-past, argument-found}
use Rattle.cp_builtin.specs.Ends.{HasEnded}
use Rattle.cp_builtin.proofs.argument.argument_at.Goals as goal
use Rattle.cp_builtin.proofs.argument.argument_at.Goals.{then-number-eq0-via-then-number-eq0, then-number-eq0-via-else-number-eq0+then-number-gt255}

pub returns-then-number-eq0-clause-ended : goal.returns-then-number-eq0-clause-ended
returns-then-number-eq0-clause-ended c =
    let h : State = c.args.heap.now in
    let t = instance_at h c.args.whole.at in
    let x = term h c.args.x.at in
    let few = few_arguments t c.requires.term in
    elim c.then-number-eq0.branch [
      | then-number-eq0-via-then-number-eq0 w ↦ subst (λ n. argument_at (pos n) t x (substitution h) h.variables ≡ Fails) (sym w.if-number-eq0.true) (argument-none t x (substitution h) h.variables)
      | then-number-eq0-via-else-number-eq0+then-number-gt255 w ↦ let past = w.if-number-gt255.true in argument-past t x (substitution h) h.variables c.args.number (omega arith)
    ]

pub returns-in-None-clause-ended : goal.returns-in-None-clause-ended
returns-in-None-clause-ended c =
    let h : State = c.args.heap.now in
    let t = instance_at h c.args.whole.at in
    let some = c.if-number-eq0.false in
    let past = c.in-None.ensures in
    argument-past t (term h c.args.x.at) (substitution h) h.variables c.args.number (omega arith)

pub returns-in-Some-clause-ended : goal.returns-in-Some-clause-ended
returns-in-Some-clause-ended c =
    let h : State = c.args.heap.now in
    let t = instance_at h c.args.whole.at in
    let some = c.if-number-eq0.false in
    let found = argument-found t (term h c.args.x.at) (substitution h) h.variables c.args.number (instance_at h c.in-Some.found.at) (omega arith) c.in-Some.ensures.1 in
    subst (λ end. IfOk c.unified.result (λ ended. HasEnded c.unified.new.heap ended end)) (sym found) c.unified.ensures.instance
