use Rattle.std.proofs.Common.{arith, refl}
use Rattle.std.proofs.lemmas.Grind.{common_steps}
use Rattle.cp_heap.specs.State.{State, term, substitution, instance_at}
use Rattle.cp_heap.proofs.UnifyLaws.{unify-instances}
use Rattle.cp_heap.proofs.lemmas.Instances.{instance-again}
use Rattle.cp_builtin.proofs.unified.unified.Goals as goal

pub returns-then-unified-clause-instance : goal.returns-then-unified-clause-instance
returns-then-unified-clause-instance c =
    let h : State = c.args.heap.now in
    let x = term h c.args.x.at in
    let y = term h c.args.y.at in
    let e = unify-instances x x (instance_at h c.args.y.at) y (substitution h) refl (instance-again h c.mark-mark.ensures.well_formed y) in
    grind (arith, common_steps, e)

pub returns-else-unified-clause-instance : goal.returns-else-unified-clause-instance
returns-else-unified-clause-instance c =
    let h : State = c.args.heap.now in
    let x = term h c.args.x.at in
    let y = term h c.args.y.at in
    let e = unify-instances x x (instance_at h c.args.y.at) y (substitution h) refl (instance-again h c.mark-mark.ensures.well_formed y) in
    grind (arith, common_steps, e)
