use Rattle.std.proofs.Common.{sym, ◌∙◌, [], get_or}
use Rattle.cp_heap.specs.State.{substitution, instance_at}
use Rattle.cp_heap.proofs.lemmas.Instances.{instance-again}
use Rattle.cp_run.proofs.EnteringLaws.{unify-instance}
use Rattle.cp_back.proofs.unifying.unify_terms.Goals as goal

pub returns-clause-unified : goal.returns-clause-unified
returns-clause-unified c =
    let h = c.args.run.now.heap in
    sym (unify-instance (substitution h) (instance_at h c.args.a.at) (get_or h.terms c.args.a.at []) (get_or h.terms c.args.b.at []) (instance-again h c.mark-mark.ensures.well_formed (get_or h.terms c.args.a.at [])))
    ∙ c.in_ok-unified.ensures.unified
