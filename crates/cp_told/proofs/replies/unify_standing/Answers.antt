use Rattle.std.proofs.Common.{◌∙◌, [], get_or, sym}
use Rattle.cp_heap.specs.State.{substitution, instance_at}
use Rattle.cp_heap.proofs.lemmas.Instances.{instance-again}
use Rattle.cp_run.proofs.EnteringLaws.{unify-instance}
use Rattle.cp_told.proofs.replies.unify_standing.Goals as goal

pub returns-clause-unified : goal.returns-clause-unified
returns-clause-unified c =
    sym (unify-instance (substitution c.args.run.now.heap) (instance_at c.args.run.now.heap c.args.a.at) (get_or c.args.run.now.heap.terms c.args.a.at []) (get_or c.args.run.now.heap.terms c.args.b.at []) (instance-again c.args.run.now.heap c.mark-mark.ensures.well_formed (get_or c.args.run.now.heap.terms c.args.a.at [])))
    ∙ c.in_ok-unified.ensures.unified
