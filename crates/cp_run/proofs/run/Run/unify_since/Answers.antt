use Rattle.std.proofs.Common.{◌∙◌, [], get_or}
use Rattle.cp_heap.specs.State.{substitution, instance_at}
use Rattle.cp_heap.proofs.lemmas.Instances.{instance-again}
use Rattle.cp_run.proofs.EnteringLaws.{extended-is, unify-instance}
use Rattle.cp_run.proofs.run.Run.unify_since.Goals as goal

pub returns-clause-unified : goal.returns-clause-unified
returns-clause-unified c =
    unify-instance (substitution c.args.self.now.heap) (instance_at c.args.self.now.heap c.args.a.at) (get_or c.args.self.now.heap.terms c.args.a.at []) (get_or c.args.self.now.heap.terms c.args.b.at []) (instance-again c.args.self.now.heap c.mark-now.ensures.well_formed (get_or c.args.self.now.heap.terms c.args.a.at []))
    ∙ c.in_ok-unified.ensures.unified

pub returns-clause-extended : goal.returns-clause-extended
returns-clause-extended c = extended-is c.args.self.now c.unify_since.new.heap c.requires.holds c.in_ok-unified.ensures.extends
