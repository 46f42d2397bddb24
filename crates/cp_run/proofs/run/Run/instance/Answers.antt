use Rattle.std.proofs.Common.{◌∙◌, ap}
use Rattle.cp_term.specs.Substitution.{apply}
use Rattle.cp_heap.specs.State.{substitution, term}
use Rattle.cp_heap.proofs.lemmas.Instances.{instance-again}
use Rattle.cp_run.proofs.GainLaws.{gained-is}
use Rattle.cp_run.proofs.run.Run.instance.Goals as goal

pub returns-clause-instance : goal.returns-clause-instance
returns-clause-instance c =
    ap (λ s. apply s (term c.instance.new.self c.in_ok-instance.instance.at)) c.in_ok-instance.ensures.bindings
    ∙ ap (apply (substitution c.args.self.now.heap)) c.in_ok-instance.ensures.term
    ∙ instance-again c.args.self.now.heap c.mark-mark.ensures.well_formed (term c.args.self.now.heap c.args.at.at)

pub returns-clause-gained : goal.returns-clause-gained
returns-clause-gained c =
    gained-is c.args.self.now c.instance.new.self c.requires.holds
    (record { bindings = c.in_ok-instance.ensures.bindings; extends = c.in_ok-instance.ensures.extends; trail = c.in_ok-instance.ensures.trail; variables = c.in_ok-instance.ensures.variables })
