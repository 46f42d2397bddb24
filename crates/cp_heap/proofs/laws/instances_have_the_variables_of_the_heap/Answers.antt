use Rattle.cp_heap.specs.State.{term}
use Rattle.cp_heap.proofs.lemmas.Instances.{instance-again, instance-variables}
use Rattle.cp_heap.proofs.laws.instances_have_the_variables_of_the_heap.Goals as goal

pub returns : goal.returns
returns c = record { variables = instance-variables; unbound = λ h well at. instance-again h well (term h at) }
