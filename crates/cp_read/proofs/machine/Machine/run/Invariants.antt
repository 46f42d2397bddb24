use Rattle.cp_read.specs.Stands.{Reached, left_to_do}
use Rattle.cp_read.proofs.lemmas.RunLaws.{first_state}
use Rattle.cp_read.proofs.machine.Machine.run.Given as goal

abbrev pub invariant-loop-turn : goal.invariant-loop-turn
invariant-loop-turn l = Reached l.ops (first_state l.initial.self.tokens) l.turn l.self

abbrev pub decreases-loop-turn : goal.decreases-loop-turn
decreases-loop-turn l = left_to_do l.turn l.self
