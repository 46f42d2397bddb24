use Rattle.std.proofs.Common.{◌≡◌, false, sym, ◌∙◌, subst}
use Rattle.cp_crew.specs.Staff.{IsPortOut}
use Rattle.cp_crew.specs.Crew.{NoneStopped}
use Rattle.cp_crew.proofs.rounds.close_round.Goals as goal
use Rattle.cp_crew.proofs.rounds.close_round.Goals.{then-is_none, else-is_none}

pub returns-clause-port : goal.returns-clause-port
returns-clause-port g c = subst (λ ps. IsPortOut c.args.turn ps c.close-port.result) c.from_vec.ensures (record {
  goes_on = c.close-port.ensures.goes_on;
  later = c.close-port.ensures.entries.0;
  entries = c.close-port.ensures.entries.1;
  seen = c.close-port.ensures.entries.2;
  others = c.close-port.ensures.entries.3;
})

pub returns-clause-works : goal.returns-clause-works
returns-clause-works g c awake = elim c.if-is_none.branch [
  | then-is_none w ↦ (let z : ⊥ = cc (w.memory-is, awake) in absurd z)
  | else-is_none w ↦ (let working : w.any_stopped-memory.result ≡ false = cc (w.memory-is, awake) in subst NoneStopped (w.as_slice.ensures.value ∙ sym c.from_vec-3.ensures) (w.any_stopped-memory.ensures working))
]
