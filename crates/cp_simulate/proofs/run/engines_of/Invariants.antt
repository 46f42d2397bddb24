use Rattle.std.proofs.Common.{◌≡◌, length}
use Rattle.cp_engine.specs.Walking.{State}
use Rattle.cp_schedule.specs.Record.{AreNew}
use Rattle.cp_simulate.proofs.run.engines_of.Given as goal

abbrev pub invariant-loop-place : goal.invariant-loop-place
invariant-loop-place l = record {
  count : length l.shells.items ≡ l.place;
  new : AreNew (λ (e : State). e.code) l.code l.shells.items;
}
