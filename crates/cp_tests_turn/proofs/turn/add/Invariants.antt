use Rattle.std.proofs.Common.{◌≡◌}
use Rattle.cp_turn.specs.Passes.{IsOutside}
use Rattle.cp_tests_turn.proofs.turn.add.Given as goal

abbrev pub invariant-loop : goal.invariant-loop
invariant-loop g l = IsOutside l.turnstile l.pass × (l.pass.number ≡ l.initial.pass.number)
