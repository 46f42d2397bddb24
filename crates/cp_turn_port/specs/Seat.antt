-- One caller's seat at a port behind a turnstile.
use Rattle.std.specs.Prelude.{◌≡◌, ℕ, ◌==◌, Bool, cond, List, [], ◌++◌}
use Rattle.cp_call.specs.declared.outcome.OutEntry.{OutEntry}
use Rattle.cp_call.specs.Sound.{own_writes}
use Rattle.cp_out.specs.Port.{PortView}
use Rattle.cp_turn.specs.Passes.{TurnstileView, PassView}

-- a seat: the port's turnstile, whose base is the port as it went there, and the caller's pass
pub record PortSeatView (S : Type 0) : Type 0 where
  pub turn : TurnstileView (PortView S)
  pub pass : PassView OutEntry (PortView S)

module _ {S : Type 0} where
  -- it writes for its caller's number alone
  abbrev pub writes_for : PortSeatView S → ℕ → Bool
  writes_for s n = s.pass.number == n

  -- what it has written for an engine: what the port had of the engine before, and for its caller what the caller put there since
  abbrev pub wrote_for : PortSeatView S → ℕ → List OutEntry
  wrote_for s n = own_writes n s.turn.base.entries ++ cond (s.pass.number == n) s.pass.mine []

  -- a seat later on: for the same caller at the same port
  pub record IsSeatOf (s t : PortSeatView S) : Type 0 where
    pub turn : t.turn ≡ s.turn
    pub number : t.pass.number ≡ s.pass.number
