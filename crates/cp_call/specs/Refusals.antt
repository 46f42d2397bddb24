-- When a call is refused, and why.
use Rattle.std.specs.Prelude.{◌≡◌, Bool, true, false, Option, Some, None, Result, Ok, Err, MatchResult}
use Rattle.cp_call.specs.History.{Limit}
use Rattle.cp_call.specs.declared.refused.Refused.{Refused}
use Rattle.cp_call.specs.declared.refused.Refused.TheVariants as refused

-- A call is refused exactly where its caller is still parked, and else exactly where a limit is reached; else it is
-- prepared, unless memory is short.
abbrev pub IsPrepared : (still_parked : Bool) → Option Limit → Result (Unit {0}) Refused → Type 0
IsPrepared true limit r = r ≡ Err refused.StillParked
IsPrepared false (Some l) r = r ≡ Err (refused.Full l.by l.count)
IsPrepared false None r = MatchResult r (λ u. Unit {0}) (λ e. e ≡ refused.NoMemory)

-- the same, where memory plays no part
abbrev pub tested : (still_parked : Bool) → Option Limit → Result (Unit {0}) Refused
tested true limit = Err refused.StillParked
tested false (Some l) = Err (refused.Full l.by l.count)
tested false None = Ok tt
