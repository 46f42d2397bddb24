-- Which calls of a device in memory fail.
use Rattle.std.specs.Prelude.{ℕ, ◌+◌, ◌-◌, ◌^◌, ◌==◌, min, cond, Option, Some, None, List, [], ◌∷◌}
use Rattle.cp_io.specs.declared.memory.Fail.{Fail}
use Rattle.cp_io.specs.declared.memory.calls.Calls.{Calls}

-- how many bytes of its piece the call of this number takes before it fails, where it is to fail
abbrev pub failure_in : List Fail → ℕ → Option ℕ
failure_in [] call = None
failure_in (fail ∷ fails) call = cond (fail.call == call) (Some fail.taken) (failure_in fails call)

-- the number of the next call, which stands still at the last value of its type
abbrev pub next_call : Calls → ℕ
next_call calls = min (calls.made + 1) (2 ^ 32 - 1)

-- the same of the next call
abbrev pub failure_of : Calls → Option ℕ
failure_of calls = failure_in calls.fails (next_call calls)

-- after one call more
abbrev pub counted : Calls → Calls
counted calls = record { fails = calls.fails; made = next_call calls }
