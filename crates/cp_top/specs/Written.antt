-- What a call wrote on a sink whose count of faults was 0, and how it ended.
use Rattle.std.specs.Prelude.{◌≡◌, ◌⊎◌, ℕ, zero, suc, Bool, true, false, List, [], ◌++◌, take, Option, Some, None, codes}
use Rattle.cp_call.specs.declared.outcome.Outcome.{Outcome}
use Rattle.cp_call.specs.Sound.{Going}
use Rattle.cp_out.specs.Port.{pieces}
use Rattle.cp_code.specs.declared.program.Program.{Program}
use Rattle.cp_schedule.specs.Ended.{IsOfWorkers}
use Rattle.cp_simulate.specs.Runs.{setup, IsRunOf}
use Rattle.cp_log_text.specs.Log.{log_text}
use Rattle.cp_top.specs.Ending.{ending_of}

-- How a call ended: its status, the outcome where there is one, and its sink: how often it has failed, what it held at first,
-- and what it holds.
pub record CallEnd : Type 0 where
  pub status : ℕ
  pub outcome : Option Outcome
  pub failures : ℕ
  pub before : Option (List ℕ)
  pub held : Option (List ℕ)

-- a call that ended so, with this sink in place of the first one
abbrev pub end_on : {S : Type 0} (held : S → Option (List ℕ)) (faults : S → ℕ) (first sink : S) (status : ℕ) → Option Outcome → CallEnd
end_on held faults first sink status outcome = record {
  status = status;
  outcome = outcome;
  failures = faults sink;
  before = held first;
  held = held sink;
}

-- Where the sink tells what it holds, it has grown by these bytes where it never failed, and by a beginning of them else.
abbrev pub HasPut : Option (List ℕ) → (bytes : List ℕ) → (failures : ℕ) → Option (List ℕ) → Type 0
HasPut None bytes failures held = held ≡ None
HasPut (Some before) bytes zero held = held ≡ Some (before ++ bytes)
HasPut (Some before) bytes (suc n) held = (k : ℕ) × (held ≡ Some (before ++ take k bytes))

abbrev pub IsWritten : List ℕ → CallEnd → Type 0
IsWritten bytes e = HasPut e.before bytes e.failures e.held

-- the status where the sink never failed, and 74 else
abbrev pub status_on : (failures status : ℕ) → ℕ
status_on zero status = status
status_on (suc n) status = 74

-- ---- nothing was run

-- The call was refused: it ends with this status and line, whether the line could be written or not.
pub record IsRefusal (status : ℕ) (line : List ℕ) (e : CallEnd) : Type 0 where
  pub status_is : e.status ≡ status
  pub none : e.outcome ≡ None
  pub written : IsWritten line e

-- The call wrote this text, with the status 0 unless the sink failed.
pub record IsAnswer (text : List ℕ) (e : CallEnd) : Type 0 where
  pub status_is : e.status ≡ status_on e.failures 0
  pub none : e.outcome ≡ None
  pub written : IsWritten text e

-- Memory was short before anything was written.
pub record IsShort (e : CallEnd) : Type 0 where
  pub status_is : e.status ≡ 70
  pub none : e.outcome ≡ None
  pub faultless : e.failures ≡ 0
  pub untouched : e.held ≡ e.before

-- ---- a program was run

-- what `--log` adds behind the last line: a newline, the line `%LOG`, and the log of the run
abbrev pub log_bytes : (log : Bool) → Outcome → List ℕ
log_bytes false o = []
log_bytes true o = codes "\n%LOG\n" ++ log_text o

-- the last line, and what is wanted behind it
abbrev pub last_bytes : (log : Bool) → Outcome → List ℕ
last_bytes log o = (ending_of o).line ++ log_bytes log o

-- A run with this outcome was told: the pieces of its port were written, then the last line, and then the log where it is
-- wanted. A sink that failed has a beginning of these, with the line of a sink that did not.
pub record IsTold (log : Bool) (o : Outcome) (e : CallEnd) : Type 0 where
  pub outcome_is : e.outcome ≡ Some o
  pub status_is : e.status ≡ status_on e.failures (ending_of o).status
  pub written : IsWritten (pieces o.port ++ last_bytes log o) e

-- Memory stopped a run that had come to this outcome, or the telling of it: what its port wrote was written, and nothing
-- more.
pub record IsCutAt (o : Outcome) (e : CallEnd) : Type 0 where
  pub status_is : e.status ≡ 70
  pub none : e.outcome ≡ None
  pub written : IsWritten (pieces o.port) e

-- A run of the program to its end, which was told.
pub record IsToldRun (p : Program) (seed steps engines : ℕ) (log : Bool) (e : CallEnd) : Type 0 where
  pub ran : Outcome
  pub is_run : IsRunOf p seed steps engines ran
  pub is_told : IsTold log ran e

-- A run of the program, or the telling of it, that memory stopped.
pub record IsCut (p : Program) (steps engines : ℕ) (e : CallEnd) : Type 0 where
  pub ran : Outcome
  pub going : Going (setup p steps) ran
  pub workers : IsOfWorkers steps engines ran
  pub is_cut : IsCutAt ran e

-- the program was run, unless memory was short, and its log was written where it was wanted
abbrev pub IsRunEnd : Program → (seed steps engines : ℕ) → (log : Bool) → CallEnd → Type 0
IsRunEnd p seed steps engines log e = IsShort e ⊎ IsToldRun p seed steps engines log e ⊎ IsCut p steps engines e
