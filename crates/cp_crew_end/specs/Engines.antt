-- Nobody but a crew's engines has asked the objects or written on the port.
use Rattle.std.specs.Prelude.{◌≡◌, ℕ, false, List, []}
use Rattle.cp_call.specs.declared.outcome.OutEntry.{OutEntry}
use Rattle.cp_call.specs.Sound.{own_entries, own_writes, is_engine}
use Rattle.cp_hall.specs.Hall.{HallObject, history_at}

-- the histories and the port have entries of so many engines alone, which are numbered from 1 on
pub record HasOnlyEngines (count : ℕ) (hall : List HallObject) (port : List OutEntry) : Type 0 where
  pub callers : (n p : ℕ) → is_engine count n ≡ false → own_entries n (history_at hall p) ≡ []
  pub writers : (n : ℕ) → is_engine count n ≡ false → own_writes n port ≡ []
