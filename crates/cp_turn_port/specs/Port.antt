-- A port behind a turnstile.
use Rattle.std.specs.Prelude.{List, length, drop}
use Rattle.cp_call.specs.declared.outcome.OutEntry.{OutEntry}
use Rattle.cp_out.specs.Port.{PortView}

-- a port as it is, and as it was when it went behind its turnstile
pub record TurnedView (S : Type 0) : Type 0 where
  pub first : PortView S
  pub port : PortView S

-- the entries that a port has beside its earlier ones
abbrev pub later_entries : (earlier now : List OutEntry) → List OutEntry
later_entries earlier now = drop (length earlier) now

-- the entries since it went behind its turnstile
abbrev pub turned_entries : {S : Type 0} → TurnedView S → List OutEntry
turned_entries t = later_entries t.first.entries t.port.entries
