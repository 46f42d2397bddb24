-- The table of the variables of a clause, as contracts see it.
use Rattle.std.specs.Prelude.{ℕ, List, map}
use Rattle.std.specs.Borrow.{Bor}
use Rattle.cp_read.specs.declared.variables.Variables.TheInside.{Inside}
pub use Rattle.cp_read.specs.SeenNames.{Seen}

abbrev pub named_entry : Bor (List ℕ) × ℕ → List ℕ × ℕ
named_entry e = (e.0.now, e.1)

-- the names with their numbers, and how many variables there are
abbrev pub seen_in : Inside → Seen
seen_in v = record { names = map named_entry v.numbers.entries; count = v.count }
