-- The state of a shared object in memory, and what a prepared call is to change of it.
use Rattle.std.specs.Prelude.{ℕ, ◌≡◌, ◌<◌, ◌≤◌, List, [], ◌∷◌, ◌++◌, length}
use Rattle.std.specs.List.{remove}
use Rattle.cp_call.specs.declared.outcome.FactRow.{FactRow}
use Rattle.cp_call.specs.declared.outcome.ParkedRow.{ParkedRow}
use Rattle.cp_call.specs.Object.{State}
use Rattle.cp_fact.specs.declared.contents.Contents.{Contents}
use Rattle.cp_fact.specs.declared.contents.Change.{Change}
use Rattle.cp_fact.specs.declared.contents.FactsChange.{FactsChange}
use Rattle.cp_fact.specs.declared.contents.FactsChange.TheVariants as facts
use Rattle.cp_fact.specs.declared.contents.ParkedChange.{ParkedChange}
use Rattle.cp_fact.specs.declared.contents.ParkedChange.TheVariants as parked

abbrev pub state_in : Contents → State
state_in c = record { kind = c.kind; facts = c.facts.items; lowest = c.lowest; highest = c.highest; is_open = c.is_open; parked = c.parked.items }

-- the facts and the parked callers after a change
abbrev pub facts_after : FactsChange → List FactRow → List FactRow
facts_after facts.Keep rows = rows
facts_after (facts.Remove at) rows = remove rows at
facts_after (facts.AddFront row) rows = row ∷ rows
facts_after (facts.AddBack row) rows = rows ++ row ∷ []
facts_after (facts.Set others) rows = others.items

abbrev pub parked_after : ParkedChange → List ParkedRow → List ParkedRow
parked_after parked.Keep rows = rows
parked_after (parked.Add row) rows = rows ++ row ∷ []
parked_after (parked.Set others) rows = others.items

-- the object after a change
abbrev pub changed : Change → State → State
changed c s = record { kind = s.kind; facts = facts_after c.facts s.facts; lowest = c.lowest; highest = c.highest; is_open = c.is_open; parked = parked_after c.parked s.parked }

-- the fact that goes is one of so many
abbrev pub IsWithin : FactsChange → ℕ → Type 0
IsWithin facts.Keep count = Unit {0}
IsWithin (facts.Remove at) count = at < count
IsWithin (facts.AddFront row) count = Unit {0}
IsWithin (facts.AddBack row) count = Unit {0}
IsWithin (facts.Set others) count = Unit {0}
