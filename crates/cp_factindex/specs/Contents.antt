-- The state of a shared object in memory, and what a prepared call is to change of it.
use Rattle.std.specs.Prelude.{◌≡◌, not, List, [], map, filter, ℤ}
use Rattle.cp_term.specs.declared.cell.Cell.{Cell}
use Rattle.cp_call.specs.declared.outcome.FactRow.{FactRow}
use Rattle.cp_call.specs.declared.outcome.ParkedRow.{ParkedRow}
use Rattle.cp_call.specs.Object.{State}
use Rattle.cp_counted.specs.Keys.{term_key}
use Rattle.cp_keyed.specs.Index.{IndexView, IsRight, AreRight, is_among, without}
use Rattle.cp_factindex.specs.Waiting.{waiter_key}
use Rattle.cp_factindex.specs.declared.waiter.Waiter.{Waiter}
use Rattle.cp_factindex.specs.declared.contents.Contents.{Contents}
use Rattle.cp_factindex.specs.declared.contents.Change.{Change}
use Rattle.cp_factindex.specs.declared.contents.FactsChange.{FactsChange}
use Rattle.cp_factindex.specs.declared.contents.FactsChange.TheVariants as facts
use Rattle.cp_factindex.specs.declared.contents.ParkedChange.{ParkedChange}
use Rattle.cp_factindex.specs.declared.contents.ParkedChange.TheVariants as parked

-- the facts of an index, and the parked callers of one
abbrev pub facts_in : List (ℤ × List Cell) → List FactRow
facts_in rows = map (λ (e : ℤ × List Cell). record { place = e.0; fact = e.1 }) rows

abbrev pub parked_in : List (ℤ × Waiter) → List ParkedRow
parked_in rows = map (λ (e : ℤ × Waiter). e.1.row) rows

abbrev pub state_in : Contents → State
state_in c = record { kind = c.kind; facts = facts_in c.facts.rows; lowest = c.lowest; highest = c.highest; is_open = c.is_open; parked = parked_in c.waiting.rows }

-- nothing was placed ahead
pub record IsFresh (c : Contents) : Type 0 where
  pub facts : c.facts.whole ≡ c.facts.rows
  pub waiting : c.waiting.whole ≡ c.waiting.rows

-- the facts and the parked callers after a change
abbrev pub facts_after : FactsChange → IndexView (List Cell) → List FactRow
facts_after facts.Keep v = facts_in v.rows
facts_after facts.Show v = facts_in v.whole
facts_after (facts.Remove s) v = facts_in (without s.1 v.whole)
facts_after (facts.RemoveAll spots) v = facts_in (filter (λ (e : ℤ × List Cell). not (is_among spots.items e.0)) v.whole)
facts_after (facts.Set others) v = facts_in others.rows

abbrev pub parked_after : ParkedChange → IndexView Waiter → List ParkedRow
parked_after parked.Keep v = parked_in v.rows
parked_after parked.Show v = parked_in v.whole
parked_after (parked.Remove s) v = parked_in (without s.1 v.whole)
parked_after (parked.RemoveAll spots) v = parked_in (filter (λ (e : ℤ × Waiter). not (is_among spots.items e.0)) v.whole)
parked_after parked.Clear v = []

-- the object after a change
abbrev pub changed : Change → Contents → State
changed c s = record { kind = s.kind; facts = facts_after c.facts s.facts; lowest = c.lowest; highest = c.highest; is_open = c.is_open; parked = parked_after c.parked s.waiting }

-- the keys of what goes are those of the rows
abbrev pub AreRightFacts : FactsChange → IndexView (List Cell) → Type 0
AreRightFacts facts.Keep v = Unit {0}
AreRightFacts facts.Show v = Unit {0}
AreRightFacts (facts.Remove s) v = IsRight term_key v.whole s
AreRightFacts (facts.RemoveAll spots) v = AreRight term_key v.whole spots.items
AreRightFacts (facts.Set others) v = Unit {0}

abbrev pub AreRightParked : ParkedChange → IndexView Waiter → Type 0
AreRightParked parked.Keep v = Unit {0}
AreRightParked parked.Show v = Unit {0}
AreRightParked (parked.Remove s) v = IsRight waiter_key v.whole s
AreRightParked (parked.RemoveAll spots) v = AreRight waiter_key v.whole spots.items
AreRightParked parked.Clear v = Unit {0}

pub record IsRightChange (c : Change) (s : Contents) : Type 0 where
  pub facts : AreRightFacts c.facts s.facts
  pub parked : AreRightParked c.parked s.waiting
