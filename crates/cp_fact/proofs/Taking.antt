-- A look that takes the fact that it finds.
use Rattle.std.proofs.Common.{◌≡◌, ℕ, ◌<◌, List, length, refl, sym, ◌∙◌, ap, Bool, Option, Some, None}
use Rattle.std.specs.Prelude.{ℤ, slice_get}
use Rattle.cp_term.specs.declared.cell.Cell.{Cell}
use Rattle.cp_call.specs.declared.call.Reply.{Reply}
use Rattle.cp_call.specs.declared.call.Reply.TheVariants as reply
use Rattle.cp_call.specs.declared.outcome.FactRow.{FactRow}
use Rattle.cp_call.specs.Object.{State, removes, first_seen}
use Rattle.cp_fact.specs.declared.contents.Change.{Change}
use Rattle.cp_fact.specs.declared.contents.FactsChange.TheVariants as facts
use Rattle.cp_fact.specs.declared.contents.ParkedChange.TheVariants as parked
use Rattle.cp_fact.specs.Effect.{IsEffect, IsPlaced}
use Rattle.cp_fact.proofs.Placing.{removed_is}

pub takes_is : (s : State) (n : ℕ) (pattern : List Cell) (after : Option ℤ) (waits : Bool) (at : ℕ) (row : FactRow) (r : Reply) (c : Change)
    → IsPlaced s → at < length s.facts → slice_get s.facts at ≡ first_seen s.facts pattern after → slice_get s.facts at ≡ Some row
    → r ≡ reply.Found row.place row.fact → c.facts ≡ facts.Remove at → c.parked ≡ parked.Keep → c.lowest ≡ s.lowest → c.highest ≡ s.highest → c.is_open ≡ s.is_open
    → IsEffect s (removes s n pattern after waits (first_seen s.facts pattern after)) (record { reply = r; change = c })
takes_is s n pattern after waits at row r c p inside seen is er ef ep el eh eo =
    let e : first_seen s.facts pattern after ≡ Some row = sym seen ∙ is in
    rw e (record {
      reply = er;
      state = rw (ef, ep, el, eh, eo) (ap (λ (rows : List FactRow). let t : State = record s { facts = rows } in t) (removed_is s.facts at row p.apart is));
      within = rw ef inside;
    })
