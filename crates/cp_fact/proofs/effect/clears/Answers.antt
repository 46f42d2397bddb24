use Rattle.std.proofs.Common.{◌≡◌, ℕ, ◌+◌, ◌-◌, List, length, filter, not, arith, refl, sym, ◌∙◌, ap}
use Rattle.std.proofs.lemmas.List.Filters.{length-filter_both}
use Rattle.cp_term.specs.declared.cell.Cell.{Cell}
use Rattle.cp_term.specs.Unification.{unifiable_apart}
use Rattle.cp_call.specs.declared.outcome.FactRow.{FactRow}
use Rattle.cp_call.specs.declared.call.Reply.TheVariants as reply
use Rattle.cp_fact.proofs.effect.clears.Goals as goal

both : (pattern : List Cell) (facts rows : List FactRow) → rows ≡ filter (λ (f : FactRow). not (unifiable_apart pattern f.fact)) facts
    → length (filter (λ (f : FactRow). unifiable_apart pattern f.fact) facts) + length rows ≡ length facts
both pattern facts rows e = ap (λ r. length (filter (λ (f : FactRow). unifiable_apart pattern f.fact) facts) + length r) e
    ∙ length-filter_both (λ (f : FactRow). unifiable_apart pattern f.fact) (λ (f : FactRow). not (unifiable_apart pattern f.fact)) (λ _. refl) facts

pub overflow_sub-count : goal.overflow_sub-count
overflow_sub-count c = omega (arith, both c.args.pattern.now c.args.contents.now.facts.items c.in_ok-rows.rows.items (rw c.as_slice.ensures.value at c.in_ok-rows.ensures))

pub returns : goal.returns
returns c = record {
  reply = ap reply.Purged (omega (arith, both c.args.pattern.now c.args.contents.now.facts.items c.in_ok-rows.rows.items (rw c.as_slice.ensures.value at c.in_ok-rows.ensures)));
  state = rw (c.change_of.ensures.facts, c.change_of.ensures.parked, c.change_of.ensures.lowest, c.change_of.ensures.highest, c.change_of.ensures.is_open, rw c.as_slice.ensures.value at c.in_ok-rows.ensures) refl;
  within = rw c.change_of.ensures.facts tt;
}
