-- How many attempts at unification a call may need. Only what has a key that agrees is tried.
use Rattle.std.specs.Prelude.{ℕ, ◌+◌, ◌&&◌, cond, List, [], ◌∷◌, Option, ℤ, pos, ◌+ℤ◌, ◌-ℤ◌}
use Rattle.cp_term.specs.declared.cell.Cell.{Cell}
use Rattle.cp_term.specs.Unification.{unifiable_apart}
use Rattle.cp_call.specs.declared.call.Call.{Call}
use Rattle.cp_call.specs.declared.call.Call.TheVariants as call
use Rattle.cp_call.specs.declared.outcome.FactRow.{FactRow}
use Rattle.cp_call.specs.declared.outcome.ParkedRow.{ParkedRow}
use Rattle.cp_call.specs.Object.{State, is_above}
use Rattle.cp_counted.specs.Keys.{term_key, keys_agree}

-- a look tries the facts above its cursor whose key agrees with the pattern's, up to and with the one that it finds
abbrev pub steps_to_look : List Cell → Option ℤ → List FactRow → ℕ
steps_to_look pattern after [] = 0
steps_to_look pattern after (f ∷ facts) = cond (is_above after f.place && keys_agree (term_key pattern) (term_key f.fact))
    (1 + cond (unifiable_apart pattern f.fact) 0 (steps_to_look pattern after facts))
    (steps_to_look pattern after facts)

-- one that takes out all facts of a pattern tries those whose key agrees
abbrev pub steps_to_purge : List Cell → List FactRow → ℕ
steps_to_purge pattern [] = 0
steps_to_purge pattern (f ∷ facts) = cond (keys_agree (term_key pattern) (term_key f.fact)) 1 0 + steps_to_purge pattern facts

-- a fact is tried for the parked callers with no cursor or one below its place, whose pattern's key agrees with its own
abbrev pub steps_to_wake : FactRow → List ParkedRow → ℕ
steps_to_wake f [] = 0
steps_to_wake f (w ∷ parked) = cond (is_above w.after f.place && keys_agree (term_key f.fact) (term_key w.pattern)) 1 0 + steps_to_wake f parked

-- the steps of a call of an object in this state, at most
abbrev pub steps_at : State → Call → ℕ
steps_at s (call.AddFront fact) = steps_to_wake (record { place = s.lowest -ℤ pos 1; fact = fact }) s.parked
steps_at s (call.AddBack fact) = steps_to_wake (record { place = s.highest +ℤ pos 1; fact = fact }) s.parked
steps_at s (call.Replace fact) = steps_to_wake (record { place = s.highest +ℤ pos 1; fact = fact }) s.parked
steps_at s (call.Next pattern after) = steps_to_look pattern after s.facts
steps_at s (call.Take pattern after) = steps_to_look pattern after s.facts
steps_at s (call.NextNb pattern after) = steps_to_look pattern after s.facts
steps_at s (call.TakeNb pattern after) = steps_to_look pattern after s.facts
steps_at s (call.Purge pattern) = steps_to_purge pattern s.facts
steps_at s call.Close = 0
steps_at s call.Reopen = 0
steps_at s call.Leave = 0
