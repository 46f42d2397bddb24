-- The places of the facts of an object lie between the lowest and the highest that were used.
use Rattle.std.proofs.Common.{◌≡◌, ℕ, suc, List, [], ◌∷◌, ◌++◌, length, true, false, Bool, not, cond, filter, Option, Some, None, arith}
use Rattle.std.specs.Prelude.{ℤ, pos, ◌+ℤ◌, ◌-ℤ◌, ◌≤ℤ◌, int_lt}
use Rattle.std.specs.Ordering.{int_eq}
use Rattle.std.proofs.lemmas.Int.{ints}
use Rattle.cp_term.specs.declared.cell.Cell.{Cell}
use Rattle.cp_term.specs.Unification.{unifiable_apart}
use Rattle.cp_call.specs.declared.call.ObjectKind.{ObjectKind}
use Rattle.cp_call.specs.declared.call.Call.{Call}
use Rattle.cp_call.specs.declared.call.Call.TheVariants as call
use Rattle.cp_call.specs.declared.call.Entry.{Entry}
use Rattle.cp_call.specs.declared.outcome.FactRow.{FactRow}
use Rattle.cp_call.specs.declared.outcome.ParkedRow.{ParkedRow}
use Rattle.cp_call.specs.Object.{State, step, adds_front, first_seen, finds, finds_nothing, removes, closes, reopens, leaves, can_park, suspends, is_parked, placed_from, opening_state}
use Rattle.cp_call.specs.History.{state_from, state_after}
use Rattle.cp_keyed.specs.Index.{AreAbove, AreBelow}
use Rattle.cp_factindex.specs.Contents.{facts_in}
use Rattle.cp_factindex.specs.Effect.{AreBetween, IsPlaced}

-- the places that a part of the facts has
between_wider : (low high low' high' : ℤ) (facts : List FactRow) → low' ≤ℤ low → high ≤ℤ high' → AreBetween low high facts → AreBetween low' high' facts
between_wider low high low' high' [] a b h = tt
between_wider low high low' high' (f ∷ facts) a b h =
    let x : low ≤ℤ f.place = h.0 in
    let y : f.place ≤ℤ high = h.1 in
    (omega (arith, ints), omega (arith, ints), between_wider low high low' high' facts a b h.2)

between_filter : (low high : ℤ) (g : FactRow → Bool) (facts : List FactRow) → AreBetween low high facts → AreBetween low high (filter g facts)
between_filter low high g [] h = tt
between_filter low high g (f ∷ facts) h = by_test (g f) (between_filter low high g facts h.2)
  where
    by_test : (b : Bool) → AreBetween low high (filter g facts) → AreBetween low high (cond b (f ∷ filter g facts) (filter g facts))
    by_test true r = (h.0, h.1, r)
    by_test false r = r

-- one fact more at the end
between_push : (low high : ℤ) (facts : List FactRow) (new : FactRow) → AreBetween low high facts → low ≤ℤ new.place → new.place ≤ℤ high → AreBetween low high (facts ++ new ∷ [])
between_push low high [] new h a b = (a, b, tt)
between_push low high (f ∷ facts) new h a b = (h.0, h.1, between_push low high facts new h.2 a b)

-- each call keeps the places between
placed_fewer : (s : State) (g : FactRow → Bool) (is_open : Bool) → IsPlaced s → IsPlaced (record s { facts = filter g s.facts; is_open = is_open })
placed_fewer s g is_open h = record { between = between_filter s.lowest s.highest g s.facts h.between; order = h.order }

placed_front : (s : State) (fact : List Cell) → IsPlaced s → IsPlaced (adds_front s fact).state
placed_front s fact h =
    let order : s.lowest ≤ℤ (s.highest +ℤ pos 1) = h.order in
    record {
      between = (omega (arith, ints), omega (arith, ints), between_wider s.lowest s.highest (s.lowest -ℤ pos 1) s.highest s.facts (omega (arith, ints)) (omega (arith, ints)) h.between);
      order = omega (arith, ints);
    }

-- a fact is added behind facts that were there
placed_behind : (s : State) (facts : List FactRow) (fact : List Cell) (parked : List ParkedRow) → IsPlaced s → AreBetween s.lowest s.highest facts
    → IsPlaced (record s { facts = facts ++ record { place = s.highest +ℤ pos 1; fact = fact } ∷ []; highest = s.highest +ℤ pos 1; parked = parked })
placed_behind s facts fact parked h b =
    let order : s.lowest ≤ℤ (s.highest +ℤ pos 1) = h.order in
    record {
      between = between_push s.lowest (s.highest +ℤ pos 1) facts (record { place = s.highest +ℤ pos 1; fact = fact }) (between_wider s.lowest s.highest s.lowest (s.highest +ℤ pos 1) facts (omega (arith, ints)) (omega (arith, ints)) b) order (omega (arith, ints));
      order = omega (arith, ints);
    }

placed_nothing : (s : State) (n : ℕ) (pattern : List Cell) (after : Option ℤ) (waits : Bool) → IsPlaced s → IsPlaced (finds_nothing s n pattern after waits).state
placed_nothing s n pattern after true h = record { between = h.between; order = h.order }
placed_nothing s n pattern after false h = h

placed_finds : (s : State) (n : ℕ) (pattern : List Cell) (after : Option ℤ) (waits : Bool) (o : Option FactRow) → IsPlaced s → IsPlaced (finds s n pattern after waits o).state
placed_finds s n pattern after waits None h = placed_nothing s n pattern after waits h
placed_finds s n pattern after waits (Some f) h = h

placed_removes : (s : State) (n : ℕ) (pattern : List Cell) (after : Option ℤ) (waits : Bool) (o : Option FactRow) → IsPlaced s → IsPlaced (removes s n pattern after waits o).state
placed_removes s n pattern after waits None h = placed_nothing s n pattern after waits h
placed_removes s n pattern after waits (Some f) h = placed_fewer s (λ (g : FactRow). not (int_eq g.place f.place)) s.is_open h

placed_closes : (s : State) (b : Bool) → IsPlaced s → IsPlaced (closes s b).state
placed_closes s true h = record { between = h.between; order = h.order }
placed_closes s false h = h

placed_reopens : (s : State) (b : Bool) → IsPlaced s → IsPlaced (reopens s b).state
placed_reopens s true h = record { between = h.between; order = h.order }
placed_reopens s false h = h

placed_leaves : (s : State) (n : ℕ) (b : Bool) → IsPlaced s → IsPlaced (leaves s n b).state
placed_leaves s n true h = record { between = h.between; order = h.order }
placed_leaves s n false h = h

placed_step : (s : State) (n : ℕ) (c : Call) → IsPlaced s → IsPlaced (step s n c).state
placed_step s n (call.AddFront fact) h = placed_front s fact h
placed_step s n (call.AddBack fact) h = placed_behind s s.facts fact _ h h.between
placed_step s n (call.Next pattern after) h = placed_finds s n pattern after (can_park s) (first_seen s.facts pattern after) h
placed_step s n (call.Take pattern after) h = placed_removes s n pattern after (can_park s) (first_seen s.facts pattern after) h
placed_step s n (call.NextNb pattern after) h = placed_finds s n pattern after false (first_seen s.facts pattern after) h
placed_step s n (call.TakeNb pattern after) h = placed_removes s n pattern after false (first_seen s.facts pattern after) h
placed_step s n (call.Purge pattern) h = placed_fewer s (λ (f : FactRow). not (unifiable_apart pattern f.fact)) s.is_open h
placed_step s n (call.Replace fact) h = placed_behind s [] fact _ h tt
placed_step s n call.Close h = placed_closes s (suspends s.kind) h
placed_step s n call.Reopen h = placed_reopens s (suspends s.kind) h
placed_step s n call.Leave h = placed_leaves s n (is_parked s n) h

placed_from_state : (s : State) (history : List Entry) → IsPlaced s → IsPlaced (state_from s history)
placed_from_state s [] h = h
placed_from_state s (e ∷ es) h = placed_from_state (step s e.caller e.call).state es (placed_step s e.caller e.call h)

-- the opening facts
pub opening_between : (low : ℤ) (facts : List (List Cell)) (high : ℤ) → (low +ℤ pos (length facts)) ≡ (high +ℤ pos 1) → AreBetween low high (placed_from low facts)
opening_between low [] high e = tt
opening_between low (x ∷ facts) high e =
    let e' : (low +ℤ pos (suc (length facts))) ≡ (high +ℤ pos 1) = e in
    let next : ((low +ℤ pos 1) +ℤ pos (length facts)) ≡ (high +ℤ pos 1) = omega (arith, ints, e') in
    let wide : low ≤ℤ (low +ℤ pos 1) = omega (arith, ints) in
    let stays : high ≤ℤ high = omega (arith, ints) in
    let fits : low ≤ℤ high = omega (arith, ints, e') in
    (omega (arith, ints), fits, between_wider (low +ℤ pos 1) high low high (placed_from (low +ℤ pos 1) facts) wide stays (opening_between (low +ℤ pos 1) facts high next))

-- the places lie between after every history
pub placed_after : (k : ObjectKind) (opening : List (List Cell)) (history : List Entry) → IsPlaced (state_after k opening history)
placed_after k opening history = placed_from_state (opening_state k opening) history (record { between = opening_between (pos 1) opening (pos (length opening)) (omega (arith, ints)); order = omega (arith, ints) })

-- a new place lies before or behind all of them
before_least : (low p : ℤ) → low ≤ℤ p → int_lt (low -ℤ pos 1) p ≡ true
before_least low p h = grind (arith, ints)

behind_greatest : (high p : ℤ) → p ≤ℤ high → int_lt p (high +ℤ pos 1) ≡ true
behind_greatest high p h = grind (arith, ints)

pub above_from : (low high : ℤ) (rows : List (ℤ × List Cell)) → AreBetween low high (facts_in rows) → AreAbove (low -ℤ pos 1) rows
above_from low high [] h = tt
above_from low high (e ∷ rows) h = (before_least low e.0 h.0, above_from low high rows h.2)

pub below_from : (low high : ℤ) (rows : List (ℤ × List Cell)) → AreBetween low high (facts_in rows) → AreBelow (high +ℤ pos 1) rows
below_from low high [] h = tt
below_from low high (e ∷ rows) h = (behind_greatest high e.0 h.1, below_from low high rows h.2)
