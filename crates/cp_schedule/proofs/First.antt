-- The first goal of a run is taken, by whoever is the first to ask for one.
use Rattle.std.proofs.Common.{◌≡◌, ℕ, zero, suc, ◌+◌, ◌<◌, ◌≤◌, ◌==◌, List, [], ◌∷◌, ◌++◌, length, refl, sym, ◌∙◌, ap, subst, Bool, true, false, cond, Option, Some, None, arith}
use Rattle.std.specs.Prelude.{nat_le, pos, slice_get, ◌+ℤ◌}
use Rattle.std.specs.List.{list_all}
use Rattle.std.proofs.lemmas.Bool.{and_parts, eq-eqb, leb-true}
use Rattle.cp_list.specs.Lists.{own}
use Rattle.cp_term.specs.declared.cell.Cell.{Cell}
use Rattle.cp_term.specs.declared.cell.Cell.TheVariants.{Var}
use Rattle.cp_term.specs.Unification.{unifiable_apart}
use Rattle.cp_call.specs.declared.call.ObjectKind.{ObjectKind}
use Rattle.cp_call.specs.declared.call.ObjectKind.TheVariants as kind
use Rattle.cp_call.specs.declared.call.Call.{Call}
use Rattle.cp_call.specs.declared.call.Call.TheVariants as call
use Rattle.cp_call.specs.declared.call.Reply.{Reply}
use Rattle.cp_call.specs.declared.call.Reply.TheVariants as reply
use Rattle.cp_call.specs.declared.call.Entry.{Entry}
use Rattle.cp_call.specs.declared.item.Item.{Item}
use Rattle.cp_call.specs.declared.item.Item.TheVariants as item
use Rattle.cp_call.specs.declared.item.Next.{Next}
use Rattle.cp_call.specs.declared.item.Next.TheVariants as next
use Rattle.cp_call.specs.declared.outcome.EngineEnd.{EngineEnd}
use Rattle.cp_call.specs.declared.outcome.OutEntry.{OutEntry}
use Rattle.cp_call.specs.declared.outcome.PredEnd.{PredEnd}
use Rattle.cp_call.specs.declared.outcome.Outcome.{Outcome}
use Rattle.cp_call.specs.declared.outcome.Stand.{Stand}
use Rattle.cp_call.specs.declared.outcome.Stand.TheVariants as stand
use Rattle.cp_call.specs.Object.{can_park, first_seen, placed_from, removes, step}
use Rattle.cp_call.specs.History.{LegalAfter, full, state_after}
use Rattle.cp_call.specs.Life.{Rule, IsWorkersLife}
use Rattle.cp_call.specs.Sound.{Object, Setup, Sound, AgreeFrom, AgreeOn, AreKept, AreTied, AllRest, EndsParkedOn, IsLife, IsTied, Rests, RightRefusals, asked_entries, entry_unless_full, has_callers, history_at, history_in, is_engine, own_entries}
use Rattle.cp_schedule.specs.Ended.{IsOfWorkers}
use Rattle.cp_schedule.specs.First.{IsFirstTaken, any_goal}
use Rattle.cp_schedule.proofs.Lists.{get_there}

tied_at : (s : Setup) (preds : List PredEnd) (port : List OutEntry) (n : ℕ) (engines : List EngineEnd) (k : ℕ) (e : EngineEnd) → AreTied s preds port n engines → slice_get engines k ≡ Some e → IsTied s preds port (n + k) e
tied_at s preds port n [] k e t h = let w : ⊥ = cc in absurd w
tied_at s preds port n (x ∷ engines) zero e t h =
    let same : x ≡ e = cc in
    let here : n ≡ n + 0 = omega arith in
    subst (λ m. IsTied s preds port m e) here (subst (λ y. IsTied s preds port n y) same t.0)
tied_at s preds port n (x ∷ engines) (suc k) e t h =
    let there : (n + 1) + k ≡ n + suc k = omega arith in
    subst (λ m. IsTied s preds port m e) there (tied_at s preds port (n + 1) engines k e t.1 h)

rests_at : (preds : List PredEnd) (engines : List EngineEnd) (k : ℕ) (e : EngineEnd) → AllRest preds engines → slice_get engines k ≡ Some e → Rests preds e e.stand
rests_at preds [] k e r h = let w : ⊥ = cc in absurd w
rests_at preds (x ∷ engines) zero e r h =
    let same : x ≡ e = cc in
    subst (λ (y : EngineEnd). Rests preds y y.stand) same r.0
rests_at preds (x ∷ engines) (suc k) e r h = rests_at preds engines k e r.1 h

-- the first event of a worker is to ask for a goal, and is not refused for want of room
record AsksFirst (n : ℕ) (items : List Item) : Type 0 where
  reply : Reply
  rest : List Entry
  entries : asked_entries n 0 items ≡ record { caller = n; call = call.Take any_goal None; reply = reply } ∷ rest

by_reply : (o : Object) (history : List Entry) (n : ℕ) (r : Reply) (items : List Item) → o.kind ≡ kind.Goals → RightRefusals o 0 history n [] (item.Asked 0 (call.Take any_goal None) r ∷ items)
    → AsksFirst n (item.Asked 0 (call.Take any_goal None) r ∷ items)
by_reply o history n (reply.Full by count) items goals right =
    let none : full kind.Goals o.opening right.0.seen (call.Take any_goal None) ≡ None = refl in
    let some = subst (λ k. full k o.opening right.0.seen (call.Take any_goal None) ≡ Some (record { by = by; count = count })) goals right.0.reached in
    let w : ⊥ = cc (none, some) in absurd w
by_reply o history n (reply.Added place woken) items goals right = record { reply = reply.Added place woken; rest = asked_entries n 0 items; entries = refl }
by_reply o history n (reply.Found place fact) items goals right = record { reply = reply.Found place fact; rest = asked_entries n 0 items; entries = refl }
by_reply o history n reply.NoMore items goals right = record { reply = reply.NoMore; rest = asked_entries n 0 items; entries = refl }
by_reply o history n reply.Parked items goals right = record { reply = reply.Parked; rest = asked_entries n 0 items; entries = refl }
by_reply o history n (reply.Purged count) items goals right = record { reply = reply.Purged count; rest = asked_entries n 0 items; entries = refl }
by_reply o history n (reply.Replaced place woken) items goals right = record { reply = reply.Replaced place woken; rest = asked_entries n 0 items; entries = refl }
by_reply o history n (reply.Closed woken) items goals right = record { reply = reply.Closed woken; rest = asked_entries n 0 items; entries = refl }
by_reply o history n reply.Reopened items goals right = record { reply = reply.Reopened; rest = asked_entries n 0 items; entries = refl }
by_reply o history n reply.Left items goals right = record { reply = reply.Left; rest = asked_entries n 0 items; entries = refl }
by_reply o history n reply.NotParked items goals right = record { reply = reply.NotParked; rest = asked_entries n 0 items; entries = refl }

asks_first : (rule : Rule) (o : Object) (history : List Entry) (n : ℕ) (i : Item) (items : List Item) → o.kind ≡ kind.Goals → IsWorkersLife rule (i ∷ items) → RightRefusals o 0 history n [] (i ∷ items) → AsksFirst n (i ∷ items)
asks_first rule o history n (item.Asked p c r) items goals life right =
    let asked : next.Ask 0 (call.Take any_goal None) ≡ next.Ask p c = life.0 in
    let place : 0 ≡ p = cc in
    let take : call.Take any_goal None ≡ c = cc in
    subst (λ k. AsksFirst n (item.Asked p k r ∷ items)) take
    (subst (λ q. AsksFirst n (item.Asked q (call.Take any_goal None) r ∷ items)) place
    (by_reply o history n r items goals
    (subst (λ k. RightRefusals o 0 history n [] (item.Asked 0 k r ∷ items)) (sym take) (subst (λ q. RightRefusals o 0 history n [] (item.Asked q c r ∷ items)) (sym place) right))))
asks_first rule o history n (item.Wrote bytes r) items goals life right = let w : ⊥ = cc (life.0) in absurd w
asks_first rule o history n (item.Remote c r) items goals life right = let w : ⊥ = cc (life.0) in absurd w
asks_first rule o history n (item.Given c) items goals life right = absurd life.0
asks_first rule o history n (item.Answered r) items goals life right = absurd life.0

-- What is known of a worker that is tied to a run whose first object is a list of goals.
record IsAsker (rule : Rule) (o : Object) (history : List Entry) (n : ℕ) (items : List Item) : Type 0 where
  life : IsWorkersLife rule items
  agrees : AgreeOn o 0 history n items

worker_life : (s : Setup) (e : EngineEnd) (p : ℕ) → e.stand ≡ stand.Parked p → IsLife s e.stand e.items → IsWorkersLife s.rule e.items
worker_life s e p h l = subst (λ x. IsLife s x e.items) h l

is_asker : (s : Setup) (preds : List PredEnd) (port : List OutEntry) (n : ℕ) (e : EngineEnd) (p : ℕ) (o : Object) (objects : List Object) → s.objects ≡ o ∷ objects → e.stand ≡ stand.Parked p → IsTied s preds port n e
    → IsAsker s.rule o (history_at preds 0) n e.items
is_asker s preds port n e p o objects has at t = record {
  life = worker_life s e p at t.life;
  agrees = (subst (λ os. AgreeFrom 0 os (history_at preds) n e.items) has t.agrees.asked).0;
}

-- the first entry of the list of goals, if it is a worker's
own_first : (rule : Rule) (o : Object) (e : Entry) (history : List Entry) (items : List Item) → o.kind ≡ kind.Goals → IsAsker rule o (e ∷ history) e.caller items → e.call ≡ call.Take any_goal None
own_first rule o e history items goals asker = at items asker.life asker.agrees.entries asker.agrees.refusals
  where
    mine : own_entries e.caller (e ∷ history) ≡ e ∷ own_entries e.caller history
    mine = ap (λ b. cond b (e ∷ own_entries e.caller history) (own_entries e.caller history)) (eq-eqb e.caller e.caller refl)

    at : (xs : List Item) → IsWorkersLife rule xs → own_entries e.caller (e ∷ history) ≡ asked_entries e.caller 0 xs → RightRefusals o 0 (e ∷ history) e.caller [] xs → e.call ≡ call.Take any_goal None
    at [] life told right = let w : ⊥ = cc (mine, told) in absurd w
    at (i ∷ xs) life told right =
        let first = asks_first rule o (e ∷ history) e.caller i xs goals life right in
        let same : e ∷ own_entries e.caller history ≡ record { caller = e.caller; call = call.Take any_goal None; reply = first.reply } ∷ first.rest = sym mine ∙ (told ∙ first.entries) in
        let entry : e ≡ record { caller = e.caller; call = call.Take any_goal None; reply = first.reply } = cc in
        ap (λ (x : Entry). x.call) entry

-- a worker at rest has asked
some_history : (rule : Rule) (o : Object) (history : List Entry) (n p : ℕ) (items : List Item) → o.kind ≡ kind.Goals → EndsParkedOn p items → IsAsker rule o history n items → history ≡ [] → ⊥
some_history rule o history n p [] goals ends asker none = let w : ⊥ = nothing ends.0 (item.Asked p ends.1 reply.Parked) ends.2 in w
  where
    nothing : (xs : List Item) (i : Item) → [] ≡ xs ++ i ∷ [] → ⊥
    nothing [] i e = cc
    nothing (x ∷ xs) i e = cc
some_history rule o history n p (i ∷ items) goals ends asker none =
    let first = asks_first rule o history n i items goals asker.life asker.agrees.refusals in
    let told = asker.agrees.entries ∙ first.entries in
    let empty : own_entries n history ≡ [] = ap (own_entries n) none in
    cc (told, empty)

-- a call that takes any goal is replied the first one
first_found : (o : Object) (goal : List Cell) (goals : List (List Cell)) (n : ℕ) → o.opening ≡ goal ∷ goals → unifiable_apart any_goal goal ≡ true
    → (step (state_after o.kind o.opening []) n (call.Take any_goal None)).reply ≡ reply.Found (pos 1) goal
first_found o goal goals n opens unifies =
    ap (λ facts. (step (state_after o.kind facts []) n (call.Take any_goal None)).reply) opens
    ∙ ap (λ b. (removes (state_after o.kind (goal ∷ goals) []) n any_goal None (can_park (state_after o.kind (goal ∷ goals) [])) (cond b (Some (record { place = pos 1; fact = goal })) (first_seen (placed_from (pos 1 +ℤ pos 1) goals) any_goal None))).reply) unifies

kept_first : (o : Object) (objects : List Object) (preds : List PredEnd) → AreKept (o ∷ objects) preds → LegalAfter o.kind o.opening [] (history_at preds 0)
kept_first o objects [] k = absurd k
kept_first o objects (pred ∷ preds) k = k.0.legal

callers_first : (count : ℕ) (preds : List PredEnd) (e : Entry) (history : List Entry) → list_all (has_callers count) preds ≡ true → history_at preds 0 ≡ e ∷ history → is_engine count e.caller ≡ true
callers_first count [] e history h is = let w : ⊥ = cc in absurd w
callers_first count (pred ∷ preds) e history h is =
    let here = (and_parts (has_callers count pred) (list_all (has_callers count) preds) h).0 in
    (and_parts (is_engine count e.caller) (list_all (λ (x : Entry). is_engine count x.caller) history) (subst (λ es. list_all (λ (x : Entry). is_engine count x.caller) es ≡ true) is here)).0

-- the engine of a number
engine_of : (count n : ℕ) (engines : List EngineEnd) → length engines ≡ count → is_engine count n ≡ true → (k : ℕ) × ((n ≡ k + 1) × ((e : EngineEnd) × (slice_get engines k ≡ Some e)))
engine_of count zero engines same h = let w : ⊥ = cc in absurd w
engine_of count (suc k) engines same h =
    let below : suc k ≤ count = leb-true (suc k) count (and_parts (nat_le 1 (suc k)) (nat_le (suc k) count) h).1 in
    (k, (omega arith, get_there engines k (omega (arith, below, same))))

pub first_taken : (s : Setup) (steps count : ℕ) (end : Outcome) (o : Object) (objects : List Object) (goal : List Cell) (goals : List (List Cell))
    → Sound s end → IsOfWorkers steps count end → 1 ≤ count → s.objects ≡ o ∷ objects → o.kind ≡ kind.Goals → o.opening ≡ goal ∷ goals → unifiable_apart any_goal goal ≡ true → IsFirstTaken goal (history_at end.preds 0)
first_taken s steps count end o objects goal goals sound workers some has is_goals opens unifies = by_history (history_at end.preds 0) refl
  where
    first_engine : (e : EngineEnd) × (slice_get end.engines 0 ≡ Some e)
    first_engine = get_there end.engines 0 (omega (arith, some, workers.count_is))

    stands : (k : ℕ) (e : EngineEnd) → slice_get end.engines k ≡ Some e → IsAsker s.rule o (history_at end.preds 0) (1 + k) e.items
    stands k e h =
        let at = workers.workers k e h in
        is_asker s end.preds end.port (1 + k) e at.object o objects has at.stand (tied_at s end.preds end.port 1 end.engines k e sound.going.tied.engines h)

    by_history : (h : List Entry) → history_at end.preds 0 ≡ h → IsFirstTaken goal h
    by_history [] none =
        let at = workers.workers 0 first_engine.0 first_engine.1 in
        let rests = subst (λ x. Rests end.preds first_engine.0 x) at.stand (rests_at end.preds end.engines 0 first_engine.0 sound.rest first_engine.1) in
        absurd (some_history s.rule o (history_at end.preds 0) (1 + 0) at.object first_engine.0.items is_goals rests.0 (stands 0 first_engine.0 first_engine.1) none)
    by_history (e ∷ history) is =
        let engine = engine_of (length end.engines) e.caller end.engines refl (callers_first (length end.engines) end.preds e history sound.going.tied.callers is) in
        let asker = stands engine.0 engine.1.1.0 engine.1.1.1 in
        let number : 1 + engine.0 ≡ e.caller = omega (arith, engine.1.0) in
        let take : e.call ≡ call.Take any_goal None = own_first s.rule o e history engine.1.1.0.items is_goals
        (subst (λ h. IsAsker s.rule o h e.caller engine.1.1.0.items) is (subst (λ n. IsAsker s.rule o (history_at end.preds 0) n engine.1.1.0.items) number asker)) in
        let legal = subst (λ h. LegalAfter o.kind o.opening [] h) is (kept_first o objects end.preds (subst (λ os. AreKept os end.preds) has sound.going.objects)) in (
          take,
          legal.0.replied ∙ (ap (λ c. (step (state_after o.kind o.opening []) e.caller c).reply) take ∙ first_found o goal goals e.caller opens unifies),
        )
