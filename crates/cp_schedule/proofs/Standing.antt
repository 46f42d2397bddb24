-- Who is parked: a worker is parked on an object only where its last event left it parked there, so the objects and the
-- events of the workers tell the same.
use Rattle.std.proofs.Common.{◌≡◌, inl, inr, ℕ, zero, suc, ◌+◌, List, [], ◌∷◌, ◌++◌, length, refl, sym, ◌∙◌, ap, subst, Bool, true, false, cond, Option, Some, None, arith}
use Rattle.std.specs.Prelude.{map, slice_get, not, ◌||◌}
use Rattle.cp_call.specs.declared.call.Call.{Call}
use Rattle.cp_call.specs.declared.call.Call.TheVariants as call
use Rattle.cp_call.specs.declared.call.Entry.{Entry}
use Rattle.cp_call.specs.declared.item.Item.{Item}
use Rattle.cp_call.specs.declared.outcome.OutEntry.{OutEntry}
use Rattle.cp_call.specs.declared.outcome.Outcome.{Outcome}
use Rattle.cp_call.specs.Asker.{EndsParked}
use Rattle.cp_call.specs.History.{Legal, state_after}
use Rattle.cp_call.specs.Life.{Rule}
use Rattle.cp_call.specs.Object.{is_parked}
use Rattle.cp_call.specs.Running.{IsRunning}
use Rattle.cp_call.specs.Sound.{Object, AgreeOn, AgreeFrom, own_entries, own_writes}
use Rattle.cp_call.proofs.Parking.{parked_ends}
use Rattle.cp_call.proofs.Resting.{waiting_rests}
use Rattle.cp_shell.specs.Asked.{StillWaits}
use Rattle.cp_shell.specs.Parked.{parked_object}
use Rattle.cp_shell.specs.Shell.{ShellView}
use Rattle.cp_shell.proofs.Resting.{parked_rests}
use Rattle.cp_hall.specs.Hall.{HallObject, objects_of, history_of, history_at, state_now, AreLegal}
use Rattle.cp_schedule.specs.Awake.{is_parked_in, is_parked_at, is_parked_now, is_parked_place, awake_below}
use Rattle.cp_schedule.specs.Record.{AreDriven, engine_now, pred_now, record_now}
use Rattle.cp_schedule.specs.Turns.{is_parked_somewhere, is_awake_engine, is_awake, awake_places_below, awake_places}
use Rattle.cp_schedule.proofs.Choosing.{split_get}
use Rattle.cp_schedule.proofs.Lists.{get_map}

or_first : (a b : Bool) → a ≡ true → (a || b) ≡ true
or_first true b h = refl
or_first false b h = let w : ⊥ = cc in absurd w

or_second : (a b : Bool) → b ≡ true → (a || b) ≡ true
or_second true b h = refl
or_second false b h = h

both_ways : (a b : Bool) → (a ≡ true → b ≡ true) → (b ≡ true → a ≡ true) → a ≡ b
both_ways true b there back = sym (there refl)
both_ways false true there back = back refl
both_ways false false there back = refl

-- what an engine tells of one object
agree_at : (q : ℕ) (os : List Object) (h : ℕ → List Entry) (n : ℕ) (items : List Item) (k : ℕ) (o : Object) (p : ℕ) → AgreeFrom q os h n items → slice_get os k ≡ Some o → p ≡ q + k → AgreeOn o p (h p) n items
agree_at q [] h n items k o p a e is = absurd (let z : ⊥ = cc in z)
agree_at q (x ∷ os) h n items zero o p a e is =
    let here : p ≡ q = omega (arith, is) in
    let same : x ≡ o = cc in
    subst (λ y. AgreeOn y p (h p) n items) same (subst (λ i. AgreeOn x i (h i) n items) (sym here) a.0)
agree_at q (x ∷ os) h n items (suc k) o p a e is = agree_at (q + 1) os h n items k o p a.1 e (omega (arith, is))

legal_at : (hall : List HallObject) (p : ℕ) (o : HallObject) → AreLegal hall → slice_get hall p ≡ Some o → Legal o.object.kind o.object.opening o.history
legal_at [] p o legal there = let w : ⊥ = cc in absurd w
legal_at (x ∷ hall) zero o legal there = let z : x ≡ o = cc in subst (λ (y : HallObject). Legal y.object.kind y.object.opening y.history) z legal.0
legal_at (x ∷ hall) (suc p) o legal there = legal_at hall p o legal.1 there

close_is_no_leave : call.Close ≡ call.Leave → ⊥
close_is_no_leave e = cc

-- where a worker is parked, its last event left it parked
pub parked_tells : (rule : Rule) (hall : List HallObject) (writes : List OutEntry) (n p : ℕ) (items : List Item) (o : HallObject)
    → IsRunning rule (objects_of hall) (history_at hall) writes n items → AreLegal hall → slice_get hall p ≡ Some o → is_parked (state_now o) n ≡ true → parked_object items ≡ Some p
parked_tells rule hall writes n p items o running legal there parked =
    let object : slice_get (objects_of hall) p ≡ Some o.object = get_map (λ (x : HallObject). x.object) hall p o there in
    let history : o.history ≡ history_at hall p = sym (ap history_of there) in
    parked_rests p items (waiting_rests rule o.object p (history_at hall p) n items call.Close running.life
    (agree_at 0 (objects_of hall) (history_at hall) n items p o.object p running.agrees.asked object (omega arith))
    (record {
      stays = close_is_no_leave;
      parked = subst (λ h. is_parked (state_after o.object.kind o.object.opening h) n ≡ true) history parked;
      last = subst (λ h. EndsParked (own_entries n h)) history (parked_ends o.object.kind o.object.opening o.history n (legal_at hall p o legal there) parked);
    }))

-- who is parked somewhere is parked on some object
somewhere_at : (hall : List HallObject) (n : ℕ) → is_parked_somewhere (map pred_now hall) n ≡ true → (p : ℕ) × (o : HallObject) × ((slice_get hall p ≡ Some o) × (is_parked (state_now o) n ≡ true))
somewhere_at [] n h = let w : ⊥ = cc in absurd w
somewhere_at (x ∷ hall) n h = elim (is_parked (state_now x) n) as (λ b.
    is_parked (state_now x) n ≡ b → (b || is_parked_somewhere (map pred_now hall) n) ≡ true
    → (p : ℕ) × (o : HallObject) × ((slice_get (x ∷ hall) p ≡ Some o) × (is_parked (state_now o) n ≡ true))) [
      | true ↦ λ e g. (0, x, (refl, e))
      | false ↦ λ e g. (let r = somewhere_at hall n g in (suc r.0, r.1, r.2))
    ] refl h

at_somewhere : (hall : List HallObject) (p n : ℕ) (o : HallObject) → slice_get hall p ≡ Some o → is_parked (state_now o) n ≡ true → is_parked_somewhere (map pred_now hall) n ≡ true
at_somewhere [] p n o there h = let w : ⊥ = cc in absurd w
at_somewhere (x ∷ hall) zero n o there h =
    let z : o ≡ x = cc in or_first (is_parked (state_now x) n) (is_parked_somewhere (map pred_now hall) n) (subst (λ y. is_parked (state_now y) n ≡ true) z h)
at_somewhere (x ∷ hall) (suc p) n o there h = or_second (is_parked (state_now x) n) (is_parked_somewhere (map pred_now hall) n) (at_somewhere hall p n o there h)

-- who still waits is parked somewhere
pub waits_somewhere : (hall : List HallObject) (p n : ℕ) (c : Call) → StillWaits (slice_get (objects_of hall) p) (history_at hall p) n c → is_parked_somewhere (map pred_now hall) n ≡ true
waits_somewhere [] p n c h = absurd h
waits_somewhere (x ∷ hall) zero n c h = or_first (is_parked (state_now x) n) (is_parked_somewhere (map pred_now hall) n) h.parked
waits_somewhere (x ∷ hall) (suc p) n c h = or_second (is_parked (state_now x) n) (is_parked_somewhere (map pred_now hall) n) (waits_somewhere hall p n c h)

now_somewhere : (hall : List HallObject) (n : ℕ) (w : Option ℕ) → is_parked_at hall n w ≡ true → is_parked_somewhere (map pred_now hall) n ≡ true
now_somewhere hall n None h = let w : ⊥ = cc in absurd w
now_somewhere hall n (Some p) h = by (slice_get hall p) refl h
  where
    by : (x : Option HallObject) → slice_get hall p ≡ x → is_parked_in x n ≡ true → is_parked_somewhere (map pred_now hall) n ≡ true
    by None e g = let w : ⊥ = cc in absurd w
    by (Some o) e g = at_somewhere hall p n o e g

-- so it is all the same whom one asks, the objects or the worker's events
pub parked_same : (rule : Rule) (hall : List HallObject) (writes : List OutEntry) (n : ℕ) (items : List Item)
    → IsRunning rule (objects_of hall) (history_at hall) writes n items → AreLegal hall → is_parked_somewhere (map pred_now hall) n ≡ is_parked_now hall n items
parked_same rule hall writes n items running legal = both_ways (is_parked_somewhere (map pred_now hall) n) (is_parked_now hall n items) there (λ h. now_somewhere hall n (parked_object items) h)
  where
    there : is_parked_somewhere (map pred_now hall) n ≡ true → is_parked_now hall n items ≡ true
    there h =
        let on = somewhere_at hall n h in
        subst (λ w. is_parked_at hall n w ≡ true) (sym (parked_tells rule hall writes n on.0 items on.1 running legal on.2.0 on.2.1))
        (subst (λ x. is_parked_in x n ≡ true) (sym on.2.0) on.2.1)

none_map : {A B : Type 0} (f : A → B) (xs : List A) (k : ℕ) → slice_get xs k ≡ None → slice_get (map f xs) k ≡ None
none_map f [] k h = refl
none_map f (x ∷ xs) zero h = let w : ⊥ = cc in absurd w
none_map f (x ∷ xs) (suc k) h = none_map f xs k h

pub awake_same : {M Code : Type 0} (code : M → Code) (asks : Code → Rule) (k : Code) (shells : List (ShellView M)) (hall : List HallObject) (port : List OutEntry)
    → AreDriven code asks k (objects_of hall) shells hall port → AreLegal hall → (steps i : ℕ) → is_awake (record_now steps shells hall port) i ≡ not (is_parked_place hall (slice_get shells i))
awake_same {M} code asks k shells hall port d legal steps i = by (slice_get shells i) refl
  where
    by : (w : Option (ShellView M)) → slice_get shells i ≡ w → is_awake_engine (map pred_now hall) (slice_get (map engine_now shells) i) ≡ not (is_parked_place hall w)
    by None e = ap (is_awake_engine (map pred_now hall)) (none_map engine_now shells i e)
    by (Some s) e =
        let running = subst (λ n. IsRunning (asks k) (objects_of hall) (history_at hall) (own_writes n port) n s.items) (sym (d.numbers i s e)) (d.running i s e) in
        ap (is_awake_engine (map pred_now hall)) (get_map engine_now shells i s e) ∙ ap (λ b. not b) (parked_same (asks k) hall (own_writes s.number port) s.number s.items running legal)

flip : {X : Type 0} (b : Bool) (xs : List X) → cond (not b) xs [] ≡ cond b [] xs
flip true xs = refl
flip false xs = refl

length_map : {A B : Type 0} (f : A → B) (xs : List A) → length (map f xs) ≡ length xs
length_map f [] = refl
length_map f (x ∷ xs) = ap suc (length_map f xs)

pub awake_places_same : {M Code : Type 0} (code : M → Code) (asks : Code → Rule) (k : Code) (shells : List (ShellView M)) (hall : List HallObject) (port : List OutEntry)
    → AreDriven code asks k (objects_of hall) shells hall port → AreLegal hall → (steps : ℕ) → awake_places (record_now steps shells hall port) ≡ awake_below hall shells (length shells)
awake_places_same {M} code asks k shells hall port d legal steps = ap (awake_places_below moment) (length_map engine_now shells) ∙ below (length shells)
  where
    moment : Outcome
    moment = record_now steps shells hall port

    below : (n : ℕ) → awake_places_below moment n ≡ awake_below hall shells n
    below zero = refl
    below (suc n) =
        ap (λ xs. xs ++ cond (is_awake moment n) (n ∷ []) []) (below n)
        ∙ (ap (λ b. awake_below hall shells n ++ cond b (n ∷ []) []) (awake_same code asks k shells hall port d legal steps n)
        ∙ ap (λ xs. awake_below hall shells n ++ xs) (flip (is_parked_place hall (slice_get shells n)) (n ∷ [])))

one_awake : (b : Bool) (n m place : ℕ) → slice_get (cond b (n ∷ []) []) m ≡ Some place → (b ≡ true) × (place ≡ n)
one_awake true n zero place h = (refl, (let z : place ≡ n = cc in z))
one_awake true n (suc m) place h = let w : ⊥ = cc in absurd w
one_awake false n m place h = let w : ⊥ = cc in absurd w

-- a place among those of the workers that are not parked is that of one
pub listed_awake : (o : Outcome) (n k place : ℕ) → slice_get (awake_places_below o n) k ≡ Some place → is_awake o place ≡ true
listed_awake o zero k place h = let w : ⊥ = cc in absurd w
listed_awake o (suc n) k place h = elim (split_get (awake_places_below o n) (cond (is_awake o n) (n ∷ []) []) k place h) [
  | inl a ↦ listed_awake o n k place a
  | inr b ↦ (let one = one_awake (is_awake o n) n b.0 place b.1 in subst (λ i. is_awake o i ≡ true) (sym one.1) one.0)
]
