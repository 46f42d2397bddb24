-- Shells that drive running workers, and that stand parked, are a sound run.
use Rattle.std.proofs.Common.{◌≡◌, ℕ, zero, suc, ◌+◌, ◌==◌, List, [], ◌∷◌, length, refl, sym, ◌∙◌, ap, subst, Bool, true, false, cond, Option, Some, None, IsTrue, arith, append-nil, eq-eqb}
use Rattle.std.specs.Prelude.{map, slice_get, ◌&&◌}
use Rattle.std.specs.List.{list_all}
use Rattle.cp_list.specs.Lists.{IsPrefix, own}
use Rattle.cp_call.specs.declared.call.Entry.{Entry}
use Rattle.cp_call.specs.declared.item.Item.{Item}
use Rattle.cp_call.specs.declared.outcome.OutEntry.{OutEntry}
use Rattle.cp_call.specs.Life.{Rule}
use Rattle.cp_call.specs.Running.{IsRunning}
use Rattle.cp_call.specs.Sound.{Object, Going, Sound, AreKept, AreTied, AllRest, Agrees, EndsParkedOn, own_entries, own_writes, is_engine, has_callers, is_parked_on, stays_failed}
use Rattle.cp_call.specs.Sound as sound
use Rattle.cp_call.proofs.Calmness.{Calm-state_after}
use Rattle.cp_call.proofs.Event.{Agrees-others}
use Rattle.cp_shell.specs.Parked.{parked_object}
use Rattle.cp_shell.specs.Shell.{ShellView}
use Rattle.cp_hall.specs.Hall.{HallObject, AreLegal, objects_of, history_at}
use Rattle.cp_schedule.specs.Awake.{AllParked, is_parked_in, is_parked_at}
use Rattle.cp_schedule.specs.Ended.{engine_ended, object_number, record_ended}
use Rattle.cp_schedule.specs.Record.{AreDriven, pred_now, workers_setup}
use Rattle.cp_schedule.proofs.Parking.{ends_parked}
use Rattle.cp_crew_end.specs.Engines.{HasOnlyEngines}

length_map : {A B : Type 0} (f : A → B) (xs : List A) → length (map f xs) ≡ length xs
length_map f [] = refl
length_map f (x ∷ xs) = ap suc (length_map f xs)

-- entries that are nobody's but the engines' have engines as their callers
rest_none : {E : Type 0} (e : E) (xs : List E) (b : Bool) → cond b (e ∷ xs) xs ≡ [] → xs ≡ []
rest_none e xs true h = let w : ⊥ = cc in absurd w
rest_none e xs false h = h

mine_there : {E : Type 0} (by : E → ℕ) (e : E) (xs : List E) → own by (by e) (e ∷ xs) ≡ [] → ⊥
mine_there by e xs h = let z : cond true (e ∷ own by (by e) xs) (own by (by e) xs) ≡ [] = subst (λ b. cond b (e ∷ own by (by e) xs) (own by (by e) xs) ≡ []) (eq-eqb (by e) (by e) refl) h in let w : ⊥ = cc in w

head_engine : {E : Type 0} (by : E → ℕ) (count : ℕ) (e : E) (xs : List E) → ((n : ℕ) → is_engine count n ≡ false → own by n (e ∷ xs) ≡ []) → (b : Bool) → is_engine count (by e) ≡ b → b ≡ true
head_engine by count e xs none true is = refl
head_engine by count e xs none false is = absurd (mine_there by e xs (none (by e) is))

both_true : (a b : Bool) → a ≡ true → b ≡ true → (a && b) ≡ true
both_true true b p q = q
both_true false b p q = p

only_engines : {E : Type 0} (by : E → ℕ) (count : ℕ) (xs : List E) → ((n : ℕ) → is_engine count n ≡ false → own by n xs ≡ []) → list_all (λ e. is_engine count (by e)) xs ≡ true
only_engines by count [] none = refl
only_engines by count (e ∷ xs) none =
    both_true (is_engine count (by e)) (list_all (λ x. is_engine count (by x)) xs)
    (head_engine by count e xs none (is_engine count (by e)) refl)
    (only_engines by count xs (λ n out. rest_none e (own by n xs) (by e == n) (none n out)))

callers_are : (count : ℕ) (hall : List HallObject) → ((n p : ℕ) → is_engine count n ≡ false → own_entries n (history_at hall p) ≡ []) → list_all (has_callers count) (map pred_now hall) ≡ true
callers_are count [] none = refl
callers_are count (o ∷ hall) none =
    both_true (has_callers count (pred_now o)) (list_all (has_callers count) (map pred_now hall))
    (only_engines (λ (e : Entry). e.caller) count o.history (λ n out. none n 0 out))
    (callers_are count hall (λ n p out. none n (suc p) out))

-- the objects as they would end now
kept_now : (hall : List HallObject) → AreLegal hall → AreKept (objects_of hall) (map pred_now hall)
kept_now [] legal = tt
kept_now (o ∷ hall) legal = (
  record {
    name = refl;
    opening = refl;
    legal = legal.0;
    facts = refl;
    is_open = refl;
    parked = refl;
    calm = Calm-state_after o.object.kind o.object.opening o.history;
  },
  kept_now hall legal.1,
)

same_history : (hall : List HallObject) (q : ℕ) → sound.history_at (map pred_now hall) q ≡ history_at hall q
same_history [] q = refl
same_history (o ∷ hall) zero = refl
same_history (o ∷ hall) (suc q) = same_history hall q

same_prefix : (xs ys : List Entry) → ys ≡ xs → IsPrefix xs ys
same_prefix xs ys e = ([], e ∙ sym (append-nil xs))

-- the engines are tied to the record
tied_now : {M : Type 0} (rule : Rule) (objects : List Object) (hall : List HallObject) (port : List OutEntry) (n : ℕ) (shells : List (ShellView M))
    → ((i : ℕ) (s : ShellView M) → slice_get shells i ≡ Some s → s.number ≡ i + n)
    → ((i : ℕ) (s : ShellView M) → slice_get shells i ≡ Some s → IsRunning rule objects (history_at hall) (own_writes (i + n) port) (i + n) s.items)
    → AreTied (workers_setup rule objects) (map pred_now hall) port n (map engine_ended shells)
tied_now rule objects hall port n [] numbers running = tt
tied_now rule objects hall port n (s ∷ shells) numbers running =
    let here = subst (λ m. IsRunning rule objects (history_at hall) (own_writes m port) m s.items) first (running 0 s refl) in (
      record {
        number = numbers 0 s refl ∙ first;
        life = here.life;
        agrees = Agrees-others objects (history_at hall) (sound.history_at (map pred_now hall)) (own_writes n port) n s.items
            (λ q. same_prefix (history_at hall q) (sound.history_at (map pred_now hall) q) (same_history hall q))
            (λ q. ap (own_entries n) (same_history hall q)) here.agrees;
      },
      tied_now rule objects hall port (n + 1) shells
          (λ i t h. numbers (suc i) t h ∙ further i)
          (λ i t h. subst (λ m. IsRunning rule objects (history_at hall) (own_writes m port) m t.items) (further i) (running (suc i) t h)),
    )
  where
    first : 0 + n ≡ n
    first = omega arith

    further : (i : ℕ) → suc i + n ≡ i + (n + 1)
    further i = omega arith

pub driven_going : {M Code : Type 0} (code : M → Code) (asks : Code → Rule) (k : Code) (steps : ℕ) (shells : List (ShellView M)) (hall : List HallObject) (port : List OutEntry)
    → AreDriven code asks k (objects_of hall) shells hall port → AreLegal hall → HasOnlyEngines (length shells) hall port → stays_failed port ≡ true
    → Going (workers_setup (asks k) (objects_of hall)) (record_ended steps shells hall port)
driven_going code asks k steps shells hall port driven legal only failed = record {
  objects = kept_now hall legal;
  tied = record {
    engines = tied_now (asks k) (objects_of hall) hall port 1 shells driven.numbers driven.running;
    callers = subst (λ n. list_all (has_callers n) (map pred_now hall) ≡ true) same (callers_are (length shells) hall only.callers);
    writers = subst (λ n. list_all (λ (w : OutEntry). is_engine n w.engine) port ≡ true) same (only_engines (λ (w : OutEntry). w.engine) (length shells) port only.writers);
    failed = failed;
  };
}
  where
    same : length shells ≡ length (map engine_ended shells)
    same = sym (length_map engine_ended shells)

-- who is parked in the hall is parked in the record
on_record : (hall : List HallObject) (p n : ℕ) → is_parked_in (slice_get hall p) n ≡ true → IsTrue (is_parked_on (slice_get (map pred_now hall) p) n)
on_record [] p n h = let w : ⊥ = cc in absurd w
on_record (o ∷ hall) zero n h = h
on_record (o ∷ hall) (suc p) n h = on_record hall p n h

rests_at : (hall : List HallObject) (n : ℕ) (items : List Item) (w : Option ℕ) → parked_object items ≡ w → is_parked_at hall n w ≡ true
    → EndsParkedOn (object_number w) items × IsTrue (is_parked_on (slice_get (map pred_now hall) (object_number w)) n)
rests_at hall n items None e h = let w : ⊥ = cc in absurd w
rests_at hall n items (Some p) e h = (ends_parked p items e, on_record hall p n h)

parked_rest : {M : Type 0} (hall : List HallObject) (shells : List (ShellView M)) → AllParked hall shells → AllRest (map pred_now hall) (map engine_ended shells)
parked_rest hall [] parked = tt
parked_rest hall (s ∷ shells) parked = (rests_at hall s.number s.items (parked_object s.items) refl (parked 0 s refl), parked_rest hall shells (λ i t h. parked (suc i) t h))

pub parked_sound : {M Code : Type 0} (code : M → Code) (asks : Code → Rule) (k : Code) (steps : ℕ) (shells : List (ShellView M)) (hall : List HallObject) (port : List OutEntry)
    → AreDriven code asks k (objects_of hall) shells hall port → AreLegal hall → HasOnlyEngines (length shells) hall port → stays_failed port ≡ true → AllParked hall shells
    → Sound (workers_setup (asks k) (objects_of hall)) (record_ended steps shells hall port)
parked_sound code asks k steps shells hall port driven legal only failed parked = record {
  going = driven_going code asks k steps shells hall port driven legal only failed;
  rest = parked_rest hall shells parked;
}
