-- A run that ends where all its workers are parked is sound.
use Rattle.std.proofs.Common.{◌≡◌, ℕ, zero, suc, ◌+◌, List, [], ◌∷◌, length, refl, sym, ◌∙◌, ap, subst, true, Option, Some, None, IsTrue}
use Rattle.std.specs.Prelude.{map, slice_get, IfSome}
use Rattle.std.specs.List.{list_all}
use Rattle.cp_call.specs.declared.item.Item.{Item}
use Rattle.cp_call.specs.declared.outcome.Stand.TheVariants as stand
use Rattle.cp_call.specs.declared.outcome.EngineEnd.{EngineEnd}
use Rattle.cp_call.specs.declared.outcome.OutEntry.{OutEntry}
use Rattle.cp_call.specs.declared.outcome.PredEnd.{PredEnd}
use Rattle.cp_call.specs.declared.outcome.Outcome.{Outcome}
use Rattle.cp_call.specs.Life.{Rule}
use Rattle.cp_call.specs.Sound.{Setup, Going, Sound, AreTied, AllRest, EndsParkedOn, has_callers, is_engine, is_parked_on}
use Rattle.cp_shell.specs.Parked.{parked_object}
use Rattle.cp_shell.specs.Shell.{ShellView}
use Rattle.cp_hall.specs.Hall.{HallObject, objects_of}
use Rattle.cp_out.specs.Port.{Records}
use Rattle.cp_schedule.specs.Record.{AreNew, IsLater, engine_now, pred_now, record_now, workers_setup}
use Rattle.cp_schedule.specs.Awake.{is_parked_in, is_parked_at, AllParked}
use Rattle.cp_schedule.specs.Ended.{IsFresh, IsOfWorkers, HasRunTo, object_number, engine_ended, record_ended}
use Rattle.cp_schedule.proofs.Parking.{ends_parked}
use Rattle.cp_schedule.proofs.Starting.{starts_driven, starts_going}
use Rattle.cp_schedule.proofs.Turns.{going_later}

length_map : {A B : Type 0} (f : A → B) (xs : List A) → length (map f xs) ≡ length xs
length_map f [] = refl
length_map f (x ∷ xs) = ap suc (length_map f xs)

-- where an engine stands parked plays no part in what ties it to the run
ended_tied : {M : Type 0} (s : Setup) (preds : List PredEnd) (port : List OutEntry) (n : ℕ) (shells : List (ShellView M)) → AreTied s preds port n (map engine_now shells) → AreTied s preds port n (map engine_ended shells)
ended_tied s preds port n [] t = tt
ended_tied s preds port n (x ∷ shells) t = (record { number = t.0.number; life = t.0.life; agrees = t.0.agrees }, ended_tied s preds port (n + 1) shells t.1)

ended_going : {M : Type 0} (s : Setup) (steps : ℕ) (shells : List (ShellView M)) (hall : List HallObject) (port : List OutEntry) → Going s (record_now steps shells hall port) → Going s (record_ended steps shells hall port)
ended_going s steps shells hall port g = record {
  objects = g.objects;
  tied = record {
    engines = ended_tied s (map pred_now hall) port 1 shells g.tied.engines;
    callers = subst (λ n. list_all (has_callers n) (map pred_now hall) ≡ true) same g.tied.callers;
    writers = subst (λ n. list_all (λ (w : OutEntry). is_engine n w.engine) port ≡ true) same g.tied.writers;
    failed = g.tied.failed;
  };
}
  where
    same : length (map engine_now shells) ≡ length (map engine_ended shells)
    same = length_map engine_now shells ∙ sym (length_map engine_ended shells)

-- who is parked in the hall is parked in the record
on_record : (hall : List HallObject) (p n : ℕ) → is_parked_in (slice_get hall p) n ≡ true → IsTrue (is_parked_on (slice_get (map pred_now hall) p) n)
on_record [] p n h = let w : ⊥ = cc in absurd w
on_record (o ∷ hall) zero n h = h
on_record (o ∷ hall) (suc p) n h = on_record hall p n h

rests_at : (hall : List HallObject) (n : ℕ) (items : List Item) (w : Option ℕ) → parked_object items ≡ w → is_parked_at hall n w ≡ true
    → EndsParkedOn (object_number w) items × IsTrue (is_parked_on (slice_get (map pred_now hall) (object_number w)) n)
rests_at hall n items None e h = let w : ⊥ = cc in absurd w
rests_at hall n items (Some p) e h = (ends_parked p items e, on_record hall p n h)

ended_rest : {M : Type 0} (hall : List HallObject) (shells : List (ShellView M)) → AllParked hall shells → AllRest (map pred_now hall) (map engine_ended shells)
ended_rest hall [] parked = tt
ended_rest hall (s ∷ shells) parked = (rests_at hall s.number s.items (parked_object s.items) refl (parked 0 s refl), ended_rest hall shells (λ i t h. parked (suc i) t h))

from_map : {A B : Type 0} (f : A → B) (xs : List A) (i : ℕ) (y : B) → slice_get (map f xs) i ≡ Some y → (x : A) × ((slice_get xs i ≡ Some x) × (y ≡ f x))
from_map f [] i y h = let w : ⊥ = cc in absurd w
from_map f (x ∷ xs) zero y h = (x, (refl, (let z : y ≡ f x = cc in z)))
from_map f (x ∷ xs) (suc i) y h = from_map f xs i y h

-- the engines of a record are those of its shells
of_workers : {M : Type 0} (end : ShellView M → EngineEnd) (object : ShellView M → ℕ) (steps count : ℕ) (shells : List (ShellView M)) (preds : List PredEnd) (port : List OutEntry)
    → ((s : ShellView M) → (end s).number ≡ s.number) → ((s : ShellView M) → (end s).stand ≡ stand.Parked (object s))
    → ((i : ℕ) (s : ShellView M) → slice_get shells i ≡ Some s → s.number ≡ i + 1) → length shells ≡ count
    → IsOfWorkers steps count (record { steps = steps; engines = map end shells; preds = preds; port = port })
of_workers end object steps count shells preds port number stands numbers same = record {
  steps_are = refl;
  count_is = length_map end shells ∙ same;
  workers = λ i e h.
      let from = from_map end shells i e h in
      record {
        number = ap (λ (x : EngineEnd). x.number) from.1.1 ∙ (number from.0 ∙ numbers i from.0 from.1.0);
        object = object from.0;
        stand = ap (λ (x : EngineEnd). x.stand) from.1.1 ∙ stands from.0;
      };
}

-- What a run of fresh shells has come to.
pub record HasCome {M Code : Type 0} (code : M → Code) (asks : Code → Rule) (count : Code → ℕ) (shells now : List (ShellView M)) (hall hall_now : List HallObject) (port port_now : List OutEntry) : Type 0 where
  pub fresh : IsFresh code count shells hall
  pub empty : port ≡ []
  pub later : IsLater code asks shells now hall hall_now port port_now

come_going : {M Code : Type 0} (code : M → Code) (asks : Code → Rule) (count : Code → ℕ) (shells now : List (ShellView M)) (hall hall_now : List HallObject) (port port_now : List OutEntry) (k : Code) (steps : ℕ)
    → HasCome code asks count shells now hall hall_now port port_now → AreNew code k shells → Going (workers_setup (asks k) (objects_of hall)) (record_now steps now hall_now port_now)
come_going code asks count shells now hall hall_now port port_now k steps come new =
    going_later code asks shells now hall hall_now port port_now come.later k steps (starts_driven code asks k shells hall port new come.fresh.unasked come.empty)
    (starts_going code (asks k) k steps shells hall port new come.fresh.unasked come.empty)

come_numbers : {M Code : Type 0} (code : M → Code) (asks : Code → Rule) (count : Code → ℕ) (shells now : List (ShellView M)) (hall hall_now : List HallObject) (port port_now : List OutEntry)
    → HasCome code asks count shells now hall hall_now port port_now → (i : ℕ) (s : ShellView M) → slice_get now i ≡ Some s → s.number ≡ i + 1
come_numbers code asks count shells now hall hall_now port port_now come =
    (come.later.driven come.fresh.code_is (starts_driven code asks come.fresh.code_is shells hall port come.fresh.new come.fresh.unasked come.empty)).numbers

-- a run that has ended is sound
pub come_sound : {M Code : Type 0} (code : M → Code) (asks : Code → Rule) (count : Code → ℕ) (shells now : List (ShellView M)) (hall hall_now : List HallObject) (port port_now : List OutEntry) (k : Code) (steps : ℕ) (o : Outcome)
    → HasCome code asks count shells now hall hall_now port port_now → AllParked hall_now now → o ≡ record_ended steps now hall_now port_now → AreNew code k shells → Sound (workers_setup (asks k) (objects_of hall)) o
come_sound code asks count shells now hall hall_now port port_now k steps o come parked is new = subst (λ x. Sound (workers_setup (asks k) (objects_of hall)) x) (sym is) (record {
  going = ended_going (workers_setup (asks k) (objects_of hall)) steps now hall_now port_now (come_going code asks count shells now hall hall_now port port_now k steps come new);
  rest = ended_rest hall_now now parked;
})

pub come_workers : {M Code : Type 0} (code : M → Code) (asks : Code → Rule) (count : Code → ℕ) (shells now : List (ShellView M)) (hall hall_now : List HallObject) (port port_now : List OutEntry) (steps : ℕ) (o : Outcome)
    → HasCome code asks count shells now hall hall_now port port_now → o ≡ record_ended steps now hall_now port_now → IsOfWorkers steps (length shells) o
come_workers {M} {Code} code asks count shells now hall hall_now port port_now steps o come is = subst (λ x. IsOfWorkers steps (length shells) x) (sym is)
    (of_workers engine_ended (λ (s : ShellView M). object_number (parked_object s.items)) steps (length shells) now (map pred_now hall_now) port_now (λ s. refl) (λ s. refl)
    (come_numbers code asks count shells now hall hall_now port port_now come) come.later.count)

-- wherever a run stops, it has come to this moment
pub come_now : {M Code S : Type 0} (held : S → Option (List ℕ)) (faults : S → ℕ) (first sink : S) (code : M → Code) (asks : Code → Rule) (count : Code → ℕ) (shells now : List (ShellView M)) (hall hall_now : List HallObject) (port port_now : List OutEntry) (k : Code) (steps : ℕ)
    → HasCome code asks count shells now hall hall_now port port_now → Records held faults first port_now sink → AreNew code k shells
    → HasRunTo held faults (workers_setup (asks k) (objects_of hall)) steps (length shells) first sink (record_now steps now hall_now port_now)
come_now {M} {Code} {S} held faults first sink code asks count shells now hall hall_now port port_now k steps come records new = record {
  going = come_going code asks count shells now hall hall_now port port_now k steps come new;
  workers = of_workers engine_now (λ (s : ShellView M). 0) steps (length shells) now (map pred_now hall_now) port_now (λ s. refl) (λ s. refl)
      (come_numbers code asks count shells now hall hall_now port port_now come) come.later.count;
  records = records;
}

-- so it has come to an outcome
pub come_run : {M Code S : Type 0} (held : S → Option (List ℕ)) (faults : S → ℕ) (first sink : S) (code : M → Code) (asks : Code → Rule) (count : Code → ℕ) (shells now : List (ShellView M)) (hall hall_now : List HallObject) (port port_now : List OutEntry) (k : Code) (steps : ℕ)
    → HasCome code asks count shells now hall hall_now port port_now → Records held faults first port_now sink → AreNew code k shells
    → (o : Outcome) × HasRunTo held faults (workers_setup (asks k) (objects_of hall)) steps (length shells) first sink o
come_run held faults first sink code asks count shells now hall hall_now port port_now k steps come records new =
    (record_now steps now hall_now port_now, come_now held faults first sink code asks count shells now hall hall_now port port_now k steps come records new)

-- what holds of an outcome that is there follows from what else holds of it
pub if_some : {X : Type 0} (r : Option X) {A B : X → Type 0} → IfSome r A → ((x : X) → A x → B x) → IfSome r B
if_some (Some x) h f = f x h
if_some None h f = tt
