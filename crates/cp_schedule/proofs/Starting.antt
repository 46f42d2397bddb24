-- New shells drive the workers of a run that begins.
use Rattle.std.proofs.Common.{◌≡◌, ℕ, suc, ◌+◌, List, [], ◌∷◌, length, refl, sym, ◌∙◌, ap, subst, Some, arith}
use Rattle.std.specs.Prelude.{map, slice_get}
use Rattle.cp_call.specs.declared.call.Entry.{Entry}
use Rattle.cp_call.specs.declared.outcome.Stand.TheVariants as stand
use Rattle.cp_call.specs.declared.outcome.OutEntry.{OutEntry}
use Rattle.cp_call.specs.Life.{Rule}
use Rattle.cp_call.specs.Progress.{beginning, new_engines, new_object}
use Rattle.cp_call.specs.Running.{IsRunning}
use Rattle.cp_call.specs.Sound.{Object, AgreeFrom, Going, own_entries, own_writes}
use Rattle.cp_call.proofs.Going.{Going-beginning}
use Rattle.cp_shell.specs.Shell.{ShellView}
use Rattle.cp_hall.specs.Hall.{HallObject, objects_of, history_at}
use Rattle.cp_schedule.specs.Record.{AreNew, AreDriven, IsReady, engine_now, pred_now, record_now, workers_setup}
use Rattle.cp_schedule.specs.Ended.{IsFresh}

agree_new : (n : ℕ) (os : List Object) (p : ℕ) (h : ℕ → List Entry) → ((q : ℕ) → h q ≡ []) → AgreeFrom p os h n []
agree_new n [] p h none = tt
agree_new n (o ∷ os) p h none = (record { entries = ap (own_entries n) (none p); refusals = tt }, agree_new n os (p + 1) h none)

-- an engine that has done nothing yet is running
new_running : (rule : Rule) (os : List Object) (h : ℕ → List Entry) (n : ℕ) → ((q : ℕ) → h q ≡ []) → IsRunning rule os h (own_writes n []) n []
new_running rule os h n none = record { life = tt; agrees = record { known = refl; asked = agree_new n os 0 h none; wrote = refl } }

-- new shells are driven
pub starts_driven : {M Code : Type 0} (code : M → Code) (asks : Code → Rule) (k : Code) (shells : List (ShellView M)) (hall : List HallObject) (port : List OutEntry)
    → AreNew code k shells → ((p : ℕ) → history_at hall p ≡ []) → port ≡ [] → AreDriven code asks k (objects_of hall) shells hall port
starts_driven {M} {Code} code asks k shells hall port new none empty = record {
  numbers = new.numbers;
  codes = new.codes;
  objects_are = refl;
  running = λ i s h.
      subst (λ w. IsRunning (asks k) (objects_of hall) (history_at hall) (own_writes (i + 1) w) (i + 1) s.items) (sym empty)
      (subst (λ xs. IsRunning (asks k) (objects_of hall) (history_at hall) (own_writes (i + 1) []) (i + 1) xs) (sym (new.idle i s h)) (new_running (asks k) (objects_of hall) (history_at hall) (i + 1) none));
}

same_engine : {M : Type 0} (s : ShellView M) (n : ℕ) → s.number ≡ n → s.items ≡ [] → engine_now s ≡ record { number = n; items = []; stand = stand.Parked 0 }
same_engine s n number idle = ap (λ m. record { number = m; items = s.items; stand = stand.Parked 0 }) number ∙ ap (λ xs. record { number = n; items = xs; stand = stand.Parked 0 }) idle

engines_begin : {M : Type 0} (n : ℕ) (shells : List (ShellView M)) → ((i : ℕ) (s : ShellView M) → slice_get shells i ≡ Some s → s.number ≡ i + n) → ((i : ℕ) (s : ShellView M) → slice_get shells i ≡ Some s → s.items ≡ [])
    → map engine_now shells ≡ new_engines n (length shells)
engines_begin n [] numbers idle = refl
engines_begin {M} n (s ∷ shells) numbers idle =
    ap (λ e. e ∷ map engine_now shells) (same_engine s n (numbers 0 s refl ∙ first) (idle 0 s refl))
    ∙ ap (λ es. record { number = n; items = []; stand = stand.Parked 0 } ∷ es) (engines_begin (n + 1) shells (λ i t h. numbers (suc i) t h ∙ further i) (λ i t h. idle (suc i) t h))
  where
    first : 0 + n ≡ n
    first = omega arith

    further : (i : ℕ) → suc i + n ≡ i + (n + 1)
    further i = omega arith

pred_begins : (o : HallObject) → o.history ≡ [] → pred_now o ≡ new_object o.object
pred_begins o none = ap (λ h. pred_now (record { object = o.object; history = h })) none

preds_begin : (hall : List HallObject) → ((p : ℕ) → history_at hall p ≡ []) → map pred_now hall ≡ map new_object (objects_of hall)
preds_begin [] none = refl
preds_begin (o ∷ hall) none = ap (λ p. p ∷ map pred_now hall) (pred_begins o (none 0)) ∙ ap (λ ps. new_object o.object ∷ ps) (preds_begin hall (λ p. none (suc p)))

-- their record is that of a run that begins
pub starts_at_beginning : {M Code : Type 0} (code : M → Code) (rule : Rule) (k : Code) (steps : ℕ) (shells : List (ShellView M)) (hall : List HallObject) (port : List OutEntry)
    → AreNew code k shells → ((p : ℕ) → history_at hall p ≡ []) → port ≡ [] → record_now steps shells hall port ≡ beginning (workers_setup rule (objects_of hall)) steps (length shells)
starts_at_beginning code rule k steps shells hall port new none empty =
    ap (λ es. record { steps = steps; engines = es; preds = map pred_now hall; port = port }) (engines_begin 1 shells new.numbers new.idle)
    ∙ (ap (λ ps. record { steps = steps; engines = new_engines 1 (length shells); preds = ps; port = port }) (preds_begin hall none)
    ∙ ap (λ es. record { steps = steps; engines = new_engines 1 (length shells); preds = map new_object (objects_of hall); port = es }) empty)

-- so it is going
pub starts_going : {M Code : Type 0} (code : M → Code) (rule : Rule) (k : Code) (steps : ℕ) (shells : List (ShellView M)) (hall : List HallObject) (port : List OutEntry)
    → AreNew code k shells → ((p : ℕ) → history_at hall p ≡ []) → port ≡ [] → Going (workers_setup rule (objects_of hall)) (record_now steps shells hall port)
starts_going code rule k steps shells hall port new none empty =
    subst (λ o. Going (workers_setup rule (objects_of hall)) o) (sym (starts_at_beginning code rule k steps shells hall port new none empty)) (Going-beginning (workers_setup rule (objects_of hall)) steps (length shells))

pub starts_ready : {M Code : Type 0} (code : M → Code) (asks : Code → Rule) (count : Code → ℕ) (shells : List (ShellView M)) (hall : List HallObject) (port : List OutEntry)
    → IsFresh code count shells hall → port ≡ [] → IsReady code asks count shells hall port
starts_ready code asks count shells hall port fresh empty = record {
  code_is = fresh.code_is;
  driven = starts_driven code asks fresh.code_is shells hall port fresh.new fresh.unasked empty;
  counts = fresh.counts;
}
