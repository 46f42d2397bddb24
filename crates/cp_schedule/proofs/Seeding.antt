-- The turns that the words of a generator pick, from the beginning of a run to its end.
use Rattle.std.proofs.Common.{◌≡◌, ℕ, suc, ◌%◌, List, [], ◌∷◌, length, refl, sym, ◌∙◌, ap, subst, true, Some}
use Rattle.std.specs.Prelude.{map, slice_get}
use Rattle.rand_pcg.specs.Lcg.{Lcg}
use Rattle.rand_pcg.specs.Pcg.{pcg32}
use Rattle.cp_call.specs.declared.outcome.OutEntry.{OutEntry}
use Rattle.cp_call.specs.declared.outcome.Outcome.{Outcome}
use Rattle.cp_call.specs.Life.{Rule}
use Rattle.cp_call.specs.Sound.{Setup}
use Rattle.cp_shell.specs.Shell.{ShellView}
use Rattle.cp_hall.specs.Hall.{HallObject, objects_of}
use Rattle.cp_schedule.specs.Record.{AreNew, IsLater, RecordLeads, engine_now, pred_now, record_now, workers_setup}
use Rattle.cp_schedule.specs.Ended.{IsFresh, engine_ended, record_ended}
use Rattle.cp_schedule.specs.Turns.{is_awake, awake_places, TakesTurn, TakesNextTurn, RunsToEnd, IsRunOfSeed, all_at_rest, at_rest, generator_of}
use Rattle.cp_schedule.proofs.Picking.{leads_from}
use Rattle.cp_schedule.proofs.Standing.{listed_awake}
use Rattle.cp_schedule.proofs.Starting.{starts_driven, starts_at_beginning}

-- the worker that a word picks takes its turn
pub takes_next : (s : Setup) (words : Lcg) (word count place : ℕ) (before after : Outcome) (places : List ℕ)
    → word ≡ (pcg32 words).0 → awake_places before ≡ places → count ≡ length places → slice_get places (word % count) ≡ Some place → (is_awake before place ≡ true → TakesTurn s before place after)
    → TakesNextTurn s words before after
takes_next s words word count place before after places drawn same counted there turn = record {
  place = place;
  picked = listed;
  turn = turn (listed_awake before (length before.engines) ((pcg32 words).0 % length (awake_places before)) place listed);
}
  where
    listed : slice_get (awake_places before) ((pcg32 words).0 % length (awake_places before)) ≡ Some place
    listed = subst (λ ps. slice_get ps ((pcg32 words).0 % length ps) ≡ Some place) (sym same)
        (subst (λ w. slice_get places (w % length places) ≡ Some place) drawn (subst (λ n. slice_get places (word % n) ≡ Some place) counted there))

-- A run has come to a moment with a generator: whatever end its turns lead to from there, they lead to from its beginning.
abbrev pub HasComeWith : Setup → (first : Lcg) → (before : Outcome) → (words : Lcg) → (now : Outcome) → Type 0
HasComeWith s first before words now = (turns : ℕ) (end : Outcome) → RunsToEnd s words turns now end → (more : ℕ) × RunsToEnd s first more before end

pub comes_with : {M Code : Type 0} (code : M → Code) (asks : Code → Rule) (s1 s2 s3 : List (ShellView M)) (h1 h2 h3 : List HallObject) (p1 p2 p3 : List OutEntry) (first words words_now : Lcg)
    → IsLater code asks s1 s2 h1 h2 p1 p2 → RecordLeads code asks s1 s2 h1 h2 p1 p2 (λ s before after. HasComeWith s first before words after)
    → words_now ≡ (pcg32 words).1 → RecordLeads code asks s2 s3 h2 h3 p2 p3 (λ s before after. TakesNextTurn s words before after)
    → RecordLeads code asks s1 s3 h1 h3 p1 p3 (λ s before after. HasComeWith s first before words_now after)
comes_with code asks s1 s2 s3 h1 h2 h3 p1 p2 p3 first words words_now later come drawn next k steps d turns end rest =
    come k steps d (suc turns) end (
      record_now steps s3 h3 p3,
      (
        leads_from code asks s1 s2 s3 h1 h2 h3 p1 p2 p3 (λ s before after. TakesNextTurn s words before after) later next k steps d,
        subst (λ w. RunsToEnd (workers_setup (asks k) (objects_of h1)) w turns (record_now steps s3 h3 p3) end) drawn rest,
      ),
    )

-- it ends where all are parked
pub comes_to_end : {M Code : Type 0} (code : M → Code) (asks : Code → Rule) (s1 s2 s3 : List (ShellView M)) (h1 h2 h3 : List HallObject) (p1 p2 p3 : List OutEntry) (first words : Lcg)
    → IsLater code asks s1 s2 h1 h2 p1 p2 → RecordLeads code asks s1 s2 h1 h2 p1 p2 (λ s before after. HasComeWith s first before words after)
    → RecordLeads code asks s2 s3 h2 h3 p2 p3 (λ s before after. (awake_places before ≡ []) × (after ≡ before))
    → RecordLeads code asks s1 s3 h1 h3 p1 p3 (λ s before after. (turns : ℕ) × RunsToEnd s first turns before (all_at_rest after))
comes_to_end code asks s1 s2 s3 h1 h2 h3 p1 p2 p3 first words later come ended k steps d =
    let here = leads_from code asks s1 s2 s3 h1 h2 h3 p1 p2 p3 (λ s before after. (awake_places before ≡ []) × (after ≡ before)) later ended k steps d in
    come k steps d 0 (all_at_rest (record_now steps s3 h3 p3)) (here.0, ap all_at_rest here.1)

pub rest_same : {M : Type 0} (shells : List (ShellView M)) → map at_rest (map engine_now shells) ≡ map engine_ended shells
rest_same [] = refl
rest_same (s ∷ shells) = ap (λ es. engine_ended s ∷ es) (rest_same shells)

-- what a run of fresh shells has come to is the run of the seed
pub come_of_seed : {M Code : Type 0} (code : M → Code) (asks : Code → Rule) (count : Code → ℕ) (shells now : List (ShellView M)) (hall hall_now : List HallObject) (port port_now : List OutEntry) (k : Code) (seed steps : ℕ) (o : Outcome)
    → IsFresh code count shells hall → port ≡ [] → RecordLeads code asks shells now hall hall_now port port_now (λ s before after. (turns : ℕ) × RunsToEnd s (generator_of seed) turns before (all_at_rest after))
    → o ≡ record_ended steps now hall_now port_now → AreNew code k shells → IsRunOfSeed (workers_setup (asks k) (objects_of hall)) seed steps (length shells) o
come_of_seed code asks count shells now hall hall_now port port_now k seed steps o fresh empty leads is new =
    let run = leads k steps (starts_driven code asks k shells hall port new fresh.unasked empty) in
    let ended : all_at_rest (record_now steps now hall_now port_now) ≡ o =
    ap (λ es. record { steps = steps; engines = es; preds = map pred_now hall_now; port = port_now }) (rest_same now) ∙ sym is in (
      run.0,
      subst (λ b. RunsToEnd (workers_setup (asks k) (objects_of hall)) (generator_of seed) run.0 b o) (starts_at_beginning code (asks k) k steps shells hall port new fresh.unasked empty)
          (subst (λ e. RunsToEnd (workers_setup (asks k) (objects_of hall)) (generator_of seed) run.0 (record_now steps shells hall port) e) ended run.1),
    )
