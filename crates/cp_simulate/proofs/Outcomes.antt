-- Outcomes of runs of workers.
use Rattle.std.proofs.Common.{◌≡◌, ℕ, zero, suc, ◌+◌, ◌++◌, List, [], ◌∷◌, length, refl, sym, ◌∙◌, ap, subst, false, Option, Some, None, arith, lit≤}
use Rattle.std.specs.Prelude.{slice_get, ◌||◌}
use Rattle.std.specs.List.{list_any}
use Rattle.std.proofs.lemmas.List.{append-nil}
use Rattle.cp_call.specs.declared.outcome.Stand.TheVariants as stand
use Rattle.cp_call.specs.declared.outcome.EngineEnd.{EngineEnd}
use Rattle.cp_call.specs.declared.outcome.Outcome.{Outcome}
use Rattle.cp_call.specs.Progress.{beginning, new_engines}
use Rattle.cp_call.specs.Setup.{IsSoundRun, setup_of}
use Rattle.cp_call.specs.Sound.{Setup, Going, Sound, is_lane, has_lane}
use Rattle.cp_out.specs.Port.{Records, GrewTo}
use Rattle.cp_code.specs.declared.program.Program.{Program}
use Rattle.cp_code.specs.Programs.{parts_of}
use Rattle.cp_schedule.specs.Ended.{StandsParked, IsOfWorkers, HasRunTo}
use Rattle.cp_simulate.specs.Runs.{rule, IsRunOf}

-- ---- a run that begins

count_begins : (n count : ℕ) → length (new_engines n count) ≡ count
count_begins n zero = refl
count_begins n (suc count) = ap suc (count_begins (n + 1) count)

stands_begin : (n count i : ℕ) (e : EngineEnd) → slice_get (new_engines n count) i ≡ Some e → StandsParked (i + n) e
stands_begin n zero i e h = let w : ⊥ = cc in absurd w
stands_begin n (suc count) zero e h =
    let same : record { number = n; items = []; stand = stand.Parked 0 } ≡ e = cc in
    record { number = sym (ap (λ (x : EngineEnd). x.number) same) ∙ first; object = 0; stand = sym (ap (λ (x : EngineEnd). x.stand) same) }
  where
    first : n ≡ 0 + n
    first = omega arith
stands_begin n (suc count) (suc i) e h =
    let later : StandsParked (i + (n + 1)) e = stands_begin (n + 1) count i e h in
    record { number = later.number ∙ further; object = later.object; stand = later.stand }
  where
    further : i + (n + 1) ≡ suc i + n
    further = omega arith

workers_begin : (s : Setup) (steps count : ℕ) → IsOfWorkers steps count (beginning s steps count)
workers_begin s steps count = record { steps_are = refl; count_is = count_begins 1 count; workers = λ i e h. stands_begin 1 count i e h }

grew_none : (held : Option (List ℕ)) → GrewTo held [] held
grew_none None = refl
grew_none (Some bytes) = record { part = 0; within = lit≤ tt; grown = sym (append-nil (bytes ++ []) ∙ append-nil bytes) }

-- nothing was written
records_none : {S : Type 0} (held : S → Option (List ℕ)) (faults : S → ℕ) (sink : S) → Records held faults sink [] sink
records_none held faults sink = record { grew = grew_none (held sink); stays_failed = refl; caused = λ h. (let w : ⊥ = cc in absurd w); kept = λ h. refl }

pub has_begun : {S : Type 0} (held : S → Option (List ℕ)) (faults : S → ℕ) (s : Setup) (steps count : ℕ) (sink : S)
    → Going s (beginning s steps count) → (o : Outcome) × HasRunTo held faults s steps count sink sink o
has_begun held faults s steps count sink going = (beginning s steps count, record { going = going; workers = workers_begin s steps count; records = records_none held faults sink })

-- ---- none of its engines is a lane

none_lane : (engines : List EngineEnd) (n : ℕ → ℕ) → ((i : ℕ) (e : EngineEnd) → slice_get engines i ≡ Some e → StandsParked (n i) e) → list_any (λ (e : EngineEnd). is_lane e.stand) engines ≡ false
none_lane [] n stands = refl
none_lane (e ∷ engines) n stands =
    ap (λ b. b || list_any (λ (x : EngineEnd). is_lane x.stand) engines) (ap is_lane (stands 0 e refl).stand)
    ∙ none_lane engines (λ i. n (suc i)) (λ i x h. stands (suc i) x h)

no_lane : (steps count : ℕ) (o : Outcome) → IsOfWorkers steps count o → has_lane o ≡ false
no_lane steps count o w = none_lane o.engines (λ i. i + 1) w.workers

pub is_sound_run : (p : Program) (seed steps engines : ℕ) (o : Outcome) → IsRunOf p seed steps engines o → IsSoundRun (rule p) (parts_of p) o
is_sound_run p seed steps engines o run =
    subst (λ n. Sound (setup_of (rule p n) (parts_of p) (has_lane o)) o) (sym run.workers.steps_are)
    (subst (λ b. Sound (setup_of (rule p steps) (parts_of p) b) o) (sym (no_lane steps engines o run.workers)) run.sound)
