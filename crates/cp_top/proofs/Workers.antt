-- The engines of a run are workers, which did nothing that only lanes do.
use Rattle.std.proofs.Common.{◌≡◌, ℕ, suc, ◌+◌, ◌&&◌, true, List, [], ◌∷◌, Some, not, refl, ap, ap₂, subst}
use Rattle.std.specs.Prelude.{slice_get}
use Rattle.std.specs.List.{list_all}
use Rattle.cp_call.specs.declared.item.Item.{Item}
use Rattle.cp_call.specs.declared.item.Item.TheVariants as item
use Rattle.cp_call.specs.declared.outcome.Stand.TheVariants as stand
use Rattle.cp_call.specs.declared.outcome.EngineEnd.{EngineEnd}
use Rattle.cp_call.specs.declared.outcome.PredEnd.{PredEnd}
use Rattle.cp_call.specs.declared.outcome.OutEntry.{OutEntry}
use Rattle.cp_call.specs.declared.outcome.Outcome.{Outcome}
use Rattle.cp_call.specs.Life.{Rule, WorkerStage, Idle, IsLifeFrom, stage_after}
use Rattle.cp_call.specs.Sound.{Setup, IsLife, AreTied, is_lane}
use Rattle.cp_code.specs.declared.program.Program.{Program}
use Rattle.cp_schedule.specs.Ended.{StandsParked}
use Rattle.cp_simulate.specs.Runs.{setup, IsRunOf}
use Rattle.cp_log_text.specs.Engine.{is_logged}
use Rattle.cp_log_text.specs.Log.{is_worker}

-- what a worker asks for is in the log
logged : (rule : Rule) (s : WorkerStage) (items : List Item) → IsLifeFrom rule s items → list_all is_logged items ≡ true
logged rule s [] h = refl
logged rule s (item.Asked object c r ∷ items) h = logged rule (stage_after rule s (item.Asked object c r)) items h.1
logged rule s (item.Wrote bytes r ∷ items) h = logged rule (stage_after rule s (item.Wrote bytes r)) items h.1
logged rule s (item.Remote c r ∷ items) h = logged rule (stage_after rule s (item.Remote c r)) items h.1
logged rule s (item.Given c ∷ items) h = absurd h.0
logged rule s (item.Answered r ∷ items) h = absurd h.0

worker : (s : Setup) (e : EngineEnd) (object : ℕ) → e.stand ≡ stand.Parked object → IsLife s e.stand e.items → is_worker e ≡ true
worker s e object p life =
    ap₂ (λ a b. not a && b) (ap is_lane p) (logged s.rule Idle e.items (subst (λ x. IsLife s x e.items) p life))

workers : (s : Setup) (preds : List PredEnd) (port : List OutEntry) (n : ℕ) (m : ℕ → ℕ) (engines : List EngineEnd) → AreTied s preds port n engines
    → ((i : ℕ) (e : EngineEnd) → slice_get engines i ≡ Some e → StandsParked (m i) e) → list_all is_worker engines ≡ true
workers s preds port n m [] tied parked = refl
workers s preds port n m (e ∷ engines) tied parked =
    let here : StandsParked (m 0) e = parked 0 e refl in
    ap₂ (λ a b. a && b) (worker s e here.object here.stand tied.0.life)
    (workers s preds port (n + 1) (λ i. m (suc i)) engines tied.1 (λ i x h. parked (suc i) x h))

pub all_workers : (p : Program) (seed steps engines : ℕ) (o : Outcome) → IsRunOf p seed steps engines o → list_all is_worker o.engines ≡ true
all_workers p seed steps engines o run = workers (setup p steps) o.preds o.port 1 (λ i. i + 1) o.engines run.sound.going.tied.engines run.workers.workers
