-- The workers of a run while it goes on, by what an asker has seen and a writer has written for each of them.
use Rattle.std.specs.Prelude.{ℕ, ◌+◌, ◌≡◌, false, List, [], ◌∷◌}
use Rattle.cp_call.specs.declared.call.Entry.{Entry}
use Rattle.cp_call.specs.declared.item.Item.{Item}
use Rattle.cp_call.specs.declared.outcome.EngineEnd.{EngineEnd}
use Rattle.cp_call.specs.declared.outcome.OutEntry.{OutEntry}
use Rattle.cp_call.specs.Life.{Rule, IsWorkersLife}
use Rattle.cp_call.specs.Sound.{Object, Agrees, is_lane}

-- Engine n is a worker at some moment: its events so far are a worker's life, and they tell just what was seen of the
-- objects and written for it.
pub record IsRunning (rule : Rule) (objects : List Object) (seen : ℕ → List Entry) (writes : List OutEntry) (n : ℕ) (items : List Item) : Type 0 where
  pub life : IsWorkersLife rule items
  pub agrees : Agrees objects seen writes n items

-- the same of the engines numbered from n on, where the events of each are given
abbrev pub AreRunning : Rule → List Object → (seen : ℕ → ℕ → List Entry) → (wrote : ℕ → List OutEntry) → ℕ → List (List Item) → Type 0
AreRunning rule objects seen wrote n [] = Unit {0}
AreRunning rule objects seen wrote n (items ∷ engines) =
    IsRunning rule objects (seen n) (wrote n) n items × AreRunning rule objects seen wrote (n + 1) engines

-- An engine at the end is worker n with these events.
pub record IsWorkerEnd (n : ℕ) (items : List Item) (e : EngineEnd) : Type 0 where
  pub number : e.number ≡ n
  pub events : e.items ≡ items
  pub stand : is_lane e.stand ≡ false

-- the engines at the end are the workers numbered from n on, with these events
abbrev pub AreWorkerEnds : ℕ → List (List Item) → List EngineEnd → Type 0
AreWorkerEnds n [] [] = Unit {0}
AreWorkerEnds n (items ∷ more) (e ∷ engines) = IsWorkerEnd n items e × AreWorkerEnds (n + 1) more engines
AreWorkerEnds n [] (e ∷ engines) = ⊥
AreWorkerEnds n (items ∷ more) [] = ⊥
