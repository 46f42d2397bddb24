-- Steps on the way to what a goal asks, each by what is left of the definition.
use Rattle.std.specs.Prelude.{◌≡◌, ℕ, List, Option, Some, None, Result, Ok, Err}
use Rattle.cp_term.specs.declared.cell.Cell.{Cell}
use Rattle.cp_heap.specs.State.{State}
use Rattle.cp_heap.specs.Looks.{name_of}
use Rattle.cp_code.specs.Bodies.{Seen}
use Rattle.cp_code.specs.Code as code
use Rattle.cp_code.specs.Goals as goals
use Rattle.cp_code.specs.Requests as requests
use Rattle.cp_code.specs.Requests.{Refused}
use Rattle.cp_request.specs.declared.error_kind.ErrorKind.TheVariants as error_kind
use Rattle.cp_request.specs.declared.refusal.Refusal.{Refusal}
use Rattle.cp_request.specs.declared.refusal.Refusal.TheVariants as refusal
use Rattle.cp_request.specs.Refused.{Refuses}

-- the term is callable, and has so many arguments
abbrev pub HasArity : List Cell → ℕ → Type 0
HasArity cells k = (f : List ℕ) × (name_of cells ≡ Some f) × (requests.fact_functor cells ≡ Some (f, k))

-- no shared predicate is seen under a name and arity
abbrev pub IsNoData : (seer name : List ℕ) → (arity : ℕ) → Refusal → Type 0
IsNoData seer name arity (refusal.Raised e) = e ≡ error_kind.NoData (record { «module» = seer; name = name; arity = arity })
IsNoData seer name arity refusal.NoMemory = Unit {0}

-- the question to a shared object, or to none
abbrev pub asking_at : goals.FactGoal → Seen → (List ℕ × ℕ) → Option ℕ → List Cell → Result requests.Asking Refused
asking_at g fact f (Some object) ctx = requests.asking_with g object ctx fact.goal (requests.handed_over g fact.goal)
asking_at g fact f None ctx = Err (requests.no_data fact f)

-- the shared object of a predicate, or that it has none, or why the goal is refused
abbrev pub FindsObject : State → goals.FactGoal → code.Pred → Result (Option ℕ) Refusal → Type 0
FindsObject h g p (Ok o) = (fact : Seen) (f : List ℕ × ℕ) (ctx : List Cell) → requests.asking_of_kind g fact f p.name p.kind ctx ≡ asking_at g fact f o ctx
FindsObject h g p (Err e) = (fact : Seen) (f : List ℕ × ℕ) (ctx : List Cell) → Refuses h (requests.asking_of_kind g fact f p.name p.kind ctx) e

-- the same for what is seen under a name and arity
abbrev pub FindsSeen : State → goals.FactGoal → Option code.Pred → Result (Option ℕ) Refusal → Type 0
FindsSeen h g p (Ok o) = (fact : Seen) (f : List ℕ × ℕ) (ctx : List Cell) → requests.asking_of_pred g fact f p ctx ≡ asking_at g fact f o ctx
FindsSeen h g p (Err e) = (fact : Seen) (f : List ℕ × ℕ) (ctx : List Cell) → Refuses h (requests.asking_of_pred g fact f p ctx) e

-- the same for a goal
abbrev pub FindsFact : State → code.Code → goals.FactGoal → Seen → Result ℕ Refusal → Type 0
FindsFact h c g fact (Ok object) = (ctx : List Cell) → requests.fact_asking c g fact ctx ≡ requests.asking_with g object ctx fact.goal (requests.handed_over g fact.goal)
FindsFact h c g fact (Err e) = (ctx : List Cell) → Refuses h (requests.fact_asking c g fact ctx) e
