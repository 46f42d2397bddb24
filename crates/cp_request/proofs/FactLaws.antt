-- What a goal on a fact asks, from what was found on the way.
use Rattle.std.proofs.Common.{◌≡◌, ℕ, List, [], Some, None, Option, sym, ◌∙◌, ap, subst}
use Rattle.std.specs.Prelude.{Result, Ok, Err, unwrap_or}
use Rattle.cp_term.specs.declared.cell.Cell.{Cell}
use Rattle.cp_heap.specs.State.{State}
use Rattle.cp_heap.specs.Looks.{name_of}
use Rattle.cp_code.specs.Bodies.{Seen}
use Rattle.cp_code.specs.Code as code
use Rattle.cp_code.specs.Goals as goals
use Rattle.cp_code.specs.Goals.{seen_pred}
use Rattle.cp_code.specs.Requests as requests
use Rattle.cp_code.specs.Requests.{Refused}
use Rattle.cp_request.specs.declared.asking.Asking.{Asking}
use Rattle.cp_request.specs.declared.refusal.Refusal.{Refusal}
use Rattle.cp_request.specs.declared.refusal.Refusal.TheVariants.{Raised, NoMemory}
use Rattle.cp_request.specs.Refused.{kind, HasCulprit, Refuses, Asks}
use Rattle.cp_request.specs.Found.{HasArity, IsNoData, FindsObject, FindsSeen, FindsFact}

pub seen_object : (h : State) (g : goals.FactGoal) (p : Option code.Pred) (q : code.Pred) (r : Result (Option ℕ) Refusal) → Some q ≡ p → FindsObject h g q r → FindsSeen h g p r
seen_object h g p q (Ok o) e found = λ fact f ctx. ap (λ x. requests.asking_of_pred g fact f x ctx) (sym e) ∙ found fact f ctx
seen_object h g p q (Err refusal) e found = λ fact f ctx. subst (λ x. Refuses h (requests.asking_of_pred g fact f x ctx) refusal) e (found fact f ctx)

-- what the goal asks is what its functor's predicate is asked
by_functor : (h : State) (c : code.Code) (g : goals.FactGoal) (fact : Seen) (name : List ℕ) (arity : ℕ) (ctx : List Cell) → HasArity fact.goal arity → Some name ≡ name_of fact.goal
    → requests.fact_asking c g fact ctx ≡ requests.asking_of_pred g fact (name, arity) (seen_pred c fact.seer name arity) ctx
by_functor h c g fact name arity ctx has named =
    let same : has.0 ≡ name = ap (λ o. unwrap_or o []) (sym has.1 ∙ sym named) in
    ap (λ f. requests.asking_of_functor c g fact f ctx) has.2
    ∙ ap (λ n. requests.asking_of_pred g fact (n, arity) (seen_pred c fact.seer n arity) ctx) same

pub fact_object : (h : State) (c : code.Code) (g : goals.FactGoal) (fact : Seen) (name : List ℕ) (arity object : ℕ) → HasArity fact.goal arity → Some name ≡ name_of fact.goal
    → FindsSeen h g (seen_pred c fact.seer name arity) (Ok (Some object)) → FindsFact h c g fact (Ok object)
fact_object h c g fact name arity object has named found ctx = by_functor h c g fact name arity ctx has named ∙ found fact (name, arity) ctx

pub fact_refused : (h : State) (c : code.Code) (g : goals.FactGoal) (fact : Seen) (name : List ℕ) (arity : ℕ) (e : Refusal) → HasArity fact.goal arity → Some name ≡ name_of fact.goal
    → FindsSeen h g (seen_pred c fact.seer name arity) (Err e) → FindsFact h c g fact (Err e)
fact_refused h c g fact name arity e has named found ctx =
    subst (λ answer. Refuses h answer e) (sym (by_functor h c g fact name arity ctx has named)) (found fact (name, arity) ctx)

no_data_refuses : (h : State) (answer : Result requests.Asking Refused) (fact : Seen) (name : List ℕ) (arity : ℕ) (e : Refusal) → answer ≡ Err (requests.no_data fact (name, arity)) → IsNoData fact.seer name arity e → Refuses h answer e
no_data_refuses h answer fact name arity (Raised e) is missing = subst (λ k. (answer ≡ Err (kind h k)) × HasCulprit h k) (sym missing) (is, tt)
no_data_refuses h answer fact name arity NoMemory is missing = tt

pub fact_nowhere : (h : State) (c : code.Code) (g : goals.FactGoal) (fact : Seen) (name : List ℕ) (arity : ℕ) (e : Refusal) → HasArity fact.goal arity → Some name ≡ name_of fact.goal
    → FindsSeen h g (seen_pred c fact.seer name arity) (Ok None) → IsNoData fact.seer name arity e → FindsFact h c g fact (Err e)
fact_nowhere h c g fact name arity e has named found missing ctx =
    no_data_refuses h (requests.fact_asking c g fact ctx) fact name arity e (by_functor h c g fact name arity ctx has named ∙ found fact (name, arity) ctx) missing

-- a goal without the modules in front of it
pub seen_asks : (h : State) (c : code.Code) (g : goals.FactGoal) (whole fact : Seen) (object : ℕ) (ctx : List Cell) (r : Result Asking Refusal) → whole ≡ fact → FindsFact h c g fact (Ok object)
    → Asks h (requests.asking_with g object ctx fact.goal (requests.handed_over g fact.goal)) r → Asks h (requests.fact_asking c g whole ctx) r
seen_asks h c g whole fact object ctx r same found asks =
    subst (λ answer. Asks h answer r) (sym (ap (λ s. requests.fact_asking c g s ctx) same ∙ found ctx)) asks

pub seen_refused : (h : State) (c : code.Code) (g : goals.FactGoal) (whole fact : Seen) (ctx : List Cell) (e : Refusal) → whole ≡ fact → FindsFact h c g fact (Err e) → Asks h (requests.fact_asking c g whole ctx) (Err e)
seen_refused h c g whole fact ctx e same found =
    subst (λ answer. Refuses h answer e) (sym (ap (λ s. requests.fact_asking c g s ctx) same)) (found ctx)
