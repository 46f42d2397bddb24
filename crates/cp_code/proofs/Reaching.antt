-- The machine comes to an answer from every state.
use Rattle.std.proofs.Common.{◌≡◌, refl, sym, ap, ◌∙◌, ℕ, zero, suc, ◌<◌, ◌≤◌, List, [], ◌∷◌, Option, Some, None, arith}
use Rattle.cp_term.specs.declared.cell.Cell.{Cell}
use Rattle.cp_call.specs.declared.item.Input.{Input}
use Rattle.cp_call.specs.declared.item.Next.{Next}
use Rattle.cp_code.specs.Code.{Code}
use Rattle.cp_code.specs.Machine.{State, move, ready, told, first_state}
use Rattle.cp_code.specs.Walk.{walk, step}
use Rattle.cp_code.specs.Laws.{Comes, MachineComesToAnAnswer, MachineComesToTheAnswer}
use Rattle.cp_code.proofs.Walks.{asks_as_the_tree}
use Rattle.cp_code.proofs.Weights.{Below, fewer_units, fewer_catches, lighter, catches, weight, move_below}

module _ (code : Code) (goal : List Cell) where
  -- what is known of the inputs behind the first one
  abbrev Goes : List Input → Type 0
  Goes [] = Unit {0}
  Goes (i ∷ more) = (st : State) → Comes code goal (told st i) more

  -- an input is taken, or there is none left
  on_input : (st : State) (inputs : List Input) (n : Next) → ready st ≡ Some n → Goes inputs → Comes code goal st inputs
  on_input st [] n e h = (1, n, ap (λ o. step code goal o (walk code goal 0) st []) e)
  on_input st (i ∷ more) n e h =
      let rest : Comes code goal (told st i) more = h st in
      (suc rest.0, rest.1, ap (λ o. step code goal o (walk code goal rest.0) st (i ∷ more)) e ∙ rest.2)

  module _ (inputs : List Input) (on : Goes inputs) where
    by_move : (st : State) → (ready st ≡ None → Comes code goal (move code goal st) inputs) → Comes code goal st inputs
    by_move st h = by_ready (ready st) refl
      where
        by_ready : (o : Option Next) → ready st ≡ o → Comes code goal st inputs
        by_ready (Some n) e = on_input st inputs n e on
        by_ready None e =
            let rest : Comes code goal (move code goal st) inputs = h e in
            (suc rest.0, rest.1, ap (λ o. step code goal o (walk code goal rest.0) st inputs) e ∙ rest.2)

    module _ (units : ℕ) (few : (st : State) → st.units < units → Comes code goal st inputs) where
      module _ (caught : ℕ) (calm : (st : State) → st.units ≤ units → catches st.frames < caught → Comes code goal st inputs) where
        -- a state below one that has as many units and catches at most
        down : (w : ℕ) (st st' : State) → st.units ≤ units → catches st.frames ≤ caught → weight code st < suc w
            → ((st' : State) → st'.units ≤ units → catches st'.frames ≤ caught → weight code st' < w → Comes code goal st' inputs)
            → Below code st.units (catches st.frames) (weight code st) st' → Comes code goal st' inputs
        down w st st' u c lt h (fewer_units a) = few st' (omega arith)
        down w st st' u c lt h (fewer_catches a b) = calm st' (omega arith) (omega arith)
        down w st st' u c lt h (lighter a b l) = h st' (omega arith) (omega arith) (omega arith)

        by_weight : (w : ℕ) (st : State) → st.units ≤ units → catches st.frames ≤ caught → weight code st < w → Comes code goal st inputs
        by_weight zero st u c lt = absurd (omega arith)
        by_weight (suc w) st u c lt = by_move st (λ e. down w st (move code goal st) u c lt (by_weight w) (move_below code goal st e))

      by_catches : (caught : ℕ) (st : State) → st.units ≤ units → catches st.frames < caught → Comes code goal st inputs
      by_catches zero st u lt = absurd (omega arith)
      by_catches (suc caught) st u lt = by_weight caught (by_catches caught) (suc (weight code st)) st u (omega arith) (omega arith)

    by_units : (units : ℕ) (st : State) → st.units < units → Comes code goal st inputs
    by_units zero st lt = absurd (omega arith)
    by_units (suc units) st lt = by_catches units (by_units units) (suc (catches st.frames)) st (omega arith) (omega arith)

  pub comes : (inputs : List Input) (st : State) → Comes code goal st inputs
  comes [] st = by_units [] tt (suc st.units) st (omega arith)
  comes (i ∷ inputs) st = by_units (i ∷ inputs) (λ st. comes inputs (told st i)) (suc st.units) st (omega arith)

pub machine_comes_to_an_answer : MachineComesToAnAnswer
machine_comes_to_an_answer code goal st inputs = comes code goal inputs st

pub machine_comes_to_the_answer : MachineComesToTheAnswer
machine_comes_to_the_answer code goal inputs =
    let c : Comes code goal (first_state code goal) inputs = comes code goal inputs (first_state code goal) in
    (c.0, c.2 ∙ ap (λ n. Some n) (sym (asks_as_the_tree code goal inputs c.0 c.1 c.2)))
