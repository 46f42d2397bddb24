-- A run stands for what is still to come of its goal.
use Rattle.std.proofs.Common.{◌≡◌, ℕ, List, [], ◌∷◌, ◌++◌, map, reverse, get_or, sym, ◌∙◌, ap, subst, append_assoc}
use Rattle.std.specs.Prelude.{Some, codes}
use Rattle.cp_term.specs.declared.cell.Cell.{Cell}
use Rattle.cp_term.specs.Numbering.{next_variable}
use Rattle.cp_term.specs.Substitution.{Substitution}
use Rattle.cp_heap.specs.declared.bound.Bound.{Bound}
use Rattle.cp_heap.specs.State.{bindings}
use Rattle.cp_goal.specs.Builtins.{context}
use Rattle.cp_call.specs.declared.item.Input.{Input}
use Rattle.cp_call.specs.declared.item.Next.{Next}
use Rattle.cp_code.specs.Code.{Code}
use Rattle.cp_code.specs.Laws.{FirstStateMeansTheTree, MovesKeepTheMeaning, InputsKeepTheMeaning}
use Rattle.cp_code.specs.Tree as tree_of
use Rattle.cp_code.specs.Tree.{asks, tree}
use Rattle.cp_code.specs.Machine as machine
use Rattle.cp_code.specs.Machine.{meaning, ready}
use Rattle.cp_code.specs.Valid.{Ok}
use Rattle.cp_enter.specs.Rows.{enter_row}
use Rattle.cp_run.specs.declared.frame.Frame.{Frame}
use Rattle.cp_run.specs.declared.item.Item.{Item}
use Rattle.cp_run.specs.declared.run.Run.{Run}
use Rattle.cp_run.specs.Shown.{here_of, bound, item_shown, goals_shown, frames_shown, frames_of, shown, moved}
use Rattle.cp_run.specs.Stands.{Stands}
use Rattle.cp_engine.specs.Walking.{IsWalking}

pub moved-walks : MovesKeepTheMeaning → (c : Code) (g : List Cell) (past : List Input) (r r' : Run) → IsWalking c g past r → Stands r' → shown c r' ≡ machine.move c g (shown c r) → IsWalking c g past r'
moved-walks law c g past r r' w stands e =
    let kept = law c g (shown c r) w.valid in
    record {
      stands = stands;
      valid = subst Ok (sym e) kept.0;
      left = λ inputs. ap (λ st. meaning (tree c g) st inputs) e ∙ sym (kept.1 inputs) ∙ w.left inputs;
    }

pub told-walks : InputsKeepTheMeaning → (c : Code) (g : List Cell) (past : List Input) (r r' : Run) (n : Next) (i : Input) → IsWalking c g past r → ready (shown c r) ≡ Some n → Stands r' → shown c r' ≡ machine.told (shown c r) i → IsWalking c g (past ++ i ∷ []) r'
told-walks law c g past r r' n i w is stands e =
    let kept = (law c g (shown c r) n is).1 i in
    record {
      stands = stands;
      valid = subst Ok (sym e) (kept.0 w.valid);
      left = λ inputs.
          ap (λ st. meaning (tree c g) st inputs) e ∙ sym (kept.1 inputs) ∙ w.left (i ∷ inputs) ∙ ap (asks c g) (sym (append_assoc past (i ∷ []) inputs));
    }

-- what it asks behind its inputs
pub asks-now : InputsKeepTheMeaning → (c : Code) (g : List Cell) (past : List Input) (r : Run) (n : Next) → IsWalking c g past r → ready (shown c r) ≡ Some n → n ≡ asks c g (past ++ [])
asks-now law c g past r n w is = sym (law c g (shown c r) n is).0 ∙ w.left []

-- and where it was handed one input more
pub continues : (c : Code) (g : List Cell) (past : List Input) (i : Input) (r r' : Run) → IsWalking c g past r → IsWalking c g (past ++ i ∷ []) r' → (inputs : List Input) → meaning (tree c g) (shown c r') inputs ≡ meaning (tree c g) (shown c r) (i ∷ inputs)
continues c g past i r r' w w' inputs = w'.left inputs ∙ ap (asks c g) (append_assoc past (i ∷ []) inputs) ∙ sym (w.left (i ∷ inputs))

-- ---- the first state

module _ (c : Code) (g : List Cell) where
  entering : (goal : List Cell) (extra : List (List Cell)) (ctx : List Cell) → List tree_of.Item → Substitution → ℕ → ℕ → List (List Cell) → List machine.Frame → machine.State
  entering t extra ctx gs s v u cs fs = machine.enters c.first t extra ctx gs s v 0 u cs fs

  pub first-shown : (r : Run) (at : ℕ) (extra : List (List Cell)) (ctx : List Cell) → r.goals ≡ [] ∷ [] → r.frames.items ≡ [] → r.heap.trail ≡ [] → get_or r.heap.terms at [] ≡ g → r.heap.variables ≡ next_variable g → r.units ≡ c.budget → r.copies ≡ [] → extra ≡ [] → ctx ≡ context c.first (codes "call") 1
      → moved c r 0 0 (enter_row c.first (get_or r.heap.terms at []) extra ctx) ≡ machine.first_state c g
  unfolding entering
  first-shown r at extra ctx e1 e2 e3 e4 e5 e6 e7 e8 e9 =
      let gs : goals_shown (here_of r) 0 ≡ [] = ap (λ (l : List (List Item)). map (item_shown r.heap.terms) (get_or l 0 [])) e1 in
      let s : bound (here_of r) ≡ [] = ap (λ (t : List Bound). bindings r.heap.terms t) e3 in
      let fs : frames_of c r ≡ [] = ap (λ (fs : List Frame). frames_shown c (here_of r) (reverse fs)) e2 in
      let ctx0 = context c.first (codes "call") 1 in
      ap (λ t. entering t extra ctx (goals_shown (here_of r) 0) (bound (here_of r)) r.heap.variables r.units r.copies (frames_of c r)) e4
      ∙ ap (λ x. entering g x ctx (goals_shown (here_of r) 0) (bound (here_of r)) r.heap.variables r.units r.copies (frames_of c r)) e8
      ∙ ap (λ x. entering g [] x (goals_shown (here_of r) 0) (bound (here_of r)) r.heap.variables r.units r.copies (frames_of c r)) e9
      ∙ ap (λ x. entering g [] ctx0 x (bound (here_of r)) r.heap.variables r.units r.copies (frames_of c r)) gs
      ∙ ap (λ x. entering g [] ctx0 [] x r.heap.variables r.units r.copies (frames_of c r)) s
      ∙ ap (λ x. entering g [] ctx0 [] [] x r.units r.copies (frames_of c r)) e5
      ∙ ap (λ x. entering g [] ctx0 [] [] (next_variable g) x r.copies (frames_of c r)) e6
      ∙ ap (λ x. entering g [] ctx0 [] [] (next_variable g) c.budget x (frames_of c r)) e7
      ∙ ap (λ x. entering g [] ctx0 [] [] (next_variable g) c.budget [] x) fs

  pub first-walks : FirstStateMeansTheTree → (r : Run) → Stands r → shown c r ≡ machine.first_state c g → IsWalking c g [] r
  first-walks law r stands e =
      record {
        stands = stands;
        valid = subst Ok (sym e) ((law c g).0);
        left = λ inputs. ap (λ st. meaning (tree c g) st inputs) e ∙ sym ((law c g).1 inputs);
      }
