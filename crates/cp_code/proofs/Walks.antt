-- The machine walks the tree.
use Rattle.std.proofs.Common.{◌≡◌, ℕ, zero, suc, List, [], ◌∷◌, Option, Some, None, refl, ◌∙◌, arith}
use Rattle.cp_term.specs.declared.cell.Cell.{Cell}
use Rattle.cp_call.specs.declared.item.Input.{Input}
use Rattle.cp_call.specs.declared.item.Next.{Next}
use Rattle.cp_code.specs.Code.{Code}
use Rattle.cp_code.specs.Tree.{tree}
use Rattle.cp_code.specs.Machine.{State, meaning, move, ready, told, first_state}
use Rattle.cp_code.specs.Valid.{Ok as StateOk}
use Rattle.cp_code.specs.Walk.{Walker, taken, step, walk}
use Rattle.cp_code.specs.Laws.{MachineAsksAsTheTree}
use Rattle.cp_code.proofs.Moves.{move_means, still_told, first_means, ready_still, ready_answers}
use Rattle.cp_code.proofs.Kept.{move_ok, told_ok, first_ok}

module _ (code : Code) (goal : List Cell) where
  -- from here on the walker asks what its state stands for
  abbrev Right : Walker → Type 0
  Right go = (st : State) (inputs : List Input) (n : Next) → StateOk st → go st inputs ≡ Some n → meaning (tree code goal) st inputs ≡ n

  taken_right : (m : Next) (go : Walker) → Right go → (st : State) (inputs : List Input) (n : Next) → StateOk st → ready st ≡ Some m → taken m go st inputs ≡ Some n → meaning (tree code goal) st inputs ≡ n
  taken_right m go right st [] n ok is h = ready_answers code goal st m is ∙ grind arith
  taken_right m go right st (i ∷ inputs) n ok is h =
      still_told code goal i inputs st (ready_still st m is) ∙ right (told st i) inputs n (told_ok st i ok) h

  step_right : (o : Option Next) (go : Walker) → Right go → (st : State) (inputs : List Input) (n : Next) → StateOk st → ready st ≡ o → step code goal o go st inputs ≡ Some n → meaning (tree code goal) st inputs ≡ n
  step_right (Some m) go right st inputs n ok is h = taken_right m go right st inputs n ok is h
  step_right None go right st inputs n ok is h = move_means code goal inputs st ok ∙ right (move code goal st) inputs n (move_ok code goal st ok) h

  walk_right : (steps : ℕ) → Right (walk code goal steps)
  walk_right zero st inputs n ok h = absurd (grind arith)
  walk_right (suc steps) st inputs n ok h = step_right (ready st) (walk code goal steps) (walk_right steps) st inputs n ok refl h

pub asks_as_the_tree : MachineAsksAsTheTree
asks_as_the_tree = λ code goal inputs steps n h.
    first_means code goal inputs ∙ walk_right code goal steps (first_state code goal) inputs n (first_ok code goal) h
