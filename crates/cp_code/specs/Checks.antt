-- What assertions demand of a call and of its exits.
use Rattle.std.specs.Prelude.{ℕ, Bool, true, false, not, ◌&&◌, ◌||◌, cond, List, [], ◌∷◌, Option, Some, None}
use Rattle.cp_term.specs.declared.cell.Cell.{Cell}
use Rattle.cp_code.specs.Properties.{Prop, TypeRow, holds}

pub data Kind : Type 0 where
  OfPred OfCalls OfSuccess : Kind

-- an assertion that is tested, with its number among those of its predicate
pub record Check : Type 0 where
  pub number : ℕ
  pub kind : Kind
  pub before : Prop
  pub after : Prop

abbrev pub is_pred : Kind → Bool
is_pred OfPred = true
is_pred OfCalls = false
is_pred OfSuccess = false

abbrev pub is_calls : Kind → Bool
is_calls OfPred = false
is_calls OfCalls = true
is_calls OfSuccess = false

-- the precondition of some `pred` assertion holds
abbrev pub some_pred : List TypeRow → List Check → List (List Cell) → Bool
some_pred types [] args = false
some_pred types (c ∷ cs) args = is_pred c.kind && holds types c.before args || some_pred types cs args

-- the `pred` assertions together demand that one of their preconditions holds, and each `calls` one demands its own
abbrev pub breaks : List TypeRow → List Check → Check → List (List Cell) → Bool
breaks types all c args = cond (is_pred c.kind) (not (some_pred types all args)) (is_calls c.kind && not (holds types c.before args))

-- the least number of a demand that the call breaks; the checks stand in the order of their numbers
unfoldable pub broken_call : List TypeRow → List Check → List Check → List (List Cell) → Option ℕ
broken_call types all [] args = None
broken_call types all (c ∷ cs) args = cond (breaks types all c args) (Some c.number) (broken_call types all cs args)

-- the `pred` and `success` assertions whose precondition holds at the call
unfoldable pub held : List TypeRow → List Check → List (List Cell) → List Check
held types [] args = []
held types (c ∷ cs) args = cond (not (is_calls c.kind) && holds types c.before args) (c ∷ held types cs args) (held types cs args)

-- the least number of a demand that an exit breaks
unfoldable pub broken_exit : List TypeRow → List Check → List (List Cell) → Option ℕ
broken_exit types [] args = None
broken_exit types (c ∷ cs) args = cond (holds types c.after args) (broken_exit types cs args) (Some c.number)
