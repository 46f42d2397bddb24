-- What goals are run by: a program as its goals see it, with a step budget.
use Rattle.std.specs.Prelude.{ℕ, Bool, List, Option}
use Rattle.cp_term.specs.declared.cell.Cell.{Cell}
use Rattle.cp_term.specs.declared.pred_name.PredName.{PredName}
use Rattle.cp_ops.specs.Table.{Ops}
use Rattle.cp_code.specs.Bodies.{Body}
use Rattle.cp_code.specs.Properties.{TypeRow}
use Rattle.cp_code.specs.Checks.{Check}

-- a clause, with its variables numbered from 0; a fact has no body
pub record Clause : Type 0 where
  pub head : List Cell
  pub body : Option Body
  pub variables : ℕ

pub data Kind : Type 0 where
  -- rules and facts, with the assertions of the predicate that are tested
  Rules : (checks : List Check) → List Clause → Kind
  -- a shared predicate, by its number among the objects; one that suspends is declared `concurrent`, another one `data`
  Shared : (object : ℕ) (suspends : Bool) → Kind
  -- a predicate of an active module
  Remote : Kind
  -- its tests, and then the predicate as it was; only instrumenting makes one
  Wrapped : (checks : List Check) (renamed : ℕ) → Kind

pub record Pred : Type 0 where
  pub name : PredName
  -- which of its arguments are goal arguments
  pub goals : List Bool
  pub kind : Kind

pub record Code : Type 0 where
  -- the program's first module
  pub first : List ℕ
  pub preds : List Pred
  -- only instrumenting makes these, and no goal names them
  pub renamed : List Pred
  -- the number of the predicate that a module sees under a name and arity: its own, an imported one, or one of the prelude
  pub sees : (seer name : List ℕ) (arity : ℕ) → Option ℕ
  pub types : List TypeRow
  -- the operators of a module at the end of its file; the standard ones where it is no module of a file
  pub ops : List ℕ → Ops
  pub budget : ℕ
