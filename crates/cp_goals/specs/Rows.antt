-- The rows of the machine for the goals of the language that are no control.
use Rattle.std.specs.Prelude.{◌≡◌, ℕ, ◌<◌, List, length, Bool, Some, Result, Ok, Err}
use Rattle.cp_term.specs.declared.cell.Cell.{Cell}
use Rattle.cp_term.specs.declared.pred_name.PredName.{PredName}
use Rattle.cp_term.specs.Preorder.{arguments}
use Rattle.cp_goal.specs.Builtins as builtins
use Rattle.cp_heap.specs.State.{State, instance_at}
use Rattle.cp_code.specs.Code.{Code}
use Rattle.cp_code.specs.Goals as goals
use Rattle.cp_code.specs.Machine as machine
use Rattle.cp_code.specs.Requests as requests
use Rattle.cp_code.specs.Requests.{Refused, functor_of, full_name}
use Rattle.cp_request.specs.declared.asking.Asking.{Asking}
use Rattle.cp_request.specs.declared.refusal.Refusal.{Refusal}
use Rattle.cp_request.specs.declared.refusal.Refusal.TheVariants as refusal
use Rattle.cp_request.specs.Asked.{HasManner}
use Rattle.cp_request.specs.Refused.{HasCulprit}
use Rattle.cp_run.specs.Gaining.{Row}

-- a goal of this module that is no control
abbrev pub plain_row : Code → List ℕ → List Cell → Row
plain_row code m g rest s next level = machine.functor_move code m (functor_of g) g rest s next level

-- a goal of the language, whose module, name and number of arguments are given
abbrev pub builtin_row : Code → goals.Builtin → PredName → List Cell → Row
builtin_row code b p g rest s next level = machine.builtin_move code p.module b (arguments g) (full_name p) rest s next level

-- a question is asked, or an error of this kind is raised
abbrev pub asks_row : Result requests.Asking Refused → List Cell → Row
asks_row answer ctx rest s next level = machine.asks_or_raises answer ctx rest s next level

abbrev pub writes_row : List ℕ → List Cell → Row
writes_row bytes ctx rest s next level = machine.writes bytes ctx rest s next level

abbrev pub passes_row : Bool → Row
passes_row passed rest s next level = machine.passes_if passed rest s next level

abbrev pub ends_row : builtins.End → List Cell → Row
ends_row e ctx rest s next level = machine.ends_as e ctx rest level

-- a goal stands here that has, with the bindings, this name and number of arguments
pub record IsGoalOf (h : State) (p : PredName) (at : ℕ) : Type 0 where
  pub place : at < length h.terms
  pub functor : functor_of (instance_at h at) ≡ Some (p.name, p.arity)

-- the terms of an answer are there
abbrev pub HasAnswer : State → Result Asking Refusal → Type 0
HasAnswer h (Ok a) = HasManner h a.manner
HasAnswer h (Err (refusal.Raised e)) = HasCulprit h e
HasAnswer h (Err refusal.NoMemory) = Unit {0}
