-- Rows of the machine for calls of predicates, their exits and the answers of remote calls.
use Rattle.std.specs.Prelude.{ℕ, suc, List, ◌∷◌}
use Rattle.cp_term.specs.declared.cell.Cell.{Cell}
use Rattle.cp_term.specs.declared.pred_name.PredName.{PredName}
use Rattle.cp_code.specs.Checks.{Check}
use Rattle.cp_code.specs.Code.{Code, Clause, Kind}
use Rattle.cp_code.specs.Requests.{RemoteFollows, functor_of, handed_out}
use Rattle.cp_code.specs.Tree as tree
use Rattle.cp_code.specs.Machine as machine
use Rattle.cp_run.specs.Gaining.{Row}

-- a goal that is no control, as it stands
abbrev pub call_row : Code → (seer : List ℕ) (goal : List Cell) → Row
call_row code m g rest s next level = machine.functor_move code m (functor_of g) g rest s next level

-- the call of a predicate of a kind
abbrev pub kind_row : Code → PredName → Kind → (goal : List Cell) → Row
kind_row code p k g rest s next level = machine.calls_kind code p k g rest s next level

-- the clauses of a predicate, behind the demands at its call
abbrev pub rules_row : Code → PredName → List Check → List Clause → (goal : List Cell) → Row
rules_row code p cs rs g rest s next level = machine.rules_move code p cs rs g rest s next level

-- clauses that are to be tried at a level that is opened for them
abbrev pub opened_row : List Clause → (goal : List Cell) → Row
opened_row rs g rest s next level units copies fs = machine.to (machine.Tries rs g rest s next (suc level)) units copies (machine.Mark (suc level) ∷ fs)

-- the same in front of the exit of a call, where these checks are tested
abbrev pub tested_row : PredName → List Check → List Clause → (goal : List Cell) → Row
tested_row p cs rs g rest s next level = opened_row rs g (tree.Exit p cs g ∷ rest) s next level

-- the call of a predicate of an active module
abbrev pub remote_row : PredName → (goal : List Cell) → Row
remote_row p g rest s next level = machine.calls_remote p g (handed_out g) rest s next level

-- the exit of a call whose success is tested; `first` is the goal of the whole run
abbrev pub exit_row : Code → (first : List Cell) → PredName → List Check → (goal : List Cell) → Row
exit_row code first p cs g rest s next level = machine.item_move code first (tree.Exit p cs g ∷ rest) s next level

-- the answers of a remote call that are still to come, and what stands behind them
abbrev pub gives_row : (answers : List (List Cell)) → RemoteFollows → (goal error_context : List Cell) → Row
gives_row answers behind g ctx rest s next level = machine.gives_move answers behind g ctx rest s next level

abbrev pub behind_row : RemoteFollows → (error_context : List Cell) → Row
behind_row behind ctx rest s next level = machine.behind_move behind ctx rest
