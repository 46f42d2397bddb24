-- What a run needs of a program.
use Rattle.std.specs.Prelude.{◌≡◌, ℕ, ◌+◌, List, [], ◌∷◌, Option, Some, None}
use Rattle.cp_term.specs.declared.cell.Cell.{Cell}
use Rattle.cp_term.specs.Substitution.{Substitution}
use Rattle.cp_code.specs.declared.clause.Clause.{Clause}
use Rattle.cp_code.specs.declared.pred_info.PredInfo.{PredInfo}
use Rattle.cp_code.specs.declared.program.Program.{Program}
use Rattle.cp_code.specs.Code as code
use Rattle.cp_code.specs.Programs.{clause_of}
use Rattle.cp_code.specs.Tree as tree
use Rattle.cp_code.specs.Machine as machine
use Rattle.cp_run.specs.Shown.{rules_from}
use Rattle.cp_run.specs.Entering.{HasGoodBody}

-- each body is a goal: loading refuses a clause of which that does not hold
abbrev pub HasGoodClauses : List Clause → Type 0
HasGoodClauses [] = Unit {0}
HasGoodClauses (c ∷ cs) = HasGoodBody c × HasGoodClauses cs

abbrev pub HasGoodPreds : List PredInfo → Type 0
HasGoodPreds [] = Unit {0}
HasGoodPreds (p ∷ ps) = HasGoodClauses p.clauses × HasGoodPreds ps

abbrev pub HasGoodBodies : Program → Type 0
HasGoodBodies p = HasGoodPreds p.preds

-- the clauses of a predicate from this one on, by the first of them
abbrev pub IsRest : code.Code → (pred from : ℕ) → Option Clause → Type 0
IsRest c pred from None = rules_from c pred from ≡ []
IsRest c pred from (Some clause) = rules_from c pred from ≡ clause_of clause ∷ rules_from c pred (from + 1)

-- what is done where these clauses are to be tried
abbrev pub tries_row : List code.Clause → List Cell → List tree.Item → Substitution → ℕ → ℕ → machine.Move
tries_row cs g rest s next level = machine.tries_move cs g rest s next level
