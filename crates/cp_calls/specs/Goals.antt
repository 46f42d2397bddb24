-- What a call needs of a program and of its goal.
use Rattle.std.specs.Prelude.{◌≡◌, ℕ, List, [], ◌∷◌, length, slice_get, Some}
use Rattle.cp_term.specs.declared.cell.Cell.{Cell}
use Rattle.cp_term.specs.declared.cell.Cell.TheVariants.{Func}
use Rattle.cp_term.specs.Preorder.{arguments}
use Rattle.cp_code.specs.declared.assertion.Assertion.{Assertion}
use Rattle.cp_code.specs.declared.pred_info.PredInfo.{PredInfo}
use Rattle.cp_code.specs.declared.program.Program.{Program}
use Rattle.cp_code.specs.Programs.{prop_of}
use Rattle.cp_props.specs.Arguments.{HasArguments}

-- an assertion speaks of arguments that its predicate has
abbrev pub HasGoodCheck : Assertion → Type 0
HasGoodCheck a = HasArguments a.pred.arity (prop_of a.before) × HasArguments a.pred.arity (prop_of a.after)

abbrev pub AreGoodChecks : List Assertion → Type 0
AreGoodChecks [] = Unit {0}
AreGoodChecks (a ∷ more) = HasGoodCheck a × AreGoodChecks more

-- each assertion does: loading refuses one of which that does not hold
abbrev pub HasGoodChecks : Program → Type 0
HasGoodChecks p = AreGoodChecks p.checks

-- it has as many arguments as the predicate
abbrev pub HasPlacesFor : List Cell → ℕ → Type 0
HasPlacesFor goal k = length (arguments goal) ≡ k

-- the predicate with this number
abbrev pub IsPredAt : Program → ℕ → PredInfo → Type 0
IsPredAt p place pred = slice_get p.preds place ≡ Some pred

-- a compound with so many arguments
abbrev pub IsCompound : ℕ → List Cell → Type 0
IsCompound k cells = (f : List ℕ) × (rest : List Cell) × (cells ≡ Func f k ∷ rest)
