-- What is seen of the beginning of a term.
use Rattle.std.specs.Prelude.{◌≡◌, ℕ, ◌<◌, Option, Some, None, List, [], ◌∷◌, length}
use Rattle.cp_term.specs.declared.cell.Cell.{Cell}
use Rattle.cp_term.specs.declared.cell.Cell.TheVariants.{Var, Int, Atom, Func}
use Rattle.cp_heap.specs.declared.look.Look.{Look}
use Rattle.cp_heap.specs.declared.look.Look.TheVariants.{Var as LookVar, Int as LookInt, Atom as LookAtom, Func as LookFunc}
use Rattle.cp_heap.specs.State.{State, term, found}

-- a place of a variable that is not bound
pub record IsFree (h : State) (at v : ℕ) : Type 0 where
  pub place : at < length h.terms
  pub variable : term h at ≡ Var v ∷ []
  pub unbound : found v h.trail ≡ None

-- the cells begin so; a variable is told with a place of its own
abbrev pub Shows : State → List Cell → Look → Type 0
Shows h cells (LookVar r v) = (cells ≡ Var v ∷ []) × IsFree h r.at v
Shows h cells (LookInt i) = cells ≡ Int i ∷ []
Shows h cells LookAtom = (a : List ℕ) × (cells ≡ Atom a ∷ [])
Shows h cells (LookFunc k) = (f : List ℕ) × (rest : List Cell) × (cells ≡ Func f k ∷ rest)

-- the name of the first cell
abbrev pub name_of : List Cell → Option (List ℕ)
name_of [] = None
name_of (Var v ∷ cells) = None
name_of (Int i ∷ cells) = None
name_of (Atom a ∷ cells) = Some a
name_of (Func f k ∷ cells) = Some f
