-- The first element of a list.
use Rattle.std.specs.Prelude.{◌≡◌, ℕ, ◌<◌, true, List, [], ◌∷◌, length, codes}
use Rattle.std.specs.Str.{bytes_eq}
use Rattle.cp_term.specs.declared.cell.Cell.{Cell}
use Rattle.cp_term.specs.declared.cell.Cell.TheVariants.{Atom, Func}
use Rattle.cp_heap.specs.declared.reference.Ref.{Ref}
use Rattle.cp_heap.specs.State.{State, instance_at}
use Rattle.cp_goal.specs.Lists.{Spine, Proper, Partial, Improper, longer, spine}
use Rattle.cp_lists.specs.declared.step.Step.{Step}
use Rattle.cp_lists.specs.declared.step.Step.TheVariants.{Element, End, Open, Other}

abbrev pub IsAtom : List Cell → Type 0
IsAtom cells = (a : List ℕ) × (cells ≡ Atom a ∷ [])

-- a compound of two arguments
abbrev pub IsPair : List Cell → Type 0
IsPair cells = (f : List ℕ) × (rest : List Cell) × (cells ≡ Func f 2 ∷ rest)

-- a compound of two arguments with the name of lists
abbrev pub IsDotted : List Cell → Type 0
IsDotted cells = (f : List ℕ) × (rest : List Cell) × (cells ≡ Func f 2 ∷ rest) × (bytes_eq f (codes ".") ≡ true)

-- the cells are a list of this first element and what stands behind it
pub record Begins (h : State) (cells : List Cell) (head tail : Ref) : Type 0 where
  pub head_live : head.at < length h.terms
  pub tail_live : tail.at < length h.terms
  pub is : spine cells ≡ longer (instance_at h head.at) (spine (instance_at h tail.at))
  pub shorter : length (instance_at h tail.at) < length cells

abbrev pub IsStep : State → List Cell → Step → Type 0
IsStep h cells (Element head tail) = Begins h cells head tail
IsStep h cells End = spine cells ≡ Proper []
IsStep h cells Open = spine cells ≡ Partial
IsStep h cells Other = spine cells ≡ Improper

-- a list with these elements before what stands behind them
abbrev pub behind : List (List Cell) → Spine → Spine
behind [] rest = rest
behind (t ∷ ts) rest = longer t (behind ts rest)
