-- What is seen of a term of the heap, with the bindings.
use Rattle.std.specs.Prelude.{◌≡◌, ℕ, ◌<◌, Bool, true, false, Option, Some, None, List, [], ◌∷◌, ◌++◌, length}
use Rattle.std.specs.Str.{bytes_eq}
use Rattle.cp_term.specs.declared.cell.Cell.{Cell}
use Rattle.cp_term.specs.declared.cell.Cell.TheVariants.{Atom, Func}
use Rattle.cp_term.specs.Preorder.{is_terms}
use Rattle.cp_heap.specs.declared.reference.Ref.{Ref}
use Rattle.cp_heap.specs.State.{State, instance_at}
use Rattle.cp_code.specs.Bodies.{is}

-- the name is this one
abbrev pub has_name : List ℕ → Option (List ℕ) → Bool
has_name word None = false
has_name word (Some name) = bytes_eq name word

-- a place of the heap
abbrev pub IsPlace : State → Ref → Type 0
IsPlace h r = r.at < length h.terms

-- the term is no compound of so many arguments
abbrev pub HasNoArguments : ℕ → List Cell → Type 0
HasNoArguments k cells = (f : List ℕ) (rest : List Cell) → cells ≡ Func f k ∷ rest → ⊥

-- one term, which is a compound
pub record IsCompound (cells : List Cell) : Type 0 where
  pub name : List ℕ
  pub arity : ℕ
  pub rest : List Cell
  pub shape : cells ≡ Func name arity ∷ rest
  pub term : is_terms 1 cells ≡ true

-- a compound of one argument, and its place
pub record IsUnary (h : State) (at a : Ref) : Type 0 where
  pub name : List ℕ
  pub shape : instance_at h at.at ≡ Func name 1 ∷ instance_at h a.at
  pub term : is_terms 1 (instance_at h a.at) ≡ true
  pub place : IsPlace h a

-- a compound of two arguments, and their places
pub record IsPair (h : State) (at : Ref) (p : Ref × Ref) : Type 0 where
  pub name : List ℕ
  pub shape : instance_at h at.at ≡ Func name 2 ∷ instance_at h p.0.at ++ instance_at h p.1.at
  pub first_term : is_terms 1 (instance_at h p.0.at) ≡ true
  pub second_term : is_terms 1 (instance_at h p.1.at) ≡ true
  pub first_place : IsPlace h p.0
  pub second_place : IsPlace h p.1

-- a term `M:G` whose M is an atom, with the places of M and G
pub record IsQualified (h : State) (at : Ref) (p : Ref × Ref) : Type 0 where
  pub colon : List ℕ
  pub inner : List ℕ
  pub named : is colon ":" ≡ true
  pub module_is : instance_at h p.0.at ≡ Atom inner ∷ []
  pub shape : instance_at h at.at ≡ Func colon 2 ∷ Atom inner ∷ instance_at h p.1.at
  pub goal_term : is_terms 1 (instance_at h p.1.at) ≡ true
  pub module_place : IsPlace h p.0
  pub goal_place : IsPlace h p.1
