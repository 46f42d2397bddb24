-- Which parts of a term have to be goals for the term to be a body (ISO/IEC 13211-1, 7.6.2).
use Rattle.std.specs.Prelude.{◌≡◌, ℕ, ◌+◌, ◌<◌, Bool, true, false, ◌&&◌, ◌||◌, Option, List, [], ◌∷◌, length, is_some, codes}
use Rattle.cp_heap.specs.declared.reference.Ref.{Ref}
use Rattle.cp_heap.specs.State.{State, instance_at}
use Rattle.cp_code.specs.Bodies.{body_of}
use Rattle.cp_request.specs.declared.parts.Parts.{Parts}
use Rattle.cp_request.specs.declared.parts.Parts.TheVariants.{NoGoal, Goal, One, Two}
use Rattle.cp_request.specs.Shapes.{has_name, IsPlace}

-- the term at a place is a body, as a module sees it
abbrev pub is_body_at : State → List ℕ → Ref → Bool
is_body_at h m r = is_some (body_of m (instance_at h r.at))

abbrev pub are_bodies : State → List ℕ → List Ref → Bool
are_bodies h m [] = true
are_bodies h m (r ∷ rs) = is_body_at h m r && are_bodies h m rs

-- the parts that are left, the last one first; and whether there can be a body
abbrev pub places_of : Parts → List Ref
places_of NoGoal = []
places_of Goal = []
places_of (One a) = a ∷ []
places_of (Two a b) = a ∷ b ∷ []

abbrev pub can_be_body : Parts → Bool
can_be_body NoGoal = false
can_be_body Goal = true
can_be_body (One a) = true
can_be_body (Two a b) = true

-- a conjunction, a disjunction or an implication, by its name
abbrev pub is_junction : Option (List ℕ) → Bool
is_junction name = has_name (codes ",") name || has_name (codes ";") name || has_name (codes "->") name

-- the places are there
abbrev pub ArePlaces : State → List Ref → Type 0
ArePlaces h [] = Unit {0}
ArePlaces h (r ∷ rs) = IsPlace h r × ArePlaces h rs

-- how many cells their terms have
abbrev pub cells_at : State → List Ref → ℕ
cells_at h [] = 0
cells_at h (r ∷ rs) = length (instance_at h r.at) + cells_at h rs

-- a term is a body just where these parts of it are
pub record IsMadeOf (h : State) (at : Ref) (p : Parts) : Type 0 where
  pub body : (m : List ℕ) → is_body_at h m at ≡ (can_be_body p && are_bodies h m (places_of p))
  pub places : ArePlaces h (places_of p)
  pub fewer : cells_at h (places_of p) < length (instance_at h at.at)
