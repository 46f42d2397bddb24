-- A goal without the modules in front of it, as places of the heap.
use Rattle.std.specs.Prelude.{ℕ, List, Option, Some, None, unwrap_or}
use Rattle.cp_heap.specs.declared.reference.Ref.{Ref}
use Rattle.cp_heap.specs.State.{State, instance_at}
use Rattle.cp_heap.specs.Looks.{name_of}
use Rattle.cp_code.specs.Bodies.{Seen}
use Rattle.cp_request.specs.declared.seen_goal.SeenGoal.{SeenGoal}
use Rattle.cp_request.specs.Shapes.{IsPlace}

-- the module that sees the goal, where this one sees the whole
abbrev pub seer_of : State → List ℕ → Option Ref → List ℕ
seer_of h m None = m
seer_of h m (Some r) = unwrap_or (name_of (instance_at h r.at)) m

abbrev pub seen_shown : State → List ℕ → SeenGoal → Seen
seen_shown h m s = record { seer = seer_of h m s.module; goal = instance_at h s.goal.at }

-- the places are there
abbrev pub HasModule : State → Option Ref → Type 0
HasModule h None = Unit {0}
HasModule h (Some r) = IsPlace h r

abbrev pub HasSeen : State → SeenGoal → Type 0
HasSeen h s = HasModule h s.module × IsPlace h s.goal
