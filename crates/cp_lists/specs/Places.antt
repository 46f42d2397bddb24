-- The terms at places of a heap, and what they are as a list.
use Rattle.std.specs.Prelude.{List, map}
use Rattle.cp_term.specs.declared.cell.Cell.{Cell}
use Rattle.cp_heap.specs.declared.reference.Ref.{Ref}
use Rattle.cp_heap.specs.State.{State, instance_at, AreRefs}
use Rattle.cp_goal.specs.Lists as lists
use Rattle.cp_lists.specs.declared.spine.Spine.{Spine}
use Rattle.cp_lists.specs.declared.spine.Spine.TheVariants.{Proper, Partial, Improper}

-- the terms at these places, with all bindings
abbrev pub instances : State → List Ref → List (List Cell)
instances h places = map (λ r. instance_at h r.at) places

abbrev pub spine_at : State → Spine → lists.Spine
spine_at h (Proper places) = lists.Proper (instances h places)
spine_at h Partial = lists.Partial
spine_at h Improper = lists.Improper

abbrev pub IsLiveSpine : State → Spine → Type 0
IsLiveSpine h (Proper places) = AreRefs h places
IsLiveSpine h Partial = Unit {0}
IsLiveSpine h Improper = Unit {0}
