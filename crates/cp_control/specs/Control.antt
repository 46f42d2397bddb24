-- A term of the heap in the place of a goal, read by one functor at a time. Its parts are places of the heap.
use Rattle.std.specs.Prelude.{ℕ, Bool, true, false, ◌+◌, ◌<◌, ◌≤◌, Option, Some, None, List, [], take, drop, get_or, map, slice_index_or}
use Rattle.cp_term.specs.declared.cell.Cell.{Cell}
use Rattle.cp_goal.specs.Folds.{of_terms}
use Rattle.cp_heap.specs.declared.reference.Ref.{Ref}
use Rattle.cp_code.specs.Bodies.{Body, Cut, True, Fail, Both, Either, Choose, CallOf, CatchOf, ThrowOf, FindAll, Plain, two_bodies, three_bodies, Read, Arrow, NoArrow, IfThen, read_of, unread, within_module, body_of}
use Rattle.cp_control.specs.declared.control.Control.{Control}
use Rattle.cp_control.specs.declared.control.Control.TheVariants as control

-- what a term is by its condition and consequence
unfoldable pub arrow_in : List Cell → Arrow
arrow_in t = (slice_index_or (of_terms read_of t) 0 unread).arrow

-- what a term is as a part of a body
abbrev pub reading : List Cell → Read
reading t = record { cells = t; body = λ m. body_of m t; arrow = arrow_in t }

abbrev pub readings : List (List Cell) → (first count : ℕ) → List Read
readings terms first count = map reading (take count (drop first terms))

-- the body at a place, as a module sees it
abbrev pub body_at : List (List Cell) → List ℕ → Ref → Option Body
body_at terms m r = body_of m (get_or terms r.at [])

-- the body of the term at a place that was read so, as a module sees it
abbrev pub body_read : List (List Cell) → ℕ → Control → List ℕ → Option Body
body_read terms at control.Cut m = Some Cut
body_read terms at control.True m = Some True
body_read terms at control.Fail m = Some Fail
body_read terms at (control.Both a b) m = two_bodies Both (body_at terms m a) (body_at terms m b)
body_read terms at (control.Either a b) m = two_bodies Either (body_at terms m a) (body_at terms m b)
body_read terms at (control.Choose c t e) m = three_bodies Choose (body_at terms m c) (body_at terms m t) (body_at terms m e)
body_read terms at (control.IfThen c t) m = three_bodies Choose (body_at terms m c) (body_at terms m t) (Some Fail)
body_read terms at (control.Not g) m = three_bodies Choose (body_at terms m g) (Some Fail) (Some True)
body_read terms at (control.Call g first count) m = Some (CallOf m (get_or terms g.at []) (take count (drop first terms)))
body_read terms at (control.Catch g ball recovery) m = Some (CatchOf m (get_or terms g.at []) (get_or terms ball.at []) (get_or terms recovery.at []))
body_read terms at (control.Throw ball) m = Some (ThrowOf m (get_or terms ball.at []))
body_read terms at (control.FindAll x g result) m = Some (FindAll m (get_or terms x.at []) (get_or terms g.at []) (get_or terms result.at []))
body_read terms at (control.Within inner g) m = within_module (get_or terms inner.at []) (λ n. body_at terms n g)
body_read terms at control.Plain m = Some (Plain m (get_or terms at []))
body_read terms at control.NoGoal m = None

-- the condition and the consequence of an arrow
abbrev pub arrow_read : List (List Cell) → Option (Ref × Ref) → Arrow
arrow_read terms None = NoArrow
arrow_read terms (Some parts) = IfThen (λ m. body_at terms m parts.0) (λ m. body_at terms m parts.1)

-- the parts stand below the term, but for a variable, which is a goal itself
abbrev pub HasParts : ℕ → Control → Type 0
HasParts at control.Cut = Unit {0}
HasParts at control.True = Unit {0}
HasParts at control.Fail = Unit {0}
HasParts at (control.Both a b) = (a.at < at) × (b.at < at)
HasParts at (control.Either a b) = (a.at < at) × (b.at < at)
HasParts at (control.Choose c t e) = (c.at < at) × (t.at < at) × (e.at < at)
HasParts at (control.IfThen c t) = (c.at < at) × (t.at < at)
HasParts at (control.Not g) = g.at < at
HasParts at (control.Call g first count) = (g.at ≤ at) × (first + count ≤ at)
HasParts at (control.Catch g ball recovery) = (g.at < at) × (ball.at < at) × (recovery.at < at)
HasParts at (control.Throw ball) = ball.at < at
HasParts at (control.FindAll x g result) = (x.at < at) × (g.at < at) × (result.at < at)
HasParts at (control.Within inner g) = (inner.at < at) × (g.at < at)
HasParts at control.Plain = Unit {0}
HasParts at control.NoGoal = Unit {0}

abbrev pub HasArrowParts : ℕ → Option (Ref × Ref) → Type 0
HasArrowParts at None = Unit {0}
HasArrowParts at (Some parts) = (parts.0.at < at) × (parts.1.at < at)

-- it is no goal behind a module
abbrev pub IsNotWithin : Control → Type 0
IsNotWithin (control.Within inner g) = ⊥
IsNotWithin control.Cut = Unit {0}
IsNotWithin control.True = Unit {0}
IsNotWithin control.Fail = Unit {0}
IsNotWithin (control.Both a b) = Unit {0}
IsNotWithin (control.Either a b) = Unit {0}
IsNotWithin (control.Choose c t e) = Unit {0}
IsNotWithin (control.IfThen c t) = Unit {0}
IsNotWithin (control.Not g) = Unit {0}
IsNotWithin (control.Call g first count) = Unit {0}
IsNotWithin (control.Catch g ball recovery) = Unit {0}
IsNotWithin (control.Throw ball) = Unit {0}
IsNotWithin (control.FindAll x g result) = Unit {0}
IsNotWithin control.Plain = Unit {0}
IsNotWithin control.NoGoal = Unit {0}

-- it is control over goals that are its parts, or a goal of no part, and is charged
abbrev pub is_of_parts : Control → Bool
is_of_parts control.Cut = true
is_of_parts control.True = true
is_of_parts control.Fail = true
is_of_parts (control.Both a b) = false
is_of_parts (control.Either a b) = true
is_of_parts (control.Choose c t e) = true
is_of_parts (control.IfThen c t) = true
is_of_parts (control.Not g) = true
is_of_parts (control.Call g first count) = false
is_of_parts (control.Catch g ball recovery) = false
is_of_parts (control.Throw ball) = false
is_of_parts (control.FindAll x g result) = false
is_of_parts (control.Within inner g) = false
is_of_parts control.Plain = false
is_of_parts control.NoGoal = false
