-- How a run ended, as the status and the last line tell it.
use Rattle.std.specs.Prelude.{ℕ, ◌==◌, Bool, false, ◌&&◌, cond, pos, List, [], ◌∷◌, ◌++◌, Option, Some, None, codes, slice_get}
use Rattle.std.specs.List.{list_any}
use Rattle.std.specs.Ordering.{int_eq}
use Rattle.std.specs.Str.{bytes_eq}
use Rattle.cp_term.specs.declared.cell.Cell.{Cell}
use Rattle.cp_term.specs.declared.cell.Cell.TheVariants.{Int, Atom, Func}
use Rattle.cp_ops.specs.Standard.{standard}
use Rattle.cp_ops.specs.Text.{text_of, quoting}
use Rattle.cp_call.specs.declared.call.Call.{Call}
use Rattle.cp_call.specs.declared.call.Call.TheVariants as call
use Rattle.cp_call.specs.declared.call.Reply.{Reply}
use Rattle.cp_call.specs.declared.call.Reply.TheVariants as reply
use Rattle.cp_call.specs.declared.call.ObjectName.{ObjectName}
use Rattle.cp_call.specs.declared.call.ObjectName.TheVariants as name
use Rattle.cp_call.specs.declared.item.Item.{Item}
use Rattle.cp_call.specs.declared.item.Item.TheVariants as item
use Rattle.cp_call.specs.declared.outcome.FactRow.{FactRow}
use Rattle.cp_call.specs.declared.outcome.PredEnd.{PredEnd}
use Rattle.cp_call.specs.declared.outcome.EngineEnd.{EngineEnd}
use Rattle.cp_call.specs.declared.outcome.Stand.{Stand}
use Rattle.cp_call.specs.declared.outcome.Stand.TheVariants as stand
use Rattle.cp_call.specs.declared.outcome.Outcome.{Outcome}
use Rattle.cp_code.specs.Requests.{full_name}
use Rattle.cp_top.specs.declared.run_end.RunEnd.{RunEnd}

-- a status with the last line
pub record Ending : Type 0 where
  pub status : ℕ
  pub line : List ℕ

-- an ending in memory, as it is meant
abbrev pub shown : RunEnd → Ending
shown e = record { status = e.status; line = e.line.items }

-- ---- how goal 1 ended

-- how goal 1 ended, by a fact `ended(1, How)`: the term How
abbrev pub how_in : List Cell → Option (List Cell)
how_in (Func f k ∷ Int i ∷ how) = cond (bytes_eq f (codes "ended") && k == 2 && int_eq i (pos 1)) (Some how) None
how_in _ = None

abbrev pub or_else : Option (List Cell) → Option (List Cell) → Option (List Cell)
or_else (Some how) other = Some how
or_else None other = other

abbrev pub how_among : List FactRow → Option (List Cell)
how_among [] = None
how_among (row ∷ rows) = or_else (how_in row.fact) (how_among rows)

abbrev pub facts_of : Option PredEnd → List FactRow
facts_of None = []
facts_of (Some pred) = pred.facts

-- how goal 1 ended, by the facts of `$ended`; None where it has not ended
abbrev pub how_ended : Outcome → Option (List Cell)
how_ended o = how_among (facts_of (slice_get o.preds 1))

-- ---- where goal 1 waits

abbrev pub takes_first : Call → Reply → Bool
takes_first (call.Take pattern after) (reply.Found place goal) = int_eq place (pos 1)
takes_first _ _ = false

-- an event that takes goal 1: the goal at place 1 of object 0, `$goals`
abbrev pub takes_goal_1 : Item → Bool
takes_goal_1 (item.Asked object c r) = object == 0 && takes_first c r
takes_goal_1 _ = false

abbrev pub parked_at : Stand → (other : ℕ) → ℕ
parked_at (stand.Parked object) other = object
parked_at stand.Left other = other

-- The number of the object on which the engine that took goal 1 stands parked; and that of `$goals`, where goal 1 waits
-- itself, where no such engine took it.
abbrev pub waits_on : List EngineEnd → ℕ
waits_on [] = 0
waits_on (e ∷ engines) = cond (list_any takes_goal_1 e.items) (parked_at e.stand (waits_on engines)) (waits_on engines)

abbrev pub name_of : Option PredEnd → ObjectName
name_of None = name.Goals
name_of (Some pred) = pred.name

abbrev pub waits_by_name : Outcome → ObjectName
waits_by_name o = name_of (slice_get o.preds (waits_on o.engines))

-- ---- the endings

-- the text of an object's name: a predicate is written as the term `m:q/1`
abbrev pub name_text : ObjectName → List ℕ
name_text name.Goals = codes "$goals"
name_text name.Ended = codes "$ended"
name_text (name.Pred p) = text_of quoting standard (full_name p)

abbrev pub out_of_steps : Ending
out_of_steps = record { status = 4; line = codes "{STEPS: goal 1}\n" }

abbrev pub suspended_on : ObjectName → Ending
suspended_on object = record { status = 3; line = codes "{SUSPENDED: goal 1 on " ++ name_text object ++ codes "}\n" }

abbrev pub uncaught : (ball : List Cell) → Ending
uncaught ball = record { status = 2; line = codes "{UNCAUGHT: " ++ text_of quoting standard ball ++ codes "}\n" }

abbrev pub failed : Ending
failed = record { status = 1; line = codes "{FAILED: goal 1}\n" }

abbrev pub answered : Ending
answered = record { status = 0; line = [] }

abbrev pub ending_named : List ℕ → Ending
ending_named a = cond (bytes_eq a (codes "steps")) out_of_steps (cond (bytes_eq a (codes "fail")) failed answered)

-- the ball by which goal 1 ended, where it ended by one: its How is `ball(B)`
abbrev pub ball_in : List Cell → Option (List Cell)
ball_in (Func f k ∷ ball) = cond (bytes_eq f (codes "ball") && k == 1) (Some ball) None
ball_in _ = None

abbrev pub ended_by : (ball : Option (List Cell)) → (how : List Cell) → Ending
ended_by (Some ball) how = uncaught ball
ended_by None (Atom a ∷ []) = ending_named a
ended_by None _ = answered

-- goal 1 has ended in this way
abbrev pub ending_by : List Cell → Ending
ending_by how = ended_by (ball_in how) how

abbrev pub ending_with : Option (List Cell) → Outcome → Ending
ending_with (Some how) o = ending_by how
ending_with None o = suspended_on (waits_by_name o)

-- The status and the last line of a run: 4 where goal 1 used up its steps, 3 where it has not ended, 2 where it ended by a
-- ball, 1 where it failed, and else 0.
abbrev pub ending_of : Outcome → Ending
ending_of o = ending_with (how_ended o) o
