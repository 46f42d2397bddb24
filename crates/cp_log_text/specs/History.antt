-- The lines of a shared object in a log: `object(NAME)`, and then `h(CALLER, CALL, REPLY)` for each entry of its history.
use Rattle.std.specs.Prelude.{ℕ, ℤ, List, [], ◌∷◌, ◌++◌, map, Option, Some, None}
use Prim.Native.String.{String}
use Rattle.cp_term.specs.declared.cell.Cell.{Cell}
use Rattle.cp_call.specs.declared.call.ObjectName.{ObjectName}
use Rattle.cp_call.specs.declared.call.ObjectName.TheVariants as name
use Rattle.cp_call.specs.declared.call.Call.{Call}
use Rattle.cp_call.specs.declared.call.Call.TheVariants as call
use Rattle.cp_call.specs.declared.call.Reply.{Reply}
use Rattle.cp_call.specs.declared.call.Reply.TheVariants as reply
use Rattle.cp_call.specs.declared.call.FullBy.{FullBy}
use Rattle.cp_call.specs.declared.call.FullBy.TheVariants as by
use Rattle.cp_call.specs.declared.call.Entry.{Entry}
use Rattle.cp_call.specs.declared.outcome.PredEnd.{PredEnd}
use Rattle.cp_log_text.specs.Line.{functor, word, atom, integer, number, list_parts, term_with}

-- the cursor of a call that looks for a fact: `none`, or `at(PLACE)`
abbrev pub cursor_parts : Option ℤ → List (List Cell)
cursor_parts None = word "none" ∷ []
cursor_parts (Some p) = functor "at" 1 ∷ integer p ∷ []

abbrev pub look_parts : String → List Cell → Option ℤ → List (List Cell)
look_parts name pattern after = functor name 2 ∷ pattern ∷ cursor_parts after

abbrev pub call_parts : Call → List (List Cell)
call_parts (call.AddFront fact) = functor "add_front" 1 ∷ fact ∷ []
call_parts (call.AddBack fact) = functor "add_back" 1 ∷ fact ∷ []
call_parts (call.Next pattern after) = look_parts "next" pattern after
call_parts (call.Take pattern after) = look_parts "take" pattern after
call_parts (call.NextNb pattern after) = look_parts "next_nb" pattern after
call_parts (call.TakeNb pattern after) = look_parts "take_nb" pattern after
call_parts (call.Purge pattern) = functor "purge" 1 ∷ pattern ∷ []
call_parts (call.Replace fact) = functor "replace" 1 ∷ fact ∷ []
call_parts call.Close = word "close" ∷ []
call_parts call.Reopen = word "reopen" ∷ []
call_parts call.Leave = word "leave" ∷ []

-- the callers that a call woke, as a list of numbers
abbrev pub woken_parts : List ℕ → List (List Cell)
woken_parts woken = list_parts (map number woken)

abbrev pub limit : FullBy → List Cell
limit by.Entries = word "entries"
limit by.Cells = word "cells"
limit by.Posts = word "posts"

-- `full(BY, COUNT)` is the reply of no entry of a run: such a reply is a refusal
abbrev pub reply_parts : Reply → List (List Cell)
reply_parts (reply.Added p woken) = functor "added" 2 ∷ integer p ∷ woken_parts woken
reply_parts (reply.Found p fact) = functor "found" 2 ∷ integer p ∷ fact ∷ []
reply_parts reply.NoMore = word "no_more" ∷ []
reply_parts reply.Parked = word "parked" ∷ []
reply_parts (reply.Purged count) = functor "purged" 1 ∷ number count ∷ []
reply_parts (reply.Replaced p woken) = functor "replaced" 2 ∷ integer p ∷ woken_parts woken
reply_parts (reply.Closed woken) = functor "closed" 1 ∷ woken_parts woken
reply_parts reply.Reopened = word "reopened" ∷ []
reply_parts reply.Left = word "left" ∷ []
reply_parts reply.NotParked = word "not_parked" ∷ []
reply_parts (reply.Full by count) = functor "full" 2 ∷ limit by ∷ number count ∷ []

abbrev pub entry_parts : Entry → List (List Cell)
entry_parts e = functor "h" 3 ∷ number e.caller ∷ call_parts e.call ++ reply_parts e.reply

-- the two lists of goals have names of their own, and a predicate the name `M:N/A`
abbrev pub name_parts : ObjectName → List (List Cell)
name_parts name.Goals = word "$goals" ∷ []
name_parts name.Ended = word "$ended" ∷ []
name_parts (name.Pred p) = functor ":" 2 ∷ atom p.«module» ∷ functor "/" 2 ∷ atom p.name ∷ number p.arity ∷ []

abbrev pub object_parts : ObjectName → List (List Cell)
object_parts n = functor "object" 1 ∷ name_parts n

abbrev pub entry_line : Entry → List Cell
entry_line e = term_with (entry_parts e)

abbrev pub object_lines : PredEnd → List (List Cell)
object_lines p = term_with (object_parts p.name) ∷ map entry_line p.history
