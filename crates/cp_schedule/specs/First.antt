-- That the first goal of a run was taken.
use Rattle.std.specs.Prelude.{◌≡◌, List, [], ◌∷◌, None, pos}
use Rattle.cp_term.specs.declared.cell.Cell.{Cell}
use Rattle.cp_term.specs.declared.cell.Cell.TheVariants.{Var}
use Rattle.cp_call.specs.declared.call.Call.TheVariants as call
use Rattle.cp_call.specs.declared.call.Reply.TheVariants as reply
use Rattle.cp_call.specs.declared.call.Entry.{Entry}

-- the pattern of a worker that looks for a goal
abbrev pub any_goal : List Cell
any_goal = Var 0 ∷ []

-- the history of the list of goals begins with the call that takes this goal from place 1
abbrev pub IsFirstTaken : List Cell → List Entry → Type 0
IsFirstTaken goal [] = ⊥
IsFirstTaken goal (e ∷ history) = (e.call ≡ call.Take any_goal None) × (e.reply ≡ reply.Found (pos 1) goal)
