-- What the engine of a lane does, one event after another: it is given a remote call, runs the call's goal and gathers its
-- answers, answers the call, and is given the next. Unlike a worker it may give up waiting.
use Rattle.std.specs.Prelude.{ℕ, zero, suc, ◌+◌, ◌-◌, ◌==◌, nat_le, ◌≡◌, ◌⊎◌, Bool, true, false, ◌&&◌, List, [], ◌∷◌, ◌++◌, length, sum_by, codes}
use Rattle.std.specs.List.{list_any}
use Rattle.std.specs.Str.{bytes_eq}
use Rattle.cp_term.specs.declared.cell.Cell.{Cell}
use Rattle.cp_term.specs.declared.cell.Cell.TheVariants.{Var, Int, Atom, Func}
use Rattle.cp_term.specs.declared.pred_name.PredName.{PredName}
use Rattle.cp_call.specs.declared.call.Call.TheVariants as call
use Rattle.cp_call.specs.declared.call.Reply.{Reply}
use Rattle.cp_call.specs.declared.call.Reply.TheVariants as reply
use Rattle.cp_call.specs.declared.item.RemoteCall.{RemoteCall}
use Rattle.cp_call.specs.declared.item.RemoteAnswers.{RemoteAnswers}
use Rattle.cp_call.specs.declared.item.RemoteEnd.{RemoteEnd}
use Rattle.cp_call.specs.declared.item.RemoteEnd.TheVariants as end
use Rattle.cp_call.specs.declared.item.How.{How}
use Rattle.cp_call.specs.declared.item.How.TheVariants as how
use Rattle.cp_call.specs.declared.item.Next.{Next}
use Rattle.cp_call.specs.declared.item.Next.TheVariants as next
use Rattle.cp_call.specs.declared.item.Input.{Input}
use Rattle.cp_call.specs.declared.item.Input.TheVariants as input
use Rattle.cp_call.specs.declared.item.Item.{Item}
use Rattle.cp_call.specs.declared.item.Item.TheVariants as item
use Rattle.cp_call.specs.Life.{Rule, IsRequest}

-- how many bytes a cell takes on the wire: a tag, and then a variable's number in 2 bytes, an integer in 8, an atom's
-- length in 2 and its bytes, or a functor's length in 2, its bytes and its arity in one
abbrev pub cell_wire_size : Cell → ℕ
cell_wire_size (Var v) = 3
cell_wire_size (Int i) = 9
cell_wire_size (Atom name) = 3 + length name
cell_wire_size (Func name arity) = 4 + length name

-- how many bytes a term takes on the wire: the number of its cells in 2 bytes, and its cells
abbrev pub wire_size_of : List Cell → ℕ
wire_size_of term = 2 + sum_by cell_wire_size term

-- a list of answers has room for one more: all of them together take at most 8,388,608 bytes on the wire
abbrev pub has_room : List (List Cell) → List Cell → Bool
has_room answers answer = nat_le (sum_by wire_size_of answers + wire_size_of answer) 8388608

-- the goal of a call, as its module sees it: `Module:Goal`
abbrev pub goal_of : RemoteCall → List Cell
goal_of c = Func (codes ":") 2 ∷ Atom c.module ∷ c.goal

-- whether it is the predicate of this module, name and arity
abbrev pub is_named : List ℕ → List ℕ → ℕ → PredName → Bool
is_named module_name name arity p = bytes_eq p.module module_name && bytes_eq p.name name && p.arity == arity

-- whether the goal of a call names one of the exported predicates
abbrev pub is_export : List PredName → List ℕ → List Cell → Bool
is_export exports module_name [] = false
is_export exports module_name (Var v ∷ cells) = false
is_export exports module_name (Int i ∷ cells) = false
is_export exports module_name (Atom name ∷ cells) = list_any (is_named module_name name 0) exports
is_export exports module_name (Func name arity ∷ cells) = list_any (is_named module_name name arity) exports

-- how the search of a remote goal ended
abbrev pub end_of : How → RemoteEnd
end_of how.Done = end.Done
end_of how.Steps = end.Steps
end_of (how.Ball ball) = end.Ball ball

-- Where a lane's engine stands between two events.
pub data LaneStage : Type 0 where
  -- it serves nobody
  Free : LaneStage
  -- it runs the goal of this call, which was handed these inputs and now makes this request; the answers so far
  Serves : (call : RemoteCall) → (inputs : List Input) → (answers : List (List Cell)) → (request : Next) → LaneStage
  -- the same, while the engine is parked with that request
  Waits : (call : RemoteCall) → (inputs : List Input) → (answers : List (List Cell)) → (request : Next) → LaneStage
  -- it answers the call
  Replies : (reply : RemoteAnswers) → LaneStage

abbrev pub replies : List (List Cell) → RemoteEnd → LaneStage
replies answers e = Replies (record { answers = answers; end = e })

-- The goal runs on until it makes a request or its call is to be answered. Each answer on the way is gathered, and one more
-- is looked for. The end is Limit at the first answer for which there is no room, be it in the number of answers that the
-- call wants (`room` is how many more these are) or in bytes; that answer is not kept, and what its search did stays done.
abbrev pub serves_on : Rule → RemoteCall → (room : ℕ) → List Input → List (List Cell) → LaneStage
serves_on rule c zero inputs answers = elim (rule (goal_of c) inputs) [
  | next.Ask object asked ↦ Serves c inputs answers (next.Ask object asked)
  | next.Put bytes ↦ Serves c inputs answers (next.Put bytes)
  | next.Remote asked ↦ Serves c inputs answers (next.Remote asked)
  | next.Answer answer ↦ replies answers end.Limit
  | next.End e ↦ replies answers (end_of e)
]
serves_on rule c (suc room) inputs answers = elim (rule (goal_of c) inputs) [
  | next.Ask object asked ↦ Serves c inputs answers (next.Ask object asked)
  | next.Put bytes ↦ Serves c inputs answers (next.Put bytes)
  | next.Remote asked ↦ Serves c inputs answers (next.Remote asked)
  | next.Answer answer ↦ elim (has_room answers answer) [
    | true ↦ serves_on rule c room (inputs ++ input.More ∷ []) (answers ++ answer ∷ [])
    | false ↦ replies answers end.Limit
  ]
  | next.End e ↦ replies answers (end_of e)
]

-- the goal of the call was handed these inputs, and has these answers so far
abbrev pub runs_on : Rule → RemoteCall → List Input → List (List Cell) → LaneStage
runs_on rule c inputs answers = serves_on rule c (c.limit - length answers) inputs answers

-- a call comes: where its goal names no export, it is refused and nothing runs
abbrev pub given : Rule → List PredName → RemoteCall → LaneStage
given rule exports c = elim (is_export exports c.module c.goal) [
  | true ↦ runs_on rule c [] []
  | false ↦ replies [] end.Refused
]

-- the goal was replied this by an object: with Parked the engine waits
abbrev pub replied : Rule → RemoteCall → List Input → List (List Cell) → Next → Reply → LaneStage
replied rule c inputs answers request reply.Parked = Waits c inputs answers request
replied rule c inputs answers request r = runs_on rule c (inputs ++ input.Reply r ∷ []) answers

-- the waiting engine asked to leave: with Left it gives up, with the answers so far; and else, since it has been woken, it
-- makes its request again
abbrev pub left : RemoteCall → List Input → List (List Cell) → Next → Reply → LaneStage
left c inputs answers request reply.Left = replies answers end.Suspended
left c inputs answers request _ = Serves c inputs answers request

-- the stage after an event
abbrev pub stage_after : Rule → List PredName → LaneStage → Item → LaneStage
stage_after rule exports Free (item.Given c) = given rule exports c
stage_after rule exports (Serves c inputs answers request) (item.Asked object asked r) = replied rule c inputs answers request r
stage_after rule exports (Serves c inputs answers request) (item.Wrote bytes r) = runs_on rule c (inputs ++ input.Put r ∷ []) answers
stage_after rule exports (Serves c inputs answers request) (item.Remote asked r) = runs_on rule c (inputs ++ input.Remote r ∷ []) answers
stage_after rule exports (Waits c inputs answers request) (item.Asked object call.Leave r) = left c inputs answers request r
stage_after rule exports (Waits c inputs answers request) (item.Asked object asked r) = replied rule c inputs answers request r
stage_after rule exports (Replies r) (item.Answered answered) = Free
stage_after rule exports s i = s

-- the stage after these events
abbrev pub last_stage : Rule → List PredName → LaneStage → List Item → LaneStage
last_stage rule exports s [] = s
last_stage rule exports s (i ∷ items) = last_stage rule exports (stage_after rule exports s i) items

-- the event is the wish to leave the object that the request is made of
abbrev pub IsLeaving : Next → Item → Type 0
IsLeaving (next.Ask object asked) (item.Asked left_object call.Leave r) = left_object ≡ object
IsLeaving request i = ⊥

-- what may happen at a stage: a call comes, the goal's request is made, a parked engine makes its request again or
-- asks to leave, or the call is answered
abbrev pub MayHappen : LaneStage → Item → Type 0
MayHappen Free (item.Given c) = Unit {0}
MayHappen (Serves c inputs answers request) i = IsRequest request i
MayHappen (Waits c inputs answers request) i = IsRequest request i ⊎ IsLeaving request i
MayHappen (Replies r) (item.Answered answered) = answered ≡ r
MayHappen s i = ⊥

-- From this stage on the events are a lane's, and at their end no call is open.
abbrev pub IsLifeFrom : Rule → List PredName → LaneStage → List Item → Type 0
IsLifeFrom rule exports s [] = s ≡ Free
IsLifeFrom rule exports s (i ∷ items) = MayHappen s i × IsLifeFrom rule exports (stage_after rule exports s i) items

-- The events are a lane's from its beginning.
abbrev pub IsLanesLife : Rule → List PredName → List Item → Type 0
IsLanesLife rule exports items = IsLifeFrom rule exports Free items
