-- The lines of an engine in a log: `engine(NUMBER)`, `i(ITEM)` for each of its items, and `stand(parked(OBJECT))`. An item that
-- has an entry on an object or on the port names that object or the port alone, since it is the engine's next entry there.
use Rattle.std.specs.Prelude.{ℕ, Bool, true, false, List, [], ◌∷◌, ◌++◌, map}
use Rattle.cp_term.specs.declared.cell.Cell.{Cell}
use Rattle.cp_call.specs.declared.call.Call.{Call}
use Rattle.cp_call.specs.declared.call.Reply.{Reply}
use Rattle.cp_call.specs.declared.call.Reply.TheVariants as reply
use Rattle.cp_call.specs.declared.item.Item.{Item}
use Rattle.cp_call.specs.declared.item.Item.TheVariants as item
use Rattle.cp_call.specs.declared.item.RemoteCall.{RemoteCall}
use Rattle.cp_call.specs.declared.item.RemoteEnd.{RemoteEnd}
use Rattle.cp_call.specs.declared.item.RemoteEnd.TheVariants as end
use Rattle.cp_call.specs.declared.item.RemoteReply.{RemoteReply}
use Rattle.cp_call.specs.declared.item.RemoteReply.TheVariants as remote
use Rattle.cp_call.specs.declared.outcome.Stand.{Stand}
use Rattle.cp_call.specs.declared.outcome.Stand.TheVariants as stand
use Rattle.cp_call.specs.declared.outcome.EngineEnd.{EngineEnd}
use Rattle.cp_log_text.specs.Line.{functor, word, atom, number, list_parts, term_with}
use Rattle.cp_log_text.specs.History.{call_parts, limit}

-- a call that was refused as full is in no history: the item says it whole
abbrev pub asked_parts : ℕ → Call → Reply → List (List Cell)
asked_parts object c (reply.Full by count) = functor "f" 4 ∷ number object ∷ call_parts c ++ limit by ∷ number count ∷ []
asked_parts object c r = functor "a" 1 ∷ number object ∷ []

abbrev pub end_parts : RemoteEnd → List (List Cell)
end_parts end.Done = word "done" ∷ []
end_parts end.Limit = word "limit" ∷ []
end_parts (end.Ball ball) = functor "ball" 1 ∷ ball ∷ []
end_parts end.Steps = word "steps" ∷ []
end_parts end.Suspended = word "suspended" ∷ []
end_parts end.Refused = word "refused" ∷ []

abbrev pub remote_reply_parts : RemoteReply → List (List Cell)
remote_reply_parts (remote.Answers a) = functor "answers" 2 ∷ list_parts a.answers ++ end_parts a.end
remote_reply_parts remote.LinkFault = word "link_fault" ∷ []
remote_reply_parts remote.PeerEnded = word "peer_ended" ∷ []
remote_reply_parts (remote.BadReply at) = functor "bad_reply" 1 ∷ number at ∷ []
remote_reply_parts remote.NoDialer = word "no_dialer" ∷ []

abbrev pub remote_parts : RemoteCall → RemoteReply → List (List Cell)
remote_parts c r = functor "r" 5 ∷ atom c.«module» ∷ c.goal ∷ number c.limit ∷ number c.looks ∷ remote_reply_parts r

-- what lanes alone do is in no log
abbrev pub event_parts : Item → List (List Cell)
event_parts (item.Asked object c r) = asked_parts object c r
event_parts (item.Wrote bytes r) = word "w" ∷ []
event_parts (item.Remote c r) = remote_parts c r
event_parts (item.Given c) = []
event_parts (item.Answered r) = []

abbrev pub item_parts : Item → List (List Cell)
item_parts i = functor "i" 1 ∷ event_parts i

abbrev pub item_line : Item → List Cell
item_line i = term_with (item_parts i)

abbrev pub engine_parts : ℕ → List (List Cell)
engine_parts n = functor "engine" 1 ∷ number n ∷ []

-- an engine that has left is a lane, which is in no log
abbrev pub stand_parts : Stand → List (List Cell)
stand_parts (stand.Parked object) = functor "stand" 1 ∷ functor "parked" 1 ∷ number object ∷ []
stand_parts stand.Left = []

abbrev pub engine_lines : EngineEnd → List (List Cell)
engine_lines e = term_with (engine_parts e.number) ∷ map item_line e.items ++ term_with (stand_parts e.stand) ∷ []

-- the item may stand in a log
abbrev pub is_logged : Item → Bool
is_logged (item.Asked object c r) = true
is_logged (item.Wrote bytes r) = true
is_logged (item.Remote c r) = true
is_logged (item.Given c) = false
is_logged (item.Answered r) = false
