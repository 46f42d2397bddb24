use denote.Param.Send.{sendable}
use Rattle.cp_list.proofs.list_of.ListOf.TheSendSync as list
use Rattle.cp_turn_hall.proofs.Crossing.{held_send, hall_send, hall_sync}
use Rattle.cp_turn_hall.proofs.hall.crosses_threads.Goals as goal

pub is_shared-requires-sync-X : goal.is_shared-requires-sync-X
is_shared-requires-sync-X c κs = search (sendable, hall_sync)

pub moves-requires-send-X : goal.moves-requires-send-X
moves-requires-send-X c κs = search (sendable, hall_send)

pub moves-requires-2-send-X : goal.moves-requires-2-send-X
moves-requires-2-send-X c κs = search (sendable, held_send)

pub moves-requires-3-send-X : goal.moves-requires-3-send-X
moves-requires-3-send-X c κs = search (sendable, held_send, list.the_send)
