-- Seats may move to threads.
use denote.Ref.{NamedLft}
use denote.RattleType.{RattleType}
use denote.Param.Send.{IsSend, IsSync, sendable}
use Rattle.std.proofs.Crossing.{crosses}
use Rattle.cp_io.specs.declared.sink.Sink as sink
use Rattle.cp_list.proofs.reserved_list.ReservedList.TheSendSync as reserved
use Rattle.cp_call.proofs.outcome.OutEntry.TheSendSync as entry
use Rattle.cp_out.specs.contracts.port.Port as out
use Rattle.cp_turn.proofs.turnstile.Turnstile.TheSendSync as turnstile
use Rattle.cp_turn.proofs.pass.Pass.TheSendSync as pass
use Rattle.cp_turn_hall.proofs.Crossing.{object_send, hall_sync}
use Rattle.cp_turn_hall.specs.contracts.seat.HallSeat as seat
use Rattle.cp_turn_port.specs.contracts.seat.PortSeat as writer
use Rattle.cp_turn_port.specs.contracts.turnstile.TurnPort as port
use Rattle.cp_turn_port.specs.contracts.turned_port.TurnedPort as turned

pub seat_send : (α : NamedLft) (R G : RattleType) → IsSync R → IsSync G → IsSend (seat.the_row α R G)
seat_send α R G r g = search (sendable, crosses, hall_sync, object_send) depth 20

out_send : (S : RattleType) (s : sink.Ghosts S.Denot) → IsSend S → IsSend (out.the_row S s)
out_send S s h = search (sendable, crosses, reserved.the_send, entry.the_send, entry.the_field_send) depth 20

turned_send : (S : RattleType) (s : sink.Ghosts S.Denot) → IsSend S → IsSend (turned.the_row S s)
turned_send S s h = search (sendable, crosses, out_send) depth 20

port_sync : (S : RattleType) (s : sink.Ghosts S.Denot) → IsSend S → IsSync (port.the_row S s)
port_sync S s h = search (sendable, crosses, turned_send, turnstile.the_sync) depth 20

pub writer_send : (α : NamedLft) (R S : RattleType) (s : sink.Ghosts S.Denot) → IsSync R → IsSend S → IsSend (writer.the_row α R S s)
writer_send α R S s r h = search (sendable, crosses, turned_send, port_sync, pass.the_send) depth 20
