-- A hall may be shared by threads, and passes may move to them.
use denote.Param.Send.{IsSend, IsSync, sendable}
use Rattle.std.proofs.Crossing.{crosses}
use Rattle.cp_turn.proofs.turnstile.Turnstile.TheSendSync as turnstile
use Rattle.cp_turn.proofs.pass.Pass.TheSendSync as pass
use Rattle.cp_hall.proofs.hall.HallRow.TheSendSync as row
use Rattle.cp_turn_hall.specs.contracts.grown.GrownRow as grown
use Rattle.cp_turn_hall.specs.contracts.pass.ObjectPass as object
use Rattle.cp_turn_hall.specs.contracts.pass.HallPass as held
use Rattle.cp_turn_hall.specs.contracts.hall.TurnHall as hall

pub grown_send : IsSend grown.the_row
grown_send = search (sendable, crosses, row.the_field_send) depth 12

pub object_send : IsSend object.the_row
object_send = search (sendable, grown_send, pass.the_send) depth 12

pub held_send : IsSend held.the_row
held_send = search (sendable, crosses, object_send) depth 12

pub hall_send : IsSend hall.the_row
hall_send = search (sendable, crosses, grown_send, turnstile.the_send) depth 12

pub hall_sync : IsSync hall.the_row
hall_sync = search (sendable, crosses, grown_send, turnstile.the_sync) depth 12
