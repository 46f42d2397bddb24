use Rattle.std.proofs.Common.{rules, ◌≡◌}
use Rattle.cp_turn_port.specs.Port.{turned_entries}
use Rattle.cp_turn_port.proofs.Writing.{found_is, lengthened}
use Rattle.cp_turn_port.proofs.seat.PortSeatWriter.write.Goals as goal

pub leave-requires-clause-inside : goal.leave-requires-clause-inside
leave-requires-clause-inside g c =
    let same : c.args.engine ≡ c.enter-turned.new.pass.number = search rules in
    let found = turned_entries c.enter-turned.result in
    let now = turned_entries c.put-reply.new.self in (
      found,
      found_is c.enter-turned.new.pass _ c.enter-turned.ensures.pass,
      lengthened c.put-reply.result c.args.engine c.enter-turned.new.pass.number c.args.bytes.now found now same c.put-reply.ensures.entry c.put-reply.ensures.err,
    )
