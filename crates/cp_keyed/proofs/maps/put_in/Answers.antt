use Rattle.std.proofs.Common.{◌≡◌, sym, to_z, of_z, w64, arith}
use Rattle.std.proofs.lemmas.Int.{to_z-of_z, ints}
use Rattle.cp_keyed.proofs.Indexing.{put, undone, stands}
use Rattle.cp_keyed.proofs.maps.put_in.Goals as goal

pub returns-in-Err-clause-indexed : goal.returns-in-Err-clause-indexed
returns-in-Err-clause-indexed g c = undone g.T.Keyed.key c.args.rows.now c.insert-2.new.self c.args.spots.now c.insert.new.self c.requires.indexed c.args.key c.args.number
    c.remove.new.self (c.in_ok-clone.field-0, to_z w64 (of_z w64 c.args.number)) (c.args.key, to_z w64 (of_z w64 c.args.number)) c.requires.fresh
    (λ i. (c.in_ok-clone.ensures.cases i, to_z-of_z w64 c.args.number c.ranges.number i)) (λ i. (c.args.key, to_z-of_z w64 c.args.number c.ranges.number i))
    c.in-Err.ensures.err c.in_ok-insert.ensures.updates.0 c.remove.ensures.updates.0

pub returns-in-Ok-clause-indexed : goal.returns-in-Ok-clause-indexed
returns-in-Ok-clause-indexed g c = put g.T.Keyed.key c.args.rows.now c.insert-2.new.self c.args.spots.now c.insert.new.self c.requires.indexed c.args.key c.args.number
    c.args.row (c.in_ok-clone.field-0, to_z w64 (of_z w64 c.args.number)) (to_z w64 (of_z w64 c.args.number)) c.requires.key c.requires.fresh (omega (arith, ints, c.ranges.number))
    (λ i. (c.in_ok-clone.ensures.cases i, to_z-of_z w64 c.args.number c.ranges.number i)) (to_z-of_z w64 c.args.number c.ranges.number)
    c.in-Ok.ensures.updates.0 c.in_ok-insert.ensures.updates.0 c.insert-2.ensures.ordered

pub returns-in-Ok-clause-stands : goal.returns-in-Ok-clause-stands
returns-in-Ok-clause-stands g c = stands g.T.Keyed.key c.args.rows.now c.insert-2.new.self c.insert.new.self (c.args.key, to_z w64 (of_z w64 c.args.number)) c.args.key c.args.number (to_z w64 (of_z w64 c.args.number)) c.args.row
    (returns-in-Ok-clause-indexed g c) c.in-Ok.ensures.updates.0 (to_z-of_z w64 c.args.number c.ranges.number) c.requires.key (λ i. (c.args.key, to_z-of_z w64 c.args.number c.ranges.number i))
