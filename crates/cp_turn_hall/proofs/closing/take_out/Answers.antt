use Rattle.std.proofs.Common.{◌≢◌, sym, subst}
use Rattle.std.specs.Prelude.{All}
use Rattle.cp_call.specs.declared.call.Entry.{Entry}
use Rattle.cp_turn.specs.Passes.{PassView, IsOutside, ExtendsSeen}
use Rattle.cp_hall.specs.declared.hall.HallRow.{HallRow}
use Rattle.cp_turn_hall.proofs.TakingOut.{some_places, all_outside, is_taken_out}
use Rattle.cp_turn_hall.proofs.closing.take_out.Goals as goal

pub collect-requires : goal.collect-requires
collect-requires c = some_places c.requires.last.0 c.args.turnstile c.args.hall_passes.now.items c.requires.last.1

pub close-requires-clause-own : goal.close-requires-clause-own
close-requires-clause-own c =
    subst (All (IsOutside c.args.turnstile)) (sym c.from_vec.ensures)
    (all_outside c.requires.last.0 c.args.turnstile c.args.hall_passes.now.items c.in_ok-passes.passes.items c.in_ok-passes.ensures.long c.in_ok-passes.ensures.each c.requires.last.1)

pub returns-clause-row : goal.returns-clause-row
returns-clause-row c =
    is_taken_out c.requires.last.0 c.args.turnstile c.args.hall_passes.now.items c.in_ok-passes.passes.items c.in_ok-passes.ensures.long c.in_ok-passes.ensures.each c.requires.last.1
    c.close.result c.into_row.result c.close.ensures.base
    (subst (All (ExtendsSeen (λ (e : Entry). e.caller) c.close.result.entries)) c.from_vec.ensures c.close.ensures.seen)
    (λ n nobody. c.close.ensures.others n (subst (All (λ (p : PassView Entry HallRow). p.number ≢ n)) (sym c.from_vec.ensures) nobody))
    c.into_row.ensures.row c.into_row.ensures.legal
