use Rattle.std.proofs.Common.{◌≡◌, ◌-◌, ◌<◌, sym, ◌∙◌, Some, arith}
use Rattle.std.specs.Prelude.{slice_get}
use Rattle.std.proofs.lemmas.Option.{slice_get_read}
use Rattle.cp_schedule.specs.Record.{record_now}
use Rattle.cp_schedule.proofs.Picking.{awake_pick, parked_pick}
use Rattle.cp_schedule.proofs.picks.drive_pick.Goals as goal

pub is_parked-requires : goal.is_parked-requires
is_parked-requires g c =
    let within : c.args.pick - 1 < c.args.shells.now.len = omega (arith, c.len.ensures, c.if-len-number.false, c.if-number-eq0.false) in
    let there : slice_get c.args.shells.now.items (c.args.pick - 1) ≡ Some c.index.result.now = slice_get_read c.args.shells.now.items c.args.shells.now.len (c.args.pick - 1) c.index.result.now c.args.shells.now.ok.0 within c.index.ensures in
    (c.requires.ready.driven.running (c.args.pick - 1) c.index.result.now there).agrees.known

pub returns-clause-pick : goal.returns-clause-pick
returns-clause-pick g c k steps d =
    let within : c.args.pick - 1 < c.args.shells.now.len = omega (arith, c.len.ensures, c.if-len-number.false, c.if-number-eq0.false) in
    let there : slice_get c.args.shells.now.items (c.args.pick - 1) ≡ Some c.index.result.now = slice_get_read c.args.shells.now.items c.args.shells.now.len (c.args.pick - 1) c.index.result.now c.args.shells.now.ok.0 within c.index.ensures in
    let some : 0 < c.args.pick = omega (arith, c.if-number-eq0.false) in
    awake_pick g.M.Machine.code g.M.Rule.Asks.asks k c.args.shells.now.items c.args.hall.now c.args.port.now.entries steps c.args.pick c.index.result.now
    (record_now steps c.take_turn.new.shells.items c.take_turn.new.hall c.take_turn.new.port.entries)
    d c.state_invariant.ensures some there (sym c.in_ok-is_parked.ensures ∙ c.if-branch.false) (λ awake. c.in_ok-take_turn.ensures.turn k steps d awake)

pub returns-then-branch-clause-pick : goal.returns-then-branch-clause-pick
returns-then-branch-clause-pick g c k steps d =
    let within : c.args.pick - 1 < c.args.shells.now.len = omega (arith, c.len.ensures, c.if-len-number.false, c.if-number-eq0.false) in
    let there : slice_get c.args.shells.now.items (c.args.pick - 1) ≡ Some c.index.result.now = slice_get_read c.args.shells.now.items c.args.shells.now.len (c.args.pick - 1) c.index.result.now c.args.shells.now.ok.0 within c.index.ensures in
    parked_pick g.M.Machine.code g.M.Rule.Asks.asks k c.args.shells.now.items c.args.hall.now c.args.port.now.entries steps c.args.pick c.index.result.now
    d c.state_invariant.ensures there (sym c.in_ok-is_parked.ensures ∙ c.if-branch.true)
