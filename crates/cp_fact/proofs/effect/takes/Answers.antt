use Rattle.std.proofs.Common.{◌≡◌, refl, length}
use Rattle.std.proofs.lemmas.Option.{slice_get_read}
use Rattle.cp_fact.specs.Contents.{state_in}
use Rattle.cp_fact.proofs.Taking.{takes_is}
use Rattle.cp_fact.proofs.effect.takes.Goals as goal

pub returns-in_ok-found-in-Some : goal.returns-in_ok-found-in-Some
returns-in_ok-found-in-Some c =
    let p = rw (c.in-Some.is, c.as_slice.ensures.value) at c.in_ok-at.ensures in
    takes_is (state_in c.args.contents.now) c.args.caller c.args.pattern.now c.args.after c.args.waits c.in-Some.at c.index.result.now c.in_ok-found-in-Some.field-0 c.change_of.result
    c.requires p.0 p.1
    (slice_get_read c.args.contents.now.facts.items (length c.args.contents.now.facts.items) c.in-Some.at c.index.result.now refl p.0 c.index.ensures)
    c.in_ok-found-in-Some.ensures c.change_of.ensures.facts c.change_of.ensures.parked c.change_of.ensures.lowest c.change_of.ensures.highest c.change_of.ensures.is_open
