use Rattle.cp_factindex.proofs.Effects.{quits_at, stays_at, change_is}
use Rattle.cp_factindex.proofs.effect.quits.Goals as goal

pub returns-in-Some : goal.returns-in-Some
returns-in-Some c = quits_at c.args.contents.now c.requires c.args.caller c.in-Some.spot c.change_of.result (rw c.in-Some.is at c.in_ok-spot.ensures)
    (change_is c.change_of.result _ _ _ _ _ c.change_of.ensures.facts c.change_of.ensures.parked c.change_of.ensures.lowest c.change_of.ensures.highest c.change_of.ensures.is_open)

pub returns-in-None : goal.returns-in-None
returns-in-None c = stays_at c.args.contents.now c.requires c.args.caller c.only_replies.result (rw c.in-None.is at c.in_ok-spot.ensures) c.only_replies.ensures
