use Rattle.cp_run.proofs.GrowthLaws.{first-is}
use Rattle.cp_run.proofs.run.Run.first_item.Goals as goal

pub returns-in_ok-item-in-Some : goal.returns-in_ok-item-in-Some
returns-in_ok-item-in-Some c =
    let both = first-is c.args.self.now c.args.goals c.in-Some.rest c.in-Some.item.now c.in_ok-item-in-Some.item c.requires.holds c.requires.goals c.in-Some.ensures.1 c.in_ok-item-in-Some.ensures in
    (both.0, c.in-Some.ensures.0, both.1)
