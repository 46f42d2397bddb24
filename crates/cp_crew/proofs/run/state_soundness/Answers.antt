use Rattle.cp_crew.specs.Crew.{GoesIfDriven, IsSoundIfParked}
use Rattle.cp_crew.proofs.Going.{if_any}
use Rattle.cp_crew.proofs.run.state_soundness.Goals as goal

pub returns-clause-going : goal.returns-clause-going
returns-clause-going g c = if_any (λ h. GoesIfDriven g.M.Machine.code g.M.Rule.Asks.asks c.args.crew.now.shells h c.args.crew.now.port.entries) c.args.crew.now.hall
    (λ h k steps driven legal only. c.crews_go_on.ensures k steps c.args.crew.now.shells h c.args.crew.now.port.entries driven legal only c.state_invariant.ensures.stays_failed)

pub returns-clause-sound : goal.returns-clause-sound
returns-clause-sound g c = if_any (λ h. IsSoundIfParked g.M.Machine.code g.M.Rule.Asks.asks c.args.crew.now.shells h c.args.crew.now.port.entries) c.args.crew.now.hall
    (λ h k steps driven legal only parked. c.resting_crews_are_sound.ensures k steps c.args.crew.now.shells h c.args.crew.now.port.entries driven legal only c.state_invariant.ensures.stays_failed parked)
