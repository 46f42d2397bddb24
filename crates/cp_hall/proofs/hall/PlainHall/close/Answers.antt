use Rattle.std.proofs.Common.{subst}
use Rattle.cp_hall.specs.Hall.{CanEnd}
use Rattle.cp_hall.proofs.Ending.{can_end}
use Rattle.cp_hall.proofs.hall.PlainHall.close.Goals as goal

pub returns : goal.returns
returns c = subst CanEnd c.self.view_is (can_end _ c.self.invariant)
