use Rattle.std.proofs.Common.{◌≡◌, ◌<◌, ◌++◌, [], length, get_or}
use Rattle.cp_code.specs.Tree.{catchers}
use Rattle.cp_run.specs.Shown.{here_of, goals_shown}
use Rattle.cp_run.proofs.run.Run.catchers.Given as goal

abbrev pub invariant-items : goal.invariant-items
invariant-items l = (l.at < length l.self.goals) × (l.catchers ++ catchers (goals_shown (here_of l.self) l.at) ≡ catchers (goals_shown (here_of l.self) l.fn.goals))

abbrev pub decreases-items : goal.decreases-items
decreases-items l = length (get_or l.self.goals l.at [])
