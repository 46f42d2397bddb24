use Rattle.cp_schedule.proofs.First.{first_taken}
use Rattle.cp_schedule.proofs.laws.the_first_goal_is_taken.Goals as goal

pub returns : goal.returns
returns c = first_taken
