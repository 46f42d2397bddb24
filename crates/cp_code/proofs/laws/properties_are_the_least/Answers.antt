use Rattle.cp_code.proofs.Least.{depth_is_enough, has_is_its_row, has_is_least}
use Rattle.cp_code.proofs.laws.properties_are_the_least.Goals as goal

pub returns : goal.returns
returns c = record { depth = depth_is_enough; row = has_is_its_row; least = has_is_least }
