use Rattle.std.specs.Prelude.{IsTrue}
use Rattle.cp_code.proofs.Scope.{tree_ends}
use Rattle.cp_code.proofs.laws.ends_are_named.Goals as goal

pub returns : goal.returns
returns c = λ passes code started. tree_ends (λ j. IsTrue (passes j)) code started
