use Rattle.std.proofs.Common.{◌≡◌, length}
use Rattle.cp_module.specs.Causes.{repeats}
use Rattle.cp_module.proofs.preds.repeat.Given as goal

abbrev pub invariant-preds : goal.invariant-preds
invariant-preds l = repeats l.rest ≡ repeats l.preds

abbrev pub decreases-preds : goal.decreases-preds
decreases-preds l = length l.rest
