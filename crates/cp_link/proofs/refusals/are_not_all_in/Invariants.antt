use Rattle.std.proofs.Common.{◌≡◌, drop}
use Rattle.std.specs.Prelude.{not}
use Rattle.std.specs.List.{list_any}
use Rattle.cp_module.specs.Causes.{is_in}
use Rattle.cp_link.proofs.refusals.are_not_all_in.Given as goal

abbrev pub invariant-loop-pred : goal.invariant-loop-pred
invariant-loop-pred l = list_any (λ p. not (is_in l.exports p)) (drop l.pred-index l.preds) ≡ list_any (λ p. not (is_in l.exports p)) l.preds
