use Rattle.std.proofs.Common.{◌≡◌, List, drop}
use Rattle.std.specs.Prelude.{not}
use Rattle.std.specs.List.{list_any}
use Rattle.cp_read.specs.declared.clause.ReadClause.{ReadClause}
use Rattle.cp_module.specs.Above.{Knows}
use Rattle.cp_module.specs.Causes.{is_defined}
use Rattle.cp_module.proofs.judge.is_one_undefined.Given as goal

abbrev pub invariant-loop-pred : goal.invariant-loop-pred
invariant-loop-pred l = (done : List ReadClause) → Knows l.above done → list_any (λ p. not (is_defined done p)) (drop l.pred-index l.preds) ≡ list_any (λ p. not (is_defined done p)) l.preds
