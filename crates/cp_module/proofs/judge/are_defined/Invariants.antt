use Rattle.std.proofs.Common.{◌≡◌, List, drop}
use Rattle.std.specs.List.{list_any}
use Rattle.cp_read.specs.declared.clause.ReadClause.{ReadClause}
use Rattle.cp_module.specs.Above.{Knows}
use Rattle.cp_module.specs.Causes.{is_defined}
use Rattle.cp_module.proofs.judge.are_defined.Given as goal

abbrev pub invariant-loop-pred : goal.invariant-loop-pred
invariant-loop-pred l = (done : List ReadClause) → Knows l.above done → list_any (is_defined done) (drop l.pred-index l.preds) ≡ list_any (is_defined done) l.preds
