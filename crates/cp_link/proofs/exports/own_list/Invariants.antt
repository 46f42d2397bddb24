use Rattle.std.proofs.Common.{◌≡◌, take}
use Rattle.cp_link.specs.Modules.{own_preds}
use Rattle.cp_link.proofs.exports.own_list.Given as goal

abbrev pub invariant-loop-clause : goal.invariant-loop-clause
invariant-loop-clause l = l.all ≡ own_preds (take l.clause-index l.clauses)
