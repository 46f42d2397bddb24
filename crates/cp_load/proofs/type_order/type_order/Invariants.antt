use Rattle.std.proofs.Common.{◌≡◌, take}
use Rattle.std.specs.Prelude.{filter}
use Rattle.cp_link.specs.Modules.{distinct}
use Rattle.cp_load.specs.Types.{is_type_in}
use Rattle.cp_load.proofs.Typing.{preds_of}
use Rattle.cp_load.proofs.type_order.type_order.Given as goal

abbrev pub invariant-loop-clause : goal.invariant-loop-clause
invariant-loop-clause l = l.order ≡ filter (is_type_in l.clauses) (distinct (preds_of (take l.clause-index l.clauses)))
