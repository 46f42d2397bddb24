use Rattle.std.proofs.Common.{ap, sym}
use Rattle.cp_assemble.specs.Index.{pred_by}
use Rattle.cp_assemble.proofs.IndexLaws.{past_end}
use Rattle.cp_assemble.proofs.places.pred_at.Goals as goal

pub returns-in-None : goal.returns-in-None
returns-in-None c = ap pred_by (sym (past_end c.args.clauses.now c.args.at c.in-None.ensures.lookup.3))
