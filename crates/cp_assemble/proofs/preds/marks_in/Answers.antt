use Rattle.std.proofs.Common.{◌∙◌}
use Rattle.cp_assemble.proofs.IndexLaws.{marks_found}
use Rattle.cp_assemble.proofs.preds.marks_in.Goals as goal

pub returns : goal.returns
returns c =
    c.in_ok-marks.ensures
    ∙ c.requires.marks c.args.pred.now
    ∙ marks_found c.args.part.now.clauses c.args.pred.now
