use Rattle.cp_assemble.proofs.BodyLaws.{of_file}
use Rattle.cp_assemble.proofs.preds.push_preds_in.Goals as goal

pub returns-clause-bodies : goal.returns-clause-bodies
returns-clause-bodies c = of_file c.args.shared.now c.args.part.now c.clauses.ensures.accepted
