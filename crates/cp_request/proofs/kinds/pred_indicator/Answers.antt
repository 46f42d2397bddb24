use Rattle.std.proofs.Common.{refl}
use Rattle.cp_code.specs.Requests.{full_name}
use Rattle.cp_request.proofs.ErrorLaws.{closed-told}
use Rattle.cp_request.proofs.kinds.pred_indicator.Goals as goal

pub returns-clause-instance : goal.returns-clause-instance
returns-clause-instance c = closed-told c.context_of.new.heap c.context_of.result (full_name c.args.pred.now) refl c.context_of.ensures.term
