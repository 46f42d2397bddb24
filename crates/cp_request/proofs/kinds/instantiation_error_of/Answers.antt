use Rattle.std.proofs.Common.{refl}
use Rattle.cp_goal.specs.Errors.{instantiation_error}
use Rattle.cp_request.proofs.ErrorLaws.{closed-told}
use Rattle.cp_request.proofs.kinds.instantiation_error_of.Goals as goal

pub returns-clause-kind : goal.returns-clause-kind
returns-clause-kind c = closed-told c.atom.new.heap c.atom.result instantiation_error refl c.atom.ensures.term
