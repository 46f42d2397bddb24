use Rattle.std.proofs.Common.{sym}
use Rattle.cp_load.proofs.TermLaws.{term_is}
use Rattle.cp_load.proofs.asserted.term_with.Goals as goal

pub returns-in-Ok : goal.returns-in-Ok
returns-in-Ok c = term_is c.args.cells c.in-Ok.term (sym c.in-Ok.ensures)
