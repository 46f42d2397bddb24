use Rattle.std.proofs.Common.{◌∙◌}
use Rattle.cp_heap.proofs.SeenLaws.{place-is, seen-is}
use Rattle.cp_heap.proofs.heap.export.number_in.Goals as goal

pub returns-else-place-clause-number : goal.returns-else-place-clause-number
returns-else-place-clause-number c = c.in-Ok.ensures.index ∙ place-is c.args.seen.now.keys c.args.variable

pub returns-else-place-clause-seen : goal.returns-else-place-clause-seen
returns-else-place-clause-seen c = c.in-Ok.ensures.keys ∙ seen-is c.args.seen.now.keys c.args.variable
