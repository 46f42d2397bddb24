use Rattle.std.proofs.Common.{rules}
use Rattle.cp_log_text.proofs.Parts.{same_if}
use Rattle.cp_log_text.proofs.call.add_call.Goals as goal

pub returns-in-AddFront : goal.returns-in-AddFront
returns-in-AddFront c = same_if c.add_compound.result c.args.line.now c.add_compound.new.line c.add_compound.ensures (search rules)

pub returns-in-AddBack : goal.returns-in-AddBack
returns-in-AddBack c = same_if c.add_compound-in-AddBack.result c.args.line.now c.add_compound-in-AddBack.new.line c.add_compound-in-AddBack.ensures (search rules)
