use Rattle.std.proofs.Common.{rules}
use Rattle.cp_log_text.proofs.Parts.{same_if}
use Rattle.cp_log_text.proofs.reply.add_reply.Goals as goal

pub returns-in-Replaced : goal.returns-in-Replaced
returns-in-Replaced c = same_if c.add_woken_at-in-Replaced.result c.args.line.now c.add_woken_at-in-Replaced.new.line c.add_woken_at-in-Replaced.ensures (search rules)
