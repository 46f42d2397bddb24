use Rattle.std.proofs.Common.{List, ◌++◌, ap, ◌∙◌}
use Rattle.cp_term.specs.declared.cell.Cell.{Cell}
use Rattle.cp_log_text.specs.Line.{line_text}
use Rattle.cp_log_text.proofs.history.put_entry.Goals as goal

pub returns : goal.returns
returns c = c.in_ok-put.ensures ∙ ap (λ (cells : List Cell). c.args.log.now ++ line_text cells) c.in_ok-line.ensures
