use Rattle.std.proofs.Common.{ℕ, List, ◌++◌, map, ap, ◌∙◌}
use Rattle.cp_term.specs.declared.cell.Cell.{Cell}
use Rattle.cp_call.specs.declared.call.Entry.{Entry}
use Rattle.cp_log_text.specs.Line.{line_text, lines_text, term_with}
use Rattle.cp_log_text.specs.History.{object_parts, entry_line}
use Rattle.cp_log_text.proofs.Texts.{head}
use Rattle.cp_log_text.proofs.history.put_object.Goals as goal

pub returns : goal.returns
returns c =
    let o = c.args.object.now in
    c.in_ok-put_entries.ensures
    ∙ ap (λ (es : List Entry). c.put.new.self ++ lines_text (map entry_line es)) c.as_slice.ensures
    ∙ ap (λ (t : List ℕ). t ++ lines_text (map entry_line o.history)) (c.in_ok-put.ensures ∙ ap (λ (cells : List Cell). c.args.log.now ++ line_text cells) c.in_ok-line.ensures)
    ∙ head c.args.log.now (term_with (object_parts o.name)) (map entry_line o.history)
