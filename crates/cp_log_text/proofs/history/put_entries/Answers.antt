use Rattle.std.proofs.Common.{ℕ, List, ◌++◌, take, map, ap, ◌∙◌}
use Rattle.cp_call.specs.declared.call.Entry.{Entry}
use Rattle.cp_log_text.specs.Line.{line_text, lines_text}
use Rattle.cp_log_text.specs.History.{entry_line}
use Rattle.cp_log_text.proofs.Parts.{taken}
use Rattle.cp_log_text.proofs.Texts.{more_lines}
use Rattle.cp_log_text.proofs.history.put_entries.Goals as goal

pub entries-preserved : goal.entries-preserved
entries-preserved c =
    let xs = c.args.entries.now in
    let i = c.entries.entry-index in
    let x = c.entry-item.result in
    c.in_ok-put_entry.ensures
    ∙ ap (λ (t : List ℕ). t ++ line_text (entry_line x)) c.entries.invariant
    ∙ more_lines entry_line c.args.log.now (take i xs) x
    ∙ ap (λ (ys : List Entry). c.args.log.now ++ lines_text (map entry_line ys)) (taken xs i x c.entry-item.is c.entries-test.true)
