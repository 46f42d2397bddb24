use Rattle.std.proofs.Common.{ℕ, List, ◌++◌, take, map, ap, ◌∙◌}
use Rattle.cp_call.specs.declared.outcome.OutEntry.{OutEntry}
use Rattle.cp_log_text.specs.Line.{line_text, lines_text}
use Rattle.cp_log_text.specs.Port.{write_line}
use Rattle.cp_log_text.proofs.Parts.{taken}
use Rattle.cp_log_text.proofs.Texts.{more_lines}
use Rattle.cp_log_text.proofs.port.put_writes.Goals as goal

pub writes-preserved : goal.writes-preserved
writes-preserved c =
    let xs = c.args.writes.now in
    let i = c.writes.write-index in
    let x = c.write-item.result in
    c.in_ok-put_write.ensures
    ∙ ap (λ (t : List ℕ). t ++ line_text (write_line x)) c.writes.invariant
    ∙ more_lines write_line c.args.log.now (take i xs) x
    ∙ ap (λ (ys : List OutEntry). c.args.log.now ++ lines_text (map write_line ys)) (taken xs i x c.write-item.is c.writes-test.true)
