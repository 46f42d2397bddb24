use Rattle.std.proofs.Common.{◌≡◌, ◌+◌, ◌≤◌, length}
use Rattle.cp_lex.specs.Tokens.{scan_from, utf8_scan}
use Rattle.cp_lex.proofs.lemmas.ScanLaws.{onto, place}
use Rattle.cp_lex.proofs.scan.scan_utf8.Given as goal

abbrev pub invariant-loop-rest : goal.invariant-loop-rest
invariant-loop-rest l = record {
  places : l.at + length l.rest ≡ length l.text;
  lines : l.line ≤ l.at + 1;
  so_far : onto l.tokens (scan_from l.before 0 (place l.at l.line) l.rest) ≡ utf8_scan l.text;
}

abbrev pub decreases-loop-rest : goal.decreases-loop-rest
decreases-loop-rest l = length l.rest
