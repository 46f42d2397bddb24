use Rattle.std.proofs.Common.{◌≡◌, ◌+◌, drop}
use Rattle.cp_char.specs.Characters.{run}
use Rattle.cp_lex.specs.Lexical.{goes_on}
use Rattle.cp_lex.proofs.runs.line_len.Given as goal

abbrev pub invariant-loop-at : goal.invariant-loop-at
invariant-loop-at l = l.at + run goes_on (drop l.at l.text) ≡ run goes_on l.text
