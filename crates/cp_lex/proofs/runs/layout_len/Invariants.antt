use Rattle.std.proofs.Common.{◌≡◌, ◌+◌, drop}
use Rattle.cp_char.specs.Characters.{run, is_layout}
use Rattle.cp_lex.proofs.runs.layout_len.Given as goal

abbrev pub invariant-loop-at : goal.invariant-loop-at
invariant-loop-at l = l.at + run is_layout (drop l.at l.text) ≡ run is_layout l.text
