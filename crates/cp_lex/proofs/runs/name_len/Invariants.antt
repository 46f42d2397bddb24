use Rattle.std.proofs.Common.{◌≡◌, ◌+◌, drop}
use Rattle.cp_char.specs.Characters.{run, is_alphanumeric}
use Rattle.cp_lex.proofs.runs.name_len.Given as goal

abbrev pub invariant-loop-at : goal.invariant-loop-at
invariant-loop-at l = l.at + run is_alphanumeric (drop l.at l.text) ≡ run is_alphanumeric l.text
