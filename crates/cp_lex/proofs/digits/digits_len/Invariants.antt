use Rattle.std.proofs.Common.{◌≡◌, ◌+◌, drop}
use Rattle.std.specs.Char.{is_digit}
use Rattle.cp_char.specs.Characters.{run}
use Rattle.cp_lex.proofs.digits.digits_len.Given as goal

abbrev pub invariant-loop-at : goal.invariant-loop-at
invariant-loop-at l = l.at + run (λ c. is_digit c l.base) (drop l.at l.text) ≡ run (λ c. is_digit c l.base) l.text
