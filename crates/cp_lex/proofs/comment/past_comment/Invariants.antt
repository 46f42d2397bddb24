use Rattle.std.proofs.Common.{◌≡◌, ◌+◌, drop}
use Rattle.std.specs.Prelude.{option_map}
use Rattle.cp_lex.specs.Lexical.{past_comment}
use Rattle.cp_lex.proofs.comment.past_comment.Given as goal

abbrev pub invariant-loop-at : goal.invariant-loop-at
invariant-loop-at l = option_map (λ n. l.at + n) (past_comment (drop l.at l.text)) ≡ past_comment l.text
