use Rattle.std.proofs.Common.{◌≡◌, ◌++◌, take}
use Rattle.cp_lex.proofs.quoted.spell_character.Given as goal

abbrev pub invariant-loop-b : goal.invariant-loop-b
invariant-loop-b l = l.bytes ≡ l.initial.bytes ++ take l.b-index l.encoded
