use Rattle.std.proofs.Common.{◌≡◌, ◌+◌, length}
use Rattle.cp_lex.specs.Quoted.{quoted}
use Rattle.cp_lex.specs.Steps.{finished}
use Rattle.cp_lex.proofs.quoted.quoted_at.Given as goal

abbrev pub invariant-loop-first : goal.invariant-loop-first
invariant-loop-first l = record {
  places : l.at + length l.rest ≡ length l.text;
  so_far : finished l.bytes l.bad l.at (quoted l.mark l.rest) ≡ quoted l.mark l.text;
}

abbrev pub decreases-loop-first : goal.decreases-loop-first
decreases-loop-first l = length l.rest
