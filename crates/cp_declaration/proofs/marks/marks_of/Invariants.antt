use Rattle.std.proofs.Common.{◌≡◌, ◌^◌, ◌<◌, ◌++◌, map, length}
use Rattle.cp_term.specs.Preorder.{split_terms}
use Rattle.cp_declaration.specs.Declarations.{is_goal_mark}
use Rattle.cp_declaration.proofs.marks.marks_of.Given as goal

abbrev pub invariant-terms : goal.invariant-terms
invariant-terms l = record {
  len : length l.rest < 2 ^ 32;
  marks : l.marks ++ map is_goal_mark (split_terms l.left l.rest) ≡ map is_goal_mark (split_terms l.count l.cells);
}

abbrev pub decreases-terms : goal.decreases-terms
decreases-terms l = l.left
