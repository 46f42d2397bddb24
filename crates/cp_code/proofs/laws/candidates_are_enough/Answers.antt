use Rattle.cp_code.proofs.Matching.{others_do_not_unify, others_are_left_out, none_find_nothing, others_are_moved_over, none_moves_to_a_failure}
use Rattle.cp_code.proofs.laws.candidates_are_enough.Goals as goal

pub returns : goal.returns
returns c = record {
  alone = others_do_not_unify;
  some = others_are_left_out;
  none = none_find_nothing;
  moves = others_are_moved_over;
  fails = none_moves_to_a_failure;
}
