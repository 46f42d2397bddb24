use Rattle.std.proofs.Common.{◌≡◌, ℕ, ◌<◌, length, vec_len}
use Rattle.std.specs.Prelude.{vec_capacity, slice_index_or}
use Rattle.cp_call.specs.declared.call.Entry.{Entry}
use Rattle.cp_turn.specs.Passes.{PassView}
use Rattle.cp_hall.specs.declared.hall.HallRow.{HallRow}
use Rattle.cp_turn_hall.specs.Behind.{HallPassView}
use Rattle.cp_turn_hall.specs.Closing.{last_pass}
use Rattle.cp_turn_hall.proofs.Half.{half}
use Rattle.cp_turn_hall.proofs.closing.collect.Given as goal

abbrev pub invariant-loop-i : goal.invariant-loop-i
invariant-loop-i l = record {
  now : l.hall_passes.items ≡ half l.i l.fn.hall_passes.items;
  len : vec_len l.out ≡ l.i;
  room : vec_capacity l.out ≡ vec_len l.fn.hall_passes;
  long : length l.out.items ≡ l.i;
  each : (k : ℕ) (d : HallPassView) (none : PassView Entry HallRow) → k < l.i → slice_index_or l.out.items k none ≡ last_pass none (slice_index_or l.fn.hall_passes.items k d);
}
