use Rattle.std.proofs.Common.{◌≡◌, List, length}
use Rattle.std.specs.Prelude.{sum_by}
use Rattle.cp_ops.specs.Text.{Written}
use Rattle.cp_write.specs.Writing.{style_of, resumed, awaited_by}
use Rattle.cp_write.proofs.writer.Writer.settle.Given as goal

-- what is said of the terms to come stays the same
abbrev pub invariant-loop-frame : goal.invariant-loop-frame
invariant-loop-frame l = record {
  same : (ts : List Written) → resumed (style_of l.style) l.self.frames.items (record { out = l.self.out.items; terms = ts }) ≡ resumed (style_of l.style) l.fn.self.frames.items (record { out = l.fn.self.out.items; terms = ts });
  count : sum_by awaited_by l.self.frames.items ≡ sum_by awaited_by l.fn.self.frames.items;
}

abbrev pub decreases-loop-frame : goal.decreases-loop-frame
decreases-loop-frame l = length l.self.frames.items
