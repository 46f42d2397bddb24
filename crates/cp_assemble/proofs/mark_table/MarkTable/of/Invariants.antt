use Rattle.std.proofs.Common.{◌≡◌, take}
use Rattle.cp_declaration.specs.declared.indicator.Indicator.{Indicator as Pred}
use Rattle.cp_assemble.specs.Index.{marks_of, marks_among}
use Rattle.cp_assemble.proofs.mark_table.MarkTable.of.Given as goal

abbrev pub invariant-loop-marking : goal.invariant-loop-marking
invariant-loop-marking l = (p : Pred) → marks_of l.table p ≡ marks_among (take l.marking-index l.markings) p
