use Rattle.std.proofs.Common.{◌≡◌, ◌++◌, List}
use Rattle.cp_declaration.specs.declared.indicator.Indicator.{Indicator}
use Rattle.cp_link.specs.Modules.{distinct}
use Rattle.cp_link.proofs.exports.with_each.Given as goal

abbrev pub invariant-loop-pred : goal.invariant-loop-pred
invariant-loop-pred l = (before : List Indicator) → l.initial.list ≡ distinct before → l.list ≡ distinct (before ++ l.yielded)
