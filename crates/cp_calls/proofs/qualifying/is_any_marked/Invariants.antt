use Rattle.std.proofs.Common.{◌≡◌, drop}
use Rattle.std.specs.List.{list_any}
use Rattle.cp_calls.proofs.qualifying.is_any_marked.Given as goal

abbrev pub invariant-loop-mark : goal.invariant-loop-mark
invariant-loop-mark l = list_any (λ mark. mark) l.mark-items ≡ list_any (λ mark. mark) (drop l.mark-index l.mark-items)
