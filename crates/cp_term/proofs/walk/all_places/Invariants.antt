use Rattle.std.proofs.Common.{◌≡◌, ◌-◌, ◌++◌}
use Rattle.cp_term.specs.Walk.{all_entries}
use Rattle.cp_term.proofs.walk.all_places.Given as goal

-- the visits so far and those that are left are all
abbrev pub invariant-loop-place : goal.invariant-loop-place
invariant-loop-place l = l.visits.items ++ all_entries l.place (l.count - l.place) ≡ all_entries 0 l.count
