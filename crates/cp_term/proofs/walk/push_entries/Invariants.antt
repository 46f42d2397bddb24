use Rattle.std.proofs.Common.{◌≡◌, ◌-◌, ◌++◌}
use Rattle.cp_term.specs.Walk.{entries}
use Rattle.cp_term.proofs.walk.push_entries.Given as goal

-- the visits so far and those that are left are all
abbrev pub invariant-loop-argument : goal.invariant-loop-argument
invariant-loop-argument l = l.visits.items ++ entries l.ends (l.count - l._argument) l.place ≡ l.fn.visits.items ++ entries l.ends l.count l.fn.place
