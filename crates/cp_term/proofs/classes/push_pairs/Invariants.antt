use Rattle.std.proofs.Common.{◌≡◌, ◌-◌, ◌++◌}
use Rattle.cp_term.specs.Classes.{pairs_of}
use Rattle.cp_term.proofs.classes.push_pairs.Given as goal

-- the pairs so far and those that are left are all
abbrev pub invariant-loop-argument : goal.invariant-loop-argument
invariant-loop-argument l = l.pairs.items ++ pairs_of l.ends (l.count - l._argument) l.left l.right ≡ l.fn.pairs.items ++ pairs_of l.ends l.count l.fn.left l.fn.right
