use Rattle.std.proofs.Common.{◌≡◌, ◌-◌}
use Rattle.cp_term.specs.TermGraph.{end_of}
use Rattle.cp_term.proofs.places.end_from.Given as goal

-- the terms that are left end where all of them do
abbrev pub invariant-loop-term : goal.invariant-loop-term
invariant-loop-term l = end_of l.ends (l.count - l._term) l.end ≡ end_of l.ends l.count l.at
