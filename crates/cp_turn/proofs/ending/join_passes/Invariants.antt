use Rattle.std.proofs.Common.{◌≡◌, List, [], ◌++◌, length, map}
use Rattle.std.specs.Prelude.{All}
use Rattle.cp_list.specs.Lists.{own}
use Rattle.cp_turn.specs.Passes.{PassView, seen_by}
use Rattle.cp_turn.specs.Turns.{collector}
use Rattle.cp_turn.proofs.ending.join_passes.Given as goal

-- the passes that are gone from the list are those of which the seat has seen_lists
abbrev pub invariant-loop-pass : goal.invariant-loop-pass
invariant-loop-pass g l = (l.seat.table_id ≡ l.initial.seat.table_id) × (l.seat.id ≡ l.initial.seat.id)
    × ((done : List (PassView g.row.T-Entry.Denot g.row.T-Basis.Denot)) × (l.initial.passes.items ≡ l.passes.items ++ done) × (l.seat.me ≡ (collector (length done) (map seen_by done), []))
    × All (λ p. p.mine ≡ own g.T.Ledgered.by p.number p.seen) done)

abbrev pub decreases-loop-pass : goal.decreases-loop-pass
decreases-loop-pass g l = length l.passes.items
