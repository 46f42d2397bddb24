use Rattle.std.proofs.Common.{◌≡◌, ℕ, ◌+◌, ◌-◌, ◌≤◌, ◌<◌, [], length, None, vec_len}
use Rattle.std.specs.Prelude.{vec_capacity, slice_index_or}
use Rattle.cp_turn.specs.Passes.{PassView}
use Rattle.cp_turn.specs.Turns.{maker}
use Rattle.cp_turn.proofs.setup.split_passes.Given as goal

-- so many passes are made, and the seat may make the others
abbrev pub invariant-loop-i : goal.invariant-loop-i
invariant-loop-i g l = (l.seat.table_id ≡ l.fn.seat.table_id) × (l.i ≤ l.callers)
    × ((b : g.row.T-Basis.Denot) × (l.fn.seat.me ≡ (maker l.callers 0 b, [])) × (l.seat.me ≡ (maker (l.callers - l.i) l.i b, [])))
    × (length l.passes.items ≡ l.i) × (vec_len l.passes ≡ l.i) × (vec_capacity l.passes ≡ l.callers)
    × ((k : ℕ) (d : PassView g.row.T-Entry.Denot g.row.T-Basis.Denot) → k < l.i → slice_index_or l.passes.items k d ≡ record { table = l.fn.seat.table_id; number = k + 1; mine = []; seen = []; turns = 0; found = None; base = l.fn.seat.me.0.base })
