use Rattle.std.proofs.Common.{◌+◌, ◌*◌, sum}
use Rattle.std.specs.Prelude.{vec_len}
use Rattle.cp_term.specs.Classes.{StoredJoining}
use Rattle.cp_term.proofs.classes.all_joined.Given as goal

abbrev pub invariant-loop-pair : goal.invariant-loop-pair
invariant-loop-pair l = StoredJoining l.graph l.parents l.schemas l.pairs.items

-- a merge lowers the sum of all parents, and adds at most 255 pairs
abbrev pub decreases-loop-pair : goal.decreases-loop-pair
decreases-loop-pair l = 256 * sum l.parents + vec_len l.pairs
