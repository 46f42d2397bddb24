use Rattle.std.proofs.Common.{◌+◌, ◌*◌}
use Rattle.std.specs.List.{count_by}
use Rattle.std.specs.Prelude.{vec_len}
use Rattle.cp_term.specs.Walk.{is_new, StoredWalking}
use Rattle.cp_term.proofs.walk.is_acyclic.Given as goal

abbrev pub invariant-loop-visit : goal.invariant-loop-visit
invariant-loop-visit l = StoredWalking l.graph l.parents l.schemas l.progress.items l.visits.items

-- a class that is opened is new no more, and adds at most 256 visits
abbrev pub decreases-loop-visit : goal.decreases-loop-visit
decreases-loop-visit l = 257 * count_by is_new l.progress.items + vec_len l.visits
