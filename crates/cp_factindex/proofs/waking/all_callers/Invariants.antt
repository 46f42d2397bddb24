use Rattle.std.proofs.Common.{◌≡◌, ◌++◌, None, length}
use Rattle.cp_call.specs.Object.{callers_of}
use Rattle.cp_counted.specs.declared.key.Key.TheVariants.{Missing}
use Rattle.cp_keyed.specs.Index.{tried}
use Rattle.cp_factindex.specs.Waiting.{waiter_key}
use Rattle.cp_factindex.specs.Contents.{parked_in}
use Rattle.cp_factindex.proofs.waking.all_callers.Given as goal

abbrev pub invariant-rows : goal.invariant-rows
invariant-rows l = callers_of (parked_in (tried waiter_key Missing None l.waiting.rows)) ≡ l.callers ++ callers_of (parked_in (tried waiter_key Missing l.cursor l.waiting.rows))

abbrev pub decreases-rows : goal.decreases-rows
decreases-rows l = length (tried waiter_key Missing l.cursor l.waiting.rows)
