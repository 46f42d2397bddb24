-- Which parked callers a new fact wakes.
use Rattle.std.specs.Prelude.{ℕ, ◌≡◌, cond, not, List, filter, ℤ}
use Rattle.cp_call.specs.declared.outcome.FactRow.{FactRow}
use Rattle.cp_call.specs.declared.outcome.ParkedRow.{ParkedRow}
use Rattle.cp_call.specs.Object.{callers_of, woken_by, left_parked, is_above}
use Rattle.cp_keyed.specs.Index.{AreRight, is_among}
use Rattle.cp_factindex.specs.declared.waiter.Waiter.{Waiter}
use Rattle.cp_factindex.specs.declared.waking.Woken.{Woken}
use Rattle.cp_factindex.specs.Waiting.{waiter_key}
use Rattle.cp_factindex.specs.Contents.{parked_in}

pub record IsWokenBy (f : FactRow) (rows : List (ℤ × Waiter)) (woken : Woken) : Type 0 where
  pub callers : woken.callers ≡ callers_of (woken_by f (parked_in rows))
  pub right : AreRight waiter_key rows woken.spots.items
  pub left : parked_in (filter (λ (e : ℤ × Waiter). not (is_among woken.spots.items e.0)) rows) ≡ left_parked f (parked_in rows)

-- the steps in which it is found whether a caller sees a fact
abbrev pub steps_to_see : ParkedRow → FactRow → ℕ
steps_to_see w f = cond (is_above w.after f.place) 1 0
