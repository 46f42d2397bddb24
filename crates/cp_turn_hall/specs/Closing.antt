-- One object after another comes out from behind its turnstile, from the last to the first.
use Rattle.std.specs.Prelude.{ℕ, ◌≡◌, ◌≢◌, ◌-◌, List, [], length, take, All}
use Rattle.cp_call.specs.declared.call.Entry.{Entry}
use Rattle.cp_call.specs.Sound.{own_entries}
use Rattle.cp_call.specs.History.{Legal}
use Rattle.cp_list.specs.Lists.{IsPrefix}
use Rattle.cp_turn.specs.Passes.{PassView, TurnstileView}
use Rattle.cp_hall.specs.declared.hall.HallRow.{HallRow}
use Rattle.cp_hall.specs.Hall.{hall_object, with_entries}
use Rattle.cp_turn_hall.specs.Behind.{HallPassView, at_place}

-- the last pass of a caller, or none if there is no pass
abbrev pub last_pass : PassView Entry HallRow → HallPassView → PassView Entry HallRow
last_pass none d = at_place (λ x. x.pass) none d.places (length d.places - 1)

-- what the last pass of a caller has seen
abbrev pub last_seen : HallPassView → List Entry
last_seen d = at_place (λ x. x.pass.seen) [] d.places (length d.places - 1)

-- the passes of a caller but the last
abbrev pub without_last : HallPassView → HallPassView
without_last d = record { number = d.number; places = take (length d.places - 1) d.places }

-- An object has come out from behind its turnstile, with these entries since it was put there: they begin with what the last
-- pass of each caller has seen, have no more entries of these callers, and have none of others.
pub record IsTakenOut (turnstile : TurnstileView HallRow) (row : HallRow) (passes : List HallPassView) : Type 0 where
  pub list : List Entry
  pub row_is : hall_object row ≡ with_entries list (hall_object turnstile.base)
  pub legal : Legal row.pred.kind row.pred.opening row.pred.history
  pub seen : All (λ d. IsPrefix (last_seen d) list × (own_entries d.number list ≡ own_entries d.number (last_seen d))) passes
  pub others : (n : ℕ) → All (λ d. d.number ≢ n) passes → own_entries n list ≡ []
