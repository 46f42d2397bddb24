use Rattle.std.proofs.Common.{◌≡◌, ◌≢◌, [], Bool, true, false, length, refl, sym, ◌∙◌, subst}
use Rattle.std.specs.Prelude.{MatchBool}
use Rattle.cp_schedule.specs.Awake.{awake_below}
use Rattle.cp_schedule.proofs.Choosing.{is_none_left}
use Rattle.cp_schedule.proofs.by_picks.are_parked.Goals as goal

pub returns : goal.returns
returns g c =
    subst (λ xs. MatchBool c.is_empty.result (xs ≡ []) (xs ≢ [])) c.in_ok-awake.ensures
    (is_none_left c.in_ok-awake.awake.items c.in_ok-awake.awake.len c.is_empty.result c.in_ok-awake.awake.ok.0 c.is_empty.ensures)
