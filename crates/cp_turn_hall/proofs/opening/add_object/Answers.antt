use Rattle.std.proofs.Common.{◌≡◌, length, List, sym, ◌∙◌, subst}
use Rattle.cp_call.specs.declared.call.Entry.{Entry}
use Rattle.cp_turn.specs.Passes.{PassView, TurnstileView, AreFresh}
use Rattle.cp_hall.specs.declared.hall.HallRow.{HallRow}
use Rattle.cp_turn_hall.specs.Behind.{AreNew}
use Rattle.cp_turn_hall.proofs.HandingOut.{new_push}
use Rattle.cp_turn_hall.proofs.opening.add_object.Goals as goal

pub returns-clause-passes : goal.returns-clause-passes
returns-clause-passes c =
    let ps : List (PassView Entry HallRow) = c.into_vec.result.items in
    let fresh : AreFresh c.in-Ok.turnstile ps = subst (AreFresh c.in-Ok.turnstile) (sym c.into_vec.ensures.items) c.in-Ok.ensures.made.2 in
    let many : length c.args.hall_passes.now.items ≡ length ps = c.requires.passes.0 ∙ sym c.in-Ok.ensures.made.0 ∙ sym fresh.0 in (
      c.in_ok-hand_out.ensures.long ∙ c.requires.passes.0,
      subst (λ (l : List (TurnstileView HallRow)). AreNew l c.hand_out.new.hall_passes.items) (sym c.in_ok-push.ensures.items)
          (new_push c.args.turnstiles.now.items c.in-Ok.turnstile c.args.hall_passes.now.items c.hand_out.new.hall_passes.items ps c.requires.passes.1 fresh many c.in_ok-hand_out.ensures.long c.in_ok-hand_out.ensures.each),
    )
