use Rattle.std.proofs.Common.{◌∙◌, ap, sym, refl, List, to_z, of_z, w64}
use Rattle.std.specs.Prelude.{ℤ}
use Rattle.cp_keyed.specs.Index.{IndexView}
use Rattle.cp_factindex.specs.declared.waiter.Waiter.{Waiter}
use Rattle.cp_factindex.specs.Waiting.{is_caller_in}
use Rattle.cp_factindex.proofs.Parking.{roomier, places, refuses}
use Rattle.cp_factindex.proofs.waiting.Waiting.put_ahead.Goals as goal

pub invariant_of-self : goal.invariant_of-self
invariant_of-self c = roomier c.self.inside c.self.invariant c.make_room.new.numbers c.in_err-make_room.ensures.kept c.in_err-make_room.ensures.others

pub invariant_of-self-in_err-number : goal.invariant_of-self-in_err-number
invariant_of-self-in_err-number c = roomier c.self.inside c.self.invariant c.make_room.new.numbers c.in_ok-make_room.ensures.kept c.in_ok-make_room.ensures.others

pub invariant_of-self-in_err-key : goal.invariant_of-self-in_err-key
invariant_of-self-in_err-key c = roomier c.self.inside c.self.invariant c.make_room.new.numbers c.in_ok-make_room.ensures.kept c.in_ok-make_room.ensures.others

pub invariant_of-self-in-Ok : goal.invariant_of-self-in-Ok
invariant_of-self-in-Ok c = places c.self.inside c.self.invariant c.make_room.new.numbers c.put_back.new.self c.args.row.caller (to_z w64 (of_z w64 c.in_ok-number.number)) _ c.in_ok-make_room.ensures.kept c.in_ok-make_room.ensures.room
    (ap (λ (v : IndexView Waiter). is_caller_in v.rows c.args.row.caller) c.self.view_is ∙ (ap (λ (r : List (ℤ × Waiter)). is_caller_in r c.args.row.caller) c.drop_ahead.ensures.rows ∙ c.requires))
    refl c.in-Ok.ensures.rows c.in-Ok.ensures.whole

pub invariant_of-self-in-Err : goal.invariant_of-self-in-Err
invariant_of-self-in-Err c = refuses c.self.inside c.self.invariant c.make_room.new.numbers c.drop_ahead-in-Err.new.self c.in_ok-make_room.ensures.kept
    (ap (λ (v : IndexView Waiter). v.whole) c.self.view_is ∙ (c.drop_ahead.ensures.whole ∙ (sym c.drop_ahead.ensures.rows ∙ ap (λ (v : IndexView Waiter). v.rows) (sym c.self.view_is))))
    (c.drop_ahead-in-Err.ensures.rows ∙ c.in-Err.ensures.rows) (c.drop_ahead-in-Err.ensures.whole ∙ c.in-Err.ensures.rows)
