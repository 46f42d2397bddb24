use Rattle.std.proofs.Common.{◌∙◌, ap, sym, w64, rules}
use Rattle.std.proofs.lemmas.Int.{to_z-of_z}
use Rattle.cp_keyed.specs.Index.{IndexView}
use Rattle.cp_factindex.specs.declared.waiter.Waiter.{Waiter}
use Rattle.cp_factindex.proofs.Parking.{numbered_at, room_at, removes, removes_none}
use Rattle.cp_factindex.proofs.waiting.Waiting.remove.Goals as goal
use Rattle.cp_factindex.proofs.waiting.Waiting.remove.Goals.{in-Some, in_default}

pub set_number-requires : goal.set_number-requires
set_number-requires c = room_at c.self.inside.numbers c.in-Some.waiter.now.row.caller _
    (numbered_at c.self.inside.numbers c.self.inside.rows.rows _ c.in-Some.waiter.now c.self.invariant.numbered (sym (rw c.in-Some.is at c.get.ensures)))

pub invariant_of-self : goal.invariant_of-self
invariant_of-self c =
    let fresh = ap (λ (v : IndexView Waiter). v.whole) c.self.view_is ∙ (c.show.ensures.whole ∙ (sym c.show.ensures.rows ∙ ap (λ (v : IndexView Waiter). v.rows) (sym c.self.view_is))) in
    elim c.match-get.branch [
      | in-Some w ↦ removes c.self.inside c.self.invariant c.args.spot.now.1 _ w.in-Some.waiter.now w.set_number.new.numbers c.match-get.self-inside c.remove.new.self fresh (to_z-of_z w64 c.args.spot.now.1 (search rules)) (sym (rw w.in-Some.is at c.get.ensures)) w.set_number.ensures w.self-inside-is c.remove.ensures.rows c.remove.ensures.whole
      | in_default w ↦ removes_none c.self.inside c.self.invariant c.args.spot.now.1 _ c.match-get.self-inside c.remove.new.self fresh (to_z-of_z w64 c.args.spot.now.1 (search rules)) (sym (rw w.in_default.is at c.get.ensures)) w.self-inside-is c.remove.ensures.rows c.remove.ensures.whole
    ]
