use Rattle.std.proofs.Common.{subst, sym}
use Rattle.std.specs.Prelude.{map}
use Rattle.cp_hall.specs.Hall.{hall_object, AreLegal}
use Rattle.cp_hall.proofs.Ending.{legal_push}
use Rattle.cp_hall.proofs.hall.PlainHall.add.Goals as goal

pub invariant_of-self-2 : goal.invariant_of-self-2
invariant_of-self-2 c = subst (λ rows. AreLegal (map hall_object rows)) (sym c.in_ok-push.ensures.items) (legal_push c.self.inside.rows.items (record { name = c.args.name; pred = c.in_ok-pred.pred }) c.self.invariant c.in_ok-pred.ensures.history)
