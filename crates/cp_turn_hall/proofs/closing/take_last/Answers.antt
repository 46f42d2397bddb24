use Rattle.std.proofs.Common.{sym, ◌∙◌, ap}
use Rattle.cp_turn_hall.specs.Behind.{HallPassView}
use Rattle.cp_turn_hall.proofs.TakingOut.{last_pass_is}
use Rattle.cp_turn_hall.proofs.closing.take_last.Goals as goal

pub returns-clause-pass : goal.returns-clause-pass
returns-clause-pass c none = last_pass_is none c.args.hall_pass.now c.pop.new.self.items c.in-Some.place (sym (ap (λ (d : HallPassView). d.places) c.hall_pass.view_is) ∙ c.in-Some.ensures.items)
