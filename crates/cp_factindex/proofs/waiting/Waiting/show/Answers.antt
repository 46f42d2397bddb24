use Rattle.std.proofs.Common.{◌∙◌, ap, sym, to_z, of_z, w64, rules}
use Rattle.std.proofs.lemmas.Int.{to_z-of_z}
use Rattle.cp_factindex.specs.declared.waiting.Waiting.TheInside.{Inside}
use Rattle.cp_factindex.proofs.Parking.{shows, shows_none}
use Rattle.cp_factindex.proofs.waiting.Waiting.show.Goals as goal
use Rattle.cp_factindex.proofs.waiting.Waiting.show.Goals.{in-Some, in_default}

pub invariant_of-self : goal.invariant_of-self
invariant_of-self c = elim c.match-take.branch [
  | in-Some w ↦ shows c.self.inside c.self.invariant (w.in-Some.caller, w.in-Some.number) (to_z w64 (of_z w64 w.in-Some.number)) c.match-take.self-inside c.show.new.self (sym c.take.ensures.value ∙ w.in-Some.is)
      (to_z-of_z w64 w.in-Some.number (search rules)) (rw w.self-inside-is w.set_number.ensures) (ap (λ (x : Inside). x.rows) w.self-inside-is) (ap (λ (x : Inside). x.ahead) w.self-inside-is ∙ c.take.ensures.after)
      c.show.ensures.rows c.show.ensures.whole c.show.ensures.ascending
  | in_default w ↦ shows_none c.self.inside c.self.invariant c.match-take.self-inside c.show.new.self (sym c.take.ensures.value ∙ w.in_default.is) (ap (λ (x : Inside). x.numbers) w.self-inside-is) (ap (λ (x : Inside). x.rows) w.self-inside-is)
      (ap (λ (x : Inside). x.ahead) w.self-inside-is ∙ c.take.ensures.after) c.show.ensures.rows c.show.ensures.whole
]
