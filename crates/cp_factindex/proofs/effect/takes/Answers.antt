use Rattle.std.proofs.Common.{◌∙◌, sym, w64, rules}
use Rattle.std.proofs.lemmas.Int.{to_z-of_z}
use Rattle.cp_factindex.proofs.Effects.{takes_at, change_is}
use Rattle.cp_factindex.proofs.effect.takes.Goals as goal

pub returns-in_ok-key_of-in-Some-clause-effect : goal.returns-in_ok-key_of-in-Some-clause-effect
returns-in_ok-key_of-in-Some-clause-effect g c =
    rw (to_z-of_z w64 c.in-Some.field-0.place (search rules))
    (takes_at c.args.contents.now c.requires.fresh c.args.caller c.args.pattern.now c.args.after c.args.waits c.in-Some.field-0 c.in_ok-key_of-in-Some.field-0 _ c.change_of.result
    (sym c.in-Some.is ∙ c.in_ok-place.ensures.found) (rw c.in-Some.is at c.in_ok-place.ensures.row) c.in_ok-key_of-in-Some.ensures (to_z-of_z w64 c.in-Some.field-0.place (search rules))
    (change_is c.change_of.result _ _ _ _ _ c.change_of.ensures.facts c.change_of.ensures.parked c.change_of.ensures.lowest c.change_of.ensures.highest c.change_of.ensures.is_open))
