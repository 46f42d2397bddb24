use Rattle.std.proofs.Common.{◌∙◌, ap, sym, subst, w64, rules}
use Rattle.std.specs.Prelude.{ℤ, pos, ◌-ℤ◌}
use Rattle.std.proofs.lemmas.Int.{to_z-of_z}
use Rattle.cp_keyed.specs.Index.{AreAbove}
use Rattle.cp_factindex.proofs.Placing.{above_from}
use Rattle.cp_factindex.proofs.effect.goes_front.Goals as goal

pub put_front-requires-clause-front : goal.put_front-requires-clause-front
put_front-requires-clause-front g c =
    subst (λ (q : ℤ). AreAbove q c.args.contents.now.facts.rows) (sym (to_z-of_z w64 c.in_ok-place.place (search rules) ∙ (c.in_ok-place.ensures ∙ ap (λ (x : ℤ). x -ℤ pos 1) (to_z-of_z w64 c.args.contents.now.lowest (search rules)))))
    (above_from c.args.contents.now.lowest c.args.contents.now.highest c.args.contents.now.facts.rows c.requires.placed.between)
