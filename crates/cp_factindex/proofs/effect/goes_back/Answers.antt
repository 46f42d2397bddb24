use Rattle.std.proofs.Common.{◌∙◌, ap, sym, refl, subst, to_z, of_z, w64, rules}
use Rattle.std.specs.Prelude.{ℤ, pos, ◌+ℤ◌}
use Rattle.std.proofs.lemmas.Int.{to_z-of_z}
use Rattle.cp_keyed.specs.Index.{AreBelow}
use Rattle.cp_factindex.proofs.Placing.{below_from}
use Rattle.cp_factindex.proofs.Effects.{goes_back_at}
use Rattle.cp_factindex.proofs.effect.goes_back.Goals as goal

pub put_back-requires-clause-back : goal.put_back-requires-clause-back
put_back-requires-clause-back g c =
    subst (λ (q : ℤ). AreBelow q c.args.contents.now.facts.rows) (sym (to_z-of_z w64 c.in_ok-place.place (search rules) ∙ (c.in_ok-place.ensures ∙ ap (λ (x : ℤ). x +ℤ pos 1) (to_z-of_z w64 c.args.contents.now.highest (search rules)))))
    (below_from c.args.contents.now.lowest c.args.contents.now.highest c.args.contents.now.facts.rows c.requires.placed.between)

pub returns-clause-effect : goal.returns-clause-effect
returns-clause-effect g c =
    let p = to_z w64 (of_z w64 c.in_ok-place.place) in
    rw (to_z-of_z w64 c.args.contents.now.lowest (search rules))
    (goes_back_at c.args.contents.now c.requires.fresh c.put_back.new.self c.args.fact.now c.in_ok-copy.field-0 c.in_ok-callers.field-0 p p
    (to_z-of_z w64 c.in_ok-place.place (search rules) ∙ (c.in_ok-place.ensures ∙ ap (λ (x : ℤ). x +ℤ pos 1) (to_z-of_z w64 c.args.contents.now.highest (search rules))))
    c.in_ok-copy.ensures refl c.in_ok-callers.ensures.woken c.in_ok-put_back.ensures.whole)
