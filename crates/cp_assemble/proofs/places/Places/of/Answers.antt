use Rattle.std.proofs.Common.{◌++◌, ◌∙◌, ap, take}
use Rattle.cp_assemble.specs.Index.{places_of, place_by}
use Rattle.cp_assemble.proofs.IndexLaws.{noted}
use Rattle.cp_assemble.proofs.places.Places.of.Goals as goal

pub loop-at-preserved : goal.loop-at-preserved
loop-at-preserved c = λ p.
    let cs = c.args.clauses.now in
    let at = c.loop-at.at in
    c.in_ok-note.ensures p
    ∙ ap (λ xs. xs ++ place_by at c.in_ok-found.found p) (c.loop-at.invariant p)
    ∙ ap (λ o. places_of 0 (take at cs) p ++ place_by at o p) c.in_ok-found.ensures
    ∙ noted cs at p c.loop-at-test.true
