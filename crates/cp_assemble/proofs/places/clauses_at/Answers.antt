use Rattle.std.proofs.Common.{◌++◌, ◌∙◌, ap, map, get_or, slice_get}
use Rattle.cp_link.specs.Modules.{one}
use Rattle.cp_link.specs.Linked.{clause_in}
use Rattle.cp_assemble.proofs.IndexLaws.{one_place_more}
use Rattle.cp_assemble.proofs.places.clauses_at.Goals as goal

pub loop-at-preserved : goal.loop-at-preserved
loop-at-preserved c =
    let f = clause_in c.args.module_name.now in
    let cs = c.args.clauses.now in
    let places = c.args.places.now in
    let i = c.loop-at.at-index in
    c.in_ok-push_at.ensures
    ∙ ap (λ all. all ++ map f (one (slice_get cs (get_or places i 0)))) c.loop-at.invariant
    ∙ one_place_more f cs places i 0 c.loop-at-test.true
