use Rattle.std.proofs.Common.{◌∙◌, ap, map, slice_get}
use Rattle.std.specs.List.{filter_map}
use Rattle.cp_link.specs.Linked.{clause_in}
use Rattle.cp_assemble.specs.Index.{places_in}
use Rattle.cp_assemble.proofs.IndexLaws.{clauses_found}
use Rattle.cp_assemble.proofs.preds.clauses_in.Goals as goal

pub returns : goal.returns
returns c =
    let f = clause_in c.args.module_name.now in
    let cs = c.args.part.now.clauses in
    let i = c.args.pred.now in
    let places = places_in c.args.index.now.places i in
    c.in_ok-own.ensures
    ∙ ap (λ xs. map f (filter_map (slice_get xs) places)) (c.as_slice-clauses.ensures ∙ c.clauses.ensures.clauses)
    ∙ ap (map f) (clauses_found cs i places (c.requires.places i))
