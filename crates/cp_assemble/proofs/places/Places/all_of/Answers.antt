use Rattle.std.proofs.Common.{◌∙◌, ap, map}
use Rattle.cp_link.specs.Linked.{clause_in}
use Rattle.cp_assemble.specs.Index.{places_in}
use Rattle.cp_assemble.proofs.IndexLaws.{clauses_found}
use Rattle.cp_assemble.proofs.places.Places.all_of.Goals as goal

pub returns : goal.returns
returns c =
    let i = c.args.pred.now in
    c.in_ok-all.ensures
    ∙ ap (map (clause_in c.args.module_name.now)) (clauses_found c.args.clauses.now i (places_in c.args.self.now i) (c.requires i))
