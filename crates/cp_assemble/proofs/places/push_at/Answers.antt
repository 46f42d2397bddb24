use Rattle.std.proofs.Common.{◌++◌, ◌∙◌, ap, sym, map}
use Rattle.std.proofs.lemmas.List.{append-nil}
use Rattle.cp_link.specs.Modules.{one}
use Rattle.cp_link.specs.Linked.{clause_in}
use Rattle.cp_assemble.proofs.IndexLaws.{past_end}
use Rattle.cp_assemble.proofs.places.push_at.Goals as goal

pub returns-in-None : goal.returns-in-None
returns-in-None c =
    let none = past_end c.args.clauses.now c.args.at c.in-None.ensures.lookup.3 in
    sym (append-nil c.args.all.now) ∙ ap (λ o. c.args.all.now ++ map (clause_in c.args.module_name.now) (one o)) (sym none)
