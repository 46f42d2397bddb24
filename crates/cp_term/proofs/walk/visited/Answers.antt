use Rattle.std.proofs.Common.{◌++◌, ◌∷◌, [], arith, subst}
use Rattle.cp_term.specs.declared.walk.Visit.TheVariants.{Leave}
use Rattle.cp_term.specs.TermGraph.{graph_cells}
use Rattle.cp_term.specs.Walk.{Walking}
use Rattle.cp_term.proofs.lemmas.WalkLaws.{Walking-left, last-within, count-Done}
use Rattle.cp_term.proofs.walk.visited.Goals as goal

pub returns-in-Leave-clause-walking : goal.returns-in-Leave-clause-walking
returns-in-Leave-clause-walking c = λ _.
    let w = subst (λ v. Walking (graph_cells c.args.graph) c.args.graph.ends.now c.args.graph.second c.args.parents.now c.args.schemas.now c.args.progress.now (c.args.visits.now.items ++ v ∷ []))
    c.in-Leave.is c.requires.walking in
    Walking-left (graph_cells c.args.graph) c.args.graph.ends.now c.args.graph.second c.requires.graph c.args.parents.now c.args.schemas.now c.args.progress.now c.args.visits.now.items c.in-Leave.root w

pub returns-in-Leave-clause-less : goal.returns-in-Leave-clause-less
returns-in-Leave-clause-less c = λ _.
    let w = subst (λ v. Walking (graph_cells c.args.graph) c.args.graph.ends.now c.args.graph.second c.args.parents.now c.args.schemas.now c.args.progress.now (c.args.visits.now.items ++ v ∷ []))
    c.in-Leave.is c.requires.walking in
    let inside = last-within (graph_cells c.args.graph) c.args.graph.ends.now c.args.graph.second c.requires.graph c.args.parents.now c.args.schemas.now c.args.progress.now c.args.visits.now.items (Leave c.in-Leave.root) w in
    let len = w.progress_len in
    let less = count-Done c.args.progress.now c.in-Leave.root (omega arith) in
    omega arith
