use Rattle.std.proofs.Common.{replicate, sym, ◌∙◌, ap, arith, subst}
use mathlib.Core.Path.{subst₂}
use Rattle.std.proofs.lemmas.List.{length-map, nil_from_length}
use Rattle.cp_term.specs.declared.walk.Progress.TheVariants.{New}
use Rattle.cp_term.specs.CellRefs.{cell_at}
use Rattle.cp_term.specs.TermGraph.{graph_cells}
use Rattle.cp_term.specs.Walk.{Walking, all_entries}
use Rattle.cp_term.proofs.lemmas.WalkLaws.{Walking-start, Model-end}
use Rattle.cp_term.proofs.walk.is_acyclic.Goals as goal

pub loop-visit-init : goal.loop-visit-init
loop-visit-init c =
    let len = length-map c.args.graph.cells.now cell_at in
    let progress = c.in_ok-progress.ensures.items_if_clones_equal (λ y h. h) ∙ ap (λ k. replicate k New) (sym len) in
    let visits = c.in_ok-visits.ensures ∙ ap (all_entries 0) (sym len) in
    subst₂ (Walking (graph_cells c.args.graph) c.args.graph.ends.now c.args.graph.second c.args.parents.now c.args.schemas.now) (sym progress) (sym visits)
    (Walking-start (graph_cells c.args.graph) c.args.graph.ends.now c.args.graph.second c.args.parents.now c.args.schemas.now c.requires.joined)

pub returns-clause-model : goal.returns-clause-model
returns-clause-model c = λ _.
    let len = c.loop-visit.visits.ok.0 in
    let none = (rw c.in_default.is at c.pop.ensures.cases).0 in
    let empty = nil_from_length c.loop-visit.visits.items (omega arith) in
    Model-end (graph_cells c.args.graph) c.args.graph.ends.now c.args.graph.second c.loop-visit.parents c.args.schemas.now c.loop-visit.progress.items
    (subst (Walking (graph_cells c.args.graph) c.args.graph.ends.now c.args.graph.second c.loop-visit.parents c.args.schemas.now c.loop-visit.progress.items) empty c.loop-visit.invariant)
