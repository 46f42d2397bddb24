use Rattle.std.proofs.Common.{◌+◌, length, get_or, set, ◌++◌, sym, ◌∙◌, ap, arith, subst}
use Rattle.std.proofs.lemmas.List.{length-map}
use Rattle.cp_term.specs.declared.walk.Progress.TheVariants.{Open}
use Rattle.cp_term.specs.CellRefs.{cell_at}
use Rattle.cp_term.specs.Preorder.{arity_of}
use Rattle.cp_term.specs.TermGraph.{graph_cells}
use Rattle.cp_term.specs.Walk.{Walking, entries}
use Rattle.cp_term.proofs.lemmas.TermGraphLaws.{cell_of-got}
use Rattle.cp_term.proofs.lemmas.WalkLaws.{named-no_model, named-within, named-done, named-open}
use Rattle.cp_term.proofs.walk.entered.Goals as goal

pub returns-in-Done-clause-walking : goal.returns-in-Done-clause-walking
returns-in-Done-clause-walking c = λ _.
    let w = c.requires.walking in
    let found = c.find-root.ensures.forest w.root w.forest in
    named-done (graph_cells c.args.graph) c.args.graph.ends.now c.args.graph.second c.requires.graph c.args.parents.now c.args.schemas.now c.args.progress.now c.args.visits.now.items
    c.args.place w c.find-root.result found.1 c.find-root.new.parents (c.find-root.auto.parents ∙ w.len) c.find-root.ensures.falls found.0 c.in-Done.is

pub returns-in-Open-clause-cycle : goal.returns-in-Open-clause-cycle
returns-in-Open-clause-cycle c = λ _.
    let w = c.requires.walking in
    let found = c.find-root.ensures.forest w.root w.forest in
    named-no_model (graph_cells c.args.graph) c.args.graph.ends.now c.args.graph.second c.requires.graph c.args.parents.now c.args.schemas.now c.args.progress.now c.args.visits.now.items
    c.args.place w c.find-root.result found.1 c.in-Open.is

pub returns-in_ok-push_entries-in-New-clause-walking : goal.returns-in_ok-push_entries-in-New-clause-walking
returns-in_ok-push_entries-in-New-clause-walking c = λ _.
    let w = c.requires.walking in
    let root = c.find-root.result in
    let schema = get_or c.args.schemas.now root 0 in
    let refs = c.args.graph.cells.now in
    let found = c.find-root.ensures.forest w.root w.forest in
    let inside = named-within (graph_cells c.args.graph) c.args.graph.ends.now c.args.graph.second c.requires.graph c.args.parents.now c.args.schemas.now c.args.progress.now c.args.visits.now.items
    c.args.place w root found.1 in
    let schema_inside = w.has_schemas.within root inside in
    let len = length-map refs cell_at in
    let read = cell_of-got refs schema c.index-graph-schema.result (omega arith) in
    let opened = named-open (graph_cells c.args.graph) c.args.graph.ends.now c.args.graph.second c.requires.graph c.args.parents.now c.args.schemas.now c.args.progress.now c.args.visits.now.items
    c.args.place w root found.1 c.find-root.new.parents (c.find-root.auto.parents ∙ w.len) c.find-root.ensures.falls found.0 c.in-New.is
    c.arity-arity.result (c.arity-arity.ensures ∙ ap arity_of (sym read)) in
    let items = c.in_ok-push_entries-in-New.ensures ∙ ap (λ xs. xs ++ entries c.args.graph.ends.now c.arity-arity.result (schema + 1)) c.in_ok-push-in-New.ensures.items in
    subst (Walking (graph_cells c.args.graph) c.args.graph.ends.now c.args.graph.second c.find-root.new.parents c.args.schemas.now (set c.args.progress.now root Open)) (sym items) opened.0

pub returns-in_ok-push_entries-in-New-clause-less : goal.returns-in_ok-push_entries-in-New-clause-less
returns-in_ok-push_entries-in-New-clause-less c = λ _.
    let w = c.requires.walking in
    let root = c.find-root.result in
    let schema = get_or c.args.schemas.now root 0 in
    let refs = c.args.graph.cells.now in
    let found = c.find-root.ensures.forest w.root w.forest in
    let inside = named-within (graph_cells c.args.graph) c.args.graph.ends.now c.args.graph.second c.requires.graph c.args.parents.now c.args.schemas.now c.args.progress.now c.args.visits.now.items
    c.args.place w root found.1 in
    let schema_inside = w.has_schemas.within root inside in
    let len = length-map refs cell_at in
    let read = cell_of-got refs schema c.index-graph-schema.result (omega arith) in
    let opened = (named-open (graph_cells c.args.graph) c.args.graph.ends.now c.args.graph.second c.requires.graph c.args.parents.now c.args.schemas.now c.args.progress.now c.args.visits.now.items
    c.args.place w root found.1 c.find-root.new.parents (c.find-root.auto.parents ∙ w.len) c.find-root.ensures.falls found.0 c.in-New.is
    c.arity-arity.result (c.arity-arity.ensures ∙ ap arity_of (sym read))).1 in
    let items = ap length (c.in_ok-push_entries-in-New.ensures ∙ ap (λ xs. xs ++ entries c.args.graph.ends.now c.arity-arity.result (schema + 1)) c.in_ok-push-in-New.ensures.items) in
    let new_len = c.push_entries.new.visits.ok.0 in
    let old_len = c.args.visits.now.ok.0 in
    omega arith
