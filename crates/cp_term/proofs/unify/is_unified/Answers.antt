use Rattle.std.proofs.Common.{sym, ◌∙◌, ap}
use mathlib.Core.Path.{subst₂}
use Rattle.std.proofs.lemmas.List.{length-map}
use Rattle.cp_term.specs.CellRefs.{cell_at}
use Rattle.cp_term.specs.TermGraph.{graph_cells}
use Rattle.cp_term.specs.Classes.{Joining, numbers_below}
use Rattle.cp_term.proofs.lemmas.Beginning.{Joining-start}
use Rattle.cp_term.proofs.unify.is_unified.Goals as goal

pub all_joined-requires-clause-joining : goal.all_joined-requires-clause-joining
all_joined-requires-clause-joining c =
    let len = length-map c.args.graph.cells.now cell_at in
    let parents = c.as_mut_slice.ensures.value ∙ c.in_ok-parents.ensures ∙ ap numbers_below (sym len) in
    let schemas = c.as_mut_slice-2.ensures.value ∙ c.in_ok-schemas.ensures ∙ ap numbers_below (sym len) in
    subst₂ (λ ps ss. Joining (graph_cells c.args.graph) c.args.graph.ends.now c.args.graph.second ps ss c.args.pairs.items) (sym parents) (sym schemas)
    (Joining-start (graph_cells c.args.graph) c.args.graph.ends.now c.args.graph.second c.args.pairs.items c.requires.pairs)
