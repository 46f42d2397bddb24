use Rattle.std.proofs.Common.{sym, subst}
use Rattle.std.proofs.lemmas.Result.{IfOk-weaker}
use Rattle.cp_term.specs.CellRefs.{cells_at}
use Rattle.cp_term.specs.TermGraph.{IsGraph}
use Rattle.cp_term.proofs.lemmas.TermGraphLaws.{two_terms, unifier-Model, Model-unifier}
use Rattle.cp_term.proofs.unify.has_unifier.Goals as goal

pub is_unified-requires-clause-graph : goal.is_unified-requires-clause-graph
is_unified-requires-clause-graph c =
    let cells = cells_at c.args.cells.now in
    subst (IsGraph cells) (sym c.as_slice.ensures.value) (record {
      terms = two_terms cells c.args.second c.requires.first c.requires.second;
      len = c.in_ok-ends.ensures.len;
      table = c.in_ok-ends.ensures.ends;
    })

pub returns : goal.returns
returns c =
    let cells = cells_at c.args.cells.now in
    let graph : IsGraph cells c.as_slice.result.now = subst (IsGraph cells) (sym c.as_slice.ensures.value) (record {
      terms = two_terms cells c.args.second c.requires.first c.requires.second;
      len = c.in_ok-ends.ensures.len;
      table = c.in_ok-ends.ensures.ends;
    }) in
    IfOk-weaker c.is_unified.result _ _ (λ unified h. (
      λ e. Model-unifier cells c.args.second c.requires.first c.requires.second c.as_slice.result.now graph (h.0 e),
      λ u. h.1 (unifier-Model cells c.args.second c.requires.first c.requires.second c.as_slice.result.now graph u),
    )) c.is_unified.ensures
