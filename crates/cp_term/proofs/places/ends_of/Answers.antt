use Rattle.std.proofs.Common.{◌≡◌, ◌+◌, ◌-◌, length, sym, ◌∙◌, ap, subst, arith, length-set}
use Rattle.std.proofs.lemmas.List.{length-map}
use Rattle.cp_term.specs.CellRefs.{cell_at, cells_at}
use Rattle.cp_term.specs.Preorder.{arity_of}
use Rattle.cp_term.specs.TermGraph.{cell_of, end_of, EndsFrom}
use Rattle.cp_term.proofs.lemmas.TermGraphLaws.{cell_of-read, EndsFrom-more}
use Rattle.cp_term.proofs.places.ends_of.Goals as goal

pub loop-at-preserved : goal.loop-at-preserved
loop-at-preserved c =
    let p = c.loop-at.at - 1 in
    let refs = c.args.cells.now in
    let ends = c.loop-at.ends.items in
    let cells = cells_at refs in
    let len : length cells ≡ length refs = length-map refs cell_at in
    let table : EndsFrom (p + 1) cells ends = let e : c.loop-at.at ≡ p + 1 = omega arith in subst (λ k. EndsFrom k cells ends) e c.loop-at.invariant.2 in
    let read : cell_of cells p ≡ cell_at c.index-cells-at.result = cell_of-read refs p c.index-cells-at.result (omega arith) c.index-cells-at.is in
    let end : c.end_from-end.result ≡ end_of ends (arity_of (cell_of cells p)) (p + 1) =
    c.end_from-end.ensures ∙ ap (λ xs. end_of xs c.arity.result (p + 1)) c.as_slice.ensures.value
    ∙ ap (λ k. end_of ends k (p + 1)) (c.arity.ensures ∙ ap arity_of (sym read)) in
    let same = length-set ends p c.end_from-end.result in
    (omega arith, omega arith, EndsFrom-more cells p c.end_from-end.result ends (omega arith) (omega arith) table end)
