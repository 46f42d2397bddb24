use Rattle.std.proofs.Common.{◌≡◌, ◌≢◌, ◌≤◌, ◌+◌, true, [], ◌∷◌, length, drop, ap, sym, ◌∙◌, subst, arith}
use Rattle.std.proofs.lemmas.List.{drop_more, drop_all}
use Rattle.cp_term.specs.Preorder.{is_terms, arity_of}
use Rattle.cp_ops.specs.Text.{written, text_of}
use Rattle.cp_write.specs.declared.place.Place.TheVariants.{Nothing}
use Rattle.cp_write.specs.Writing.{style_of, finished, awaited, text_at, shape_of, Continues}
use Rattle.cp_write.proofs.lemmas.WriterLaws.{cell-arity, step-same, step-count, enough-terms, place-left, all-written}
use Rattle.cp_write.proofs.write.text_of.Goals as goal

pub write-requires-clause-arity : goal.write-requires-clause-arity
write-requires-clause-arity c =
    let cells = c.cells-cells.result.now in
    let i = c.loop-cell.cell-index in
    let cell = c.cell-item.result in
    let writer = c.loop-cell.writer in
    let next : drop i cells ≡ cell ∷ drop (i + 1) cells = drop_more cells i cell c.loop-cell-test.true ∙ ap (λ x. x ∷ drop (i + 1) cells) (sym c.cell-item.is) in
    cell-arity (awaited writer.frames.items writer.place) cell (drop (i + 1) cells)
    (subst (λ xs. is_terms (awaited writer.frames.items writer.place) xs ≡ true) next c.loop-cell.invariant.count)

pub loop-cell-preserved : goal.loop-cell-preserved
loop-cell-preserved c =
    let style = style_of c.args.style in
    let ops = c.args.ops.now in
    let cells = c.cells-cells.result.now in
    let i = c.loop-cell.cell-index in
    let cell = c.cell-item.result in
    let rest = drop (i + 1) cells in
    let out = c.loop-cell.writer.out.items in
    let frames = c.loop-cell.writer.frames.items in
    let place = c.loop-cell.writer.place in
    let a = c.write.new.self.out.items in
    let b = c.write.new.self.frames.items in
    let p = c.write.new.self.place in
    let next : drop i cells ≡ cell ∷ rest = drop_more cells i cell c.loop-cell-test.true ∙ ap (λ x. x ∷ rest) (sym c.cell-item.is) in
    let count : is_terms (awaited frames place) (cell ∷ rest) ≡ true = subst (λ xs. is_terms (awaited frames place) xs ≡ true) next c.loop-cell.invariant.count in
    let some : place ≢ Nothing = place-left frames place cell rest count c.loop-cell.invariant.done in
    let text = text_at style cell (shape_of ops cell) place in
    let step : Continues style (arity_of cell) text out frames a b p = c.in_ok-write.ensures in
    record {
      same = step-same style ops cell rest out frames place a b p some (enough-terms style ops (awaited frames place) cell rest count) step
          ∙ (ap (λ xs. finished style out frames place (written style ops xs)) (sym next) ∙ c.loop-cell.invariant.same);
      count = step-count style text cell rest out frames place a b p some count step;
      done = step.done;
    }

pub returns : goal.returns
returns c =
    let style = style_of c.args.style in
    let ops = c.args.ops.now in
    let cells = c.cells-cells.result.now in
    let i = c.loop-cell.cell-index in
    let out = c.loop-cell.writer.out.items in
    let frames = c.loop-cell.writer.frames.items in
    let place = c.loop-cell.writer.place in
    let past : length cells ≤ i = omega arith in
    let none = drop_all i cells past in
    let count : is_terms (awaited frames place) [] ≡ true = subst (λ xs. is_terms (awaited frames place) xs ≡ true) none c.loop-cell.invariant.count in
    let same = ap (λ xs. finished style out frames place (written style ops xs)) (sym none) ∙ c.loop-cell.invariant.same in
    c.in_ok-text.ensures ∙ (all-written style ops cells out frames place count c.loop-cell.invariant.done same ∙ ap (text_of style ops) c.cells-cells.ensures.value)
