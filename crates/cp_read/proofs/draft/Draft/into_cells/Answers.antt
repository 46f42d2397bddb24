use Rattle.std.proofs.Common.{◌≡◌, ℕ, suc, ◌+◌, List, map, ap, subst, ◌∙◌, arith}
use Rattle.std.specs.Prelude.{take}
use Rattle.cp_term.specs.declared.cell.Cell.{Cell}
use Rattle.cp_read.specs.Drafts.{piece_seen, cells_of}
use Rattle.cp_read.specs.Filling.{IsFilled}
use Rattle.cp_read.proofs.lemmas.FitLaws.{piece_more}
use Rattle.cp_read.proofs.draft.Draft.into_cells.Goals as goal

next_place : (n : ℕ) → suc n ≡ n + 1
next_place n = omega arith

pub loop-piece-preserved : goal.loop-piece-preserved
loop-piece-preserved c =
    let pieces = c.deref-piece-items.result.now in
    let at = c.loop-piece.piece-index in
    subst (λ (l : List Cell). IsFilled c.args.bounds c.in_ok-within.within c.add_piece.new.list l)
    (piece_more pieces at c.piece-item.result c.loop-piece-test.true c.piece-item.is
    ∙ ap (λ (n : ℕ). cells_of (map piece_seen (take n pieces))) (next_place at))
    (c.in_ok-within.ensures (cells_of (map piece_seen (take at pieces))) c.loop-piece.invariant)
