use Rattle.std.proofs.Common.{◌≡◌, true, List, ◌∙◌, ap, subst}
use Rattle.std.specs.Prelude.{Option, Some}
use Rattle.cp_term.specs.declared.cell.Cell.{Cell}
use Rattle.cp_term.specs.Preorder.{is_terms}
use Rattle.cp_term.specs.Numbering.{is_numbered_from}
use Rattle.cp_read.specs.declared.bounds.Bounds.{Bounds}
use Rattle.cp_read.specs.Clauses.{fits}
use Rattle.cp_read.specs.Drafts.{cells_of}
use Rattle.cp_read.specs.Filling.{IsWithin}
use Rattle.cp_read.proofs.reader.term_of.Goals as goal

-- the list is these cells, which are within the bounds
is_within : (bounds : Bounds) (o : Option (List Cell)) (list cells : List Cell) → o ≡ Some list → IsWithin bounds o cells → (list ≡ cells) × (fits bounds cells ≡ true)
is_within bounds o list cells is h = subst (λ (x : Option (List Cell)). IsWithin bounds x cells) is h

pub known-requires-clause-term : goal.known-requires-clause-term
known-requires-clause-term c =
    let w = is_within c.args.bounds _ c.in-Some.cells (cells_of c.args.draft) c.in-Some.is c.in_ok-into_cells.ensures in
    ap (is_terms 1) (w.0) ∙ (c.requires (w.1)).0

pub known-requires-clause-numbered : goal.known-requires-clause-numbered
known-requires-clause-numbered c =
    let w = is_within c.args.bounds _ c.in-Some.cells (cells_of c.args.draft) c.in-Some.is c.in_ok-into_cells.ensures in
    ap (is_numbered_from 0) (w.0) ∙ (c.requires (w.1)).1

pub returns-in-Some : goal.returns-in-Some
returns-in-Some c =
    let w = is_within c.args.bounds _ c.in-Some.cells (cells_of c.args.draft) c.in-Some.is c.in_ok-into_cells.ensures in
    (c.known.ensures ∙ w.0, w.1)
