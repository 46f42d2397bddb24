-- The term that cells make is these cells.
use Rattle.std.proofs.Common.{◌≡◌, ap, sym, Bool, true, false, List, []}
use Rattle.std.specs.Prelude.{cond, Result, Ok, Err}
use Rattle.cp_term.specs.declared.cell.Cell.{Cell}
use Rattle.cp_term.specs.declared.term.TermError.{TermError}
use Rattle.cp_term.specs.declared.term.TermError.TheVariants.{NotOneTerm, BadNumbering}
use Rattle.cp_term.specs.Preorder.{is_terms}
use Rattle.cp_term.specs.Numbering.{is_numbered_from}
use Rattle.cp_term.specs.TermOf.{term_of}

abbrev cells_or_none : Result (List Cell) TermError → List Cell
cells_or_none (Ok t) = t
cells_or_none (Err e) = []

by_tests : (one numbered : Bool) (cells t : List Cell) → cond one (cond numbered (Ok cells) (Err (BadNumbering cells))) (Err (NotOneTerm cells)) ≡ Ok t → t ≡ cells
by_tests true true cells t e = sym (ap cells_or_none e)
by_tests true false cells t e = absurd (cc)
by_tests false numbered cells t e = absurd (cc)

pub term_is : (cells t : List Cell) → term_of cells ≡ Ok t → t ≡ cells
term_is cells t e = by_tests (is_terms 1 cells) (is_numbered_from 0 cells) cells t e
