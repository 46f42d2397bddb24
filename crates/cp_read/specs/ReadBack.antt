-- What is written with quotes is read again.
use Rattle.std.specs.Prelude.{◌≡◌, ℕ, ◌<◌, ◌^◌, Bool, true, nat_lt, IsTrue, List, [], ◌++◌, Option, Some, None, Result, Ok, Err, pos, negsuc, codes}
use Rattle.std.specs.List.{list_all}
use Rattle.std.specs.Str.{is_utf8}
use Rattle.cp_term.specs.declared.cell.Cell.{Cell}
use Rattle.cp_term.specs.declared.cell.Cell.TheVariants.{Var, Int, Atom, Func}
use Rattle.cp_term.specs.Preorder.{IsTerm}
use Rattle.cp_term.specs.Numbering.{IsNumbered}
use Rattle.cp_lex.specs.declared.token.Token.{Token}
use Rattle.cp_lex.specs.declared.token.Refusal.{Refusal}
use Rattle.cp_lex.specs.Tokens.{tokens}
use Rattle.cp_ops.specs.Operators.{Ops, IsTable}
use Rattle.cp_ops.specs.Text.{quoting, text_of}
use Rattle.cp_read.specs.declared.bounds.Bounds.{Bounds}
use Rattle.cp_read.specs.Clauses.{fits, Clause, Fault, next_clause}

-- the first clause of a text: none, its cells, or why there are no tokens or no clause
pub data Found : Type 0 where
  no_tokens : Refusal → Found
  fault : Fault → Found
  no_clause : Found
  found : List Cell → List Token → Found

abbrev pub found_by : Result (Option Clause) Fault → Found
found_by (Ok None) = no_clause
found_by (Ok (Some c)) = found (c.cells) (c.rest)
found_by (Err e) = fault e

abbrev pub found_in : Bounds → Ops → Result (List Token) Refusal → Found
found_in bounds ops (Ok ts) = found_by (next_clause bounds ops ts)
found_in bounds ops (Err e) = no_tokens e

abbrev pub read_text : Bounds → Ops → List ℕ → Found
read_text bounds ops text = found_in bounds ops (tokens text)

-- the cell's number is one of 64 bits, and its name is text
abbrev pub is_proper : Cell → Bool
is_proper (Var v) = true
is_proper (Int (pos n)) = nat_lt n (2 ^ 63)
is_proper (Int (negsuc n)) = nat_lt n (2 ^ 63)
is_proper (Atom a) = is_utf8 a
is_proper (Func f k) = is_utf8 f

-- The quoted text of a term within the bounds, a space and a full stop are read as the term and nothing more. Bounds are
-- numbers of 32 bits, as those of every reader are: the number of a variable is written in at most 64 decimal digits, so two
-- variables of a term of more than 10 ^ 64 cells could have one text.
abbrev pub ReadsBack : Type 0
ReadsBack = (ops : Ops) (bounds : Bounds) (cells : List Cell) → bounds.cells < 2 ^ 32 → IsTable ops → IsTerm cells → IsNumbered cells →
    IsTrue (list_all is_proper cells) → IsTrue (fits bounds cells) →
    read_text bounds ops (text_of quoting ops cells ++ codes " .") ≡ found cells []
