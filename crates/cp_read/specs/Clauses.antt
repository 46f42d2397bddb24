-- The next clause of a list of tokens.
use Rattle.std.specs.Prelude.{ℕ, ◌-◌, Bool, true, ◌&&◌, nat_le, if◌then◌else◌, List, [], ◌∷◌, length, drop, Option, Some, None, Result, Ok, Err}
use Rattle.std.specs.List.{list_all}
use Rattle.cp_term.specs.declared.cell.Cell.{Cell}
use Rattle.cp_term.specs.declared.cell.Cell.TheVariants.{Var, Int, Atom, Func}
use Rattle.cp_lex.specs.declared.token.Token.{Token}
use Rattle.cp_ops.specs.Operators.{Ops}
use Rattle.cp_read.specs.declared.bounds.Bounds.{Bounds}
use Rattle.cp_read.specs.declared.error.SyntaxWhy.{SyntaxWhy}
use Rattle.cp_read.specs.declared.error.SyntaxWhy.TheVariants.{NoFullStop, TooLarge}
use Rattle.cp_read.specs.Lexemes.{Lexeme, lexemes}
use Rattle.cp_read.specs.Grammar.{Stop, stopped, endless, Read, clause}

abbrev pub cell_fits : ℕ → Cell → Bool
cell_fits most (Var v) = true
cell_fits most (Int i) = true
cell_fits most (Atom a) = nat_le (length a) most
cell_fits most (Func f k) = nat_le (length f) most && nat_le k 255

abbrev pub fits : Bounds → List Cell → Bool
fits bounds cells = nat_le (length cells) (bounds.cells) && list_all (cell_fits (bounds.name)) cells

pub record Fault : Type 0 where
  pub line : ℕ
  pub why : SyntaxWhy

-- a clause, the line of its first token, and the tokens behind it
pub record Clause : Type 0 where
  pub cells : List Cell
  pub line : ℕ
  pub rest : List Token

abbrev pub line_of : List Token → ℕ
line_of [] = 0
line_of (t ∷ ts) = t.line

abbrev pub last_line : List Token → ℕ
last_line [] = 0
last_line (t ∷ []) = t.line
last_line (t ∷ u ∷ ts) = last_line (u ∷ ts)

-- the last tokens, as many as there are lexemes
abbrev pub from_lexemes : List Token → List Lexeme → List Token
from_lexemes ts ls = drop (length ts - length ls) ts

-- The fault stands at the first of these tokens, or where none is left at the last token of all.
abbrev pub fault_line : List Token → List Token → ℕ
fault_line ts [] = last_line ts
fault_line ts (u ∷ us) = u.line

abbrev pub clause_by : Bounds → List Token → Result Read Stop → Result Clause Fault
clause_by bounds ts (Ok x) =
    if fits bounds (x.cells) then Ok (record { cells = x.cells; line = line_of ts; rest = from_lexemes ts (x.rest) })
    else Err (record { line = line_of ts; why = TooLarge })
clause_by bounds ts (Err (stopped why ls)) = Err (record { line = fault_line ts (from_lexemes ts ls); why = why })
clause_by bounds ts (Err endless) = Err (record { line = 0; why = NoFullStop })

abbrev pub clause_of : Bounds → Ops → List Token → Result Clause Fault
clause_of bounds ops ts = clause_by bounds ts (clause ops (lexemes [] ts))

-- the next clause, where a token is left
abbrev pub next_clause : Bounds → Ops → List Token → Result (Option Clause) Fault
next_clause bounds ops [] = Ok None
next_clause bounds ops (t ∷ ts) = elim (clause_of bounds ops (t ∷ ts)) [ Ok c ↦ Ok (Some c) | Err e ↦ Err e ]
