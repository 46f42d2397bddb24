-- Laws on the grammar.
use Rattle.std.specs.Prelude.{◌≡◌, ◌↔◌, ◌⊎◌, IsTrue, List, [], Ok, Err}
use Rattle.cp_term.specs.declared.cell.Cell.{Cell}
use Rattle.cp_term.specs.Preorder.{IsTerm}
use Rattle.cp_term.specs.Numbering.{IsNumbered}
use Rattle.cp_lex.specs.declared.token.Token.{Token}
use Rattle.cp_ops.specs.Operators.{Ops}
use Rattle.cp_read.specs.declared.bounds.Bounds.{Bounds}
use Rattle.cp_read.specs.declared.error.SyntaxWhy.{SyntaxWhy}
use Rattle.cp_read.specs.Lexemes.{Lexeme, lexemes}
use Rattle.cp_read.specs.Grammar.{Read, primary, stopped, clause}
use Rattle.cp_read.specs.Derivation.{ReadsClause}
use Rattle.cp_read.specs.Clauses.{fits}

-- reading gives a clause and a rest exactly where the rules derive them
abbrev pub IsByTheRules : Type 0
IsByTheRules = (ops : Ops) (cells : List Cell) (ls rest : List Lexeme) → (clause ops ls ≡ primary cells rest) ↔ ReadsClause ops cells ls rest

-- two clauses that the rules derive from the same lexemes are one
abbrev pub DeriveOne : Type 0
DeriveOne = (ops : Ops) (a b : List Cell) (ls r s : List Lexeme) → ReadsClause ops a ls r → ReadsClause ops b ls s → (a ≡ b) × (r ≡ s)

-- reading ends with a clause or with a fault at some lexeme
abbrev pub IsDecided : Type 0
IsDecided = (ops : Ops) (ls : List Lexeme) →
    ((x : Read) × (clause ops ls ≡ Ok x)) ⊎ ((why : SyntaxWhy) × (from : List Lexeme) × (clause ops ls ≡ Err (stopped why from)))

-- a clause of tokens that is within the bounds is one term, with its variables numbered by first occurrence
abbrev pub ClausesAreTerms : Type 0
ClausesAreTerms = (ops : Ops) (bounds : Bounds) (ts : List Token) (cells : List Cell) (rest : List Lexeme) →
    ReadsClause ops cells (lexemes [] ts) rest → IsTrue (fits bounds cells) → IsTerm cells × IsNumbered cells
