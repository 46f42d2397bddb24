-- A file's text as clauses, one after another, each read under the operators that stand when it is read: the standard ones,
-- and what the declarations above it make of them.
use Rattle.std.specs.Prelude.{ℕ, zero, suc, nat_lt, if◌then◌else◌, List, [], ◌∷◌, length, Option, Some, None, Result, Ok, Err, ℤ, unwrap_or}
use Rattle.cp_term.specs.declared.cell.Cell.{Cell}
use Rattle.cp_lex.specs.declared.error.LexWhy.{LexWhy}
use Rattle.cp_lex.specs.declared.error.LexWhy.TheVariants as lex
use Rattle.cp_lex.specs.declared.token.Token.{Token}
use Rattle.cp_lex.specs.declared.token.Refusal.{Refusal}
use Rattle.cp_lex.specs.declared.token.Scan.{Scan}
use Rattle.cp_lex.specs.Tokens.{scan}
use Rattle.cp_ops.specs.Operators.{Ops, declare}
use Rattle.cp_ops.specs.declared.table.OpError.{OpError}
use Rattle.cp_ops.specs.Standard.{standard}
use Rattle.cp_read.specs.declared.bounds.Bounds.{Bounds}
use Rattle.cp_read.specs.declared.clause.ReadClause.{ReadClause}
use Rattle.cp_read.specs.declared.error.SyntaxWhy.{SyntaxWhy}
use Rattle.cp_read.specs.declared.error.SyntaxWhy.TheVariants as syntax
use Rattle.cp_read.specs.Clauses.{Clause, Fault, next_clause}
use Rattle.cp_declaration.specs.declared.declaration.Declaration.{Declaration}
use Rattle.cp_declaration.specs.declared.declaration.Declaration.TheVariants as declares
use Rattle.cp_declaration.specs.Declarations.{declaration}
pub use Rattle.cp_module.specs.declared.cause.Cause.{Cause}
pub use Rattle.cp_module.specs.declared.text.Text.{Text}
use Rattle.cp_module.specs.declared.why.Why.{Why}
use Rattle.cp_module.specs.declared.why.Why.TheVariants as why

-- ---- the names of what cannot be read

abbrev pub lex_why : LexWhy → Why
lex_why lex.BadUtf8 = why.BadUtf8
lex_why lex.OpenQuote = why.OpenQuote
lex_why lex.OpenComment = why.OpenComment
lex_why lex.BadEscape = why.BadEscape
lex_why lex.WideNumber = why.WideNumber
lex_why lex.Float = why.Float
lex_why lex.StrayByte = why.StrayByte

abbrev pub syntax_why : SyntaxWhy → Why
syntax_why syntax.NoFullStop = why.NoFullStop
syntax_why syntax.Priority = why.Priority
syntax_why syntax.UnexpectedToken = why.UnexpectedToken
syntax_why syntax.TooLarge = why.TooLarge

-- ---- operators

abbrev pub kept : Result Ops OpError → Option Ops
kept (Ok ops) = Some ops
kept (Err e) = None

abbrev pub and_then : Option Ops → (Ops → Option Ops) → Option Ops
and_then None f = None
and_then (Some ops) f = f ops

-- the table with each of the names as such an operator, unless one of them is refused
abbrev pub declared : Ops → ℤ → List ℕ → List (List ℕ) → Option Ops
declared ops priority kind [] = Some ops
declared ops priority kind (name ∷ names) = and_then (kept (declare ops priority kind name)) (λ changed. declared changed priority kind names)

abbrev pub ops_by : Ops → Option Declaration → Ops
ops_by ops None = ops
ops_by ops (Some (declares.Module name exports)) = ops
ops_by ops (Some (declares.UseModule file imports)) = ops
ops_by ops (Some (declares.UseActiveModule m preds)) = ops
ops_by ops (Some (declares.Shared suspends preds)) = ops
ops_by ops (Some (declares.MetaPredicate name marks)) = ops
ops_by ops (Some (declares.Operators priority kind names)) = unwrap_or (declared ops priority kind names) ops
ops_by ops (Some (declares.RegType name)) = ops
ops_by ops (Some declares.Assertion) = ops
ops_by ops (Some declares.Nothing) = ops

-- the operators behind a clause; a declaration that is refused changes nothing
abbrev pub ops_after : Ops → List Cell → Ops
ops_after ops cells = ops_by ops (declaration cells)

-- ---- clauses

-- a clause has at most 4,096 cells, and a name at most 1,024 bytes
abbrev pub bounds : Bounds
bounds = record { cells = 4096; name = 1024 }

abbrev pub ended : Ops → Option Fault → Text
ended ops None = record { clauses = []; ops = ops; fault = None }
ended ops (Some f) = record { clauses = []; ops = ops; fault = Some (record { line = f.line; why = syntax_why f.why }) }

abbrev pub behind : Clause → Text → Text
behind c text = record text { clauses = record { term = c.cells; line = c.line } ∷ text.clauses }

-- The clauses of these tokens. Each one takes a token at least, so that the bound, which is above their number, is never met.
abbrev pub clauses_from : ℕ → Ops → List Token → Text
clauses_from zero ops tokens = ended ops None
clauses_from (suc most) ops tokens = elim (next_clause bounds ops tokens) [
  | Ok found ↦ elim found [
    | None ↦ ended ops None
    | Some c ↦ behind c (clauses_from most (ops_after ops c.cells) c.rest)
  ]
  | Err f ↦ ended ops (Some f)
]

-- ---- the whole text

abbrev pub lexical_cause : Refusal → Cause
lexical_cause r = record { line = r.line; why = lex_why r.why }

-- What cannot be read, where the tokens end at a refusal: a clause that the refusal cuts short is no fault of its own, and of
-- two causes in one line that of the tokens counts.
abbrev pub nearer : Cause → Cause → Cause
nearer c r = if nat_lt c.line r.line then c else r

abbrev pub cut_short : Why → Cause → Cause → Cause
cut_short why.NoFullStop c r = r
cut_short other c r = nearer c r

abbrev pub fault_of : Option Cause → Option Refusal → Option Cause
fault_of f None = f
fault_of None (Some r) = Some (lexical_cause r)
fault_of (Some c) (Some r) = Some (cut_short c.why c (lexical_cause r))

abbrev pub finished : Text → Option Refusal → Text
finished text r = record text { fault = fault_of text.fault r }

abbrev pub scanned : Scan → Text
scanned s = finished (clauses_from (suc (length s.tokens)) standard s.tokens) s.refusal

-- the text of a file
unfoldable pub text_of : List ℕ → Text
text_of bytes = scanned (scan bytes)
