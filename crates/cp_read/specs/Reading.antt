-- What a reader of clauses is, and what its calls answer.
use Rattle.std.specs.Prelude.{◌≡◌, ◌≤◌, ◌-◌, ℕ, ⊤, true, false, List, [], length, drop, Option, Some, None, Result, Ok, Err}
use Rattle.cp_lex.specs.declared.token.Token.{Token}
use Rattle.cp_ops.specs.Operators.{Ops}
use Rattle.cp_term.specs.declared.cell.Cell.{Cell}
use Rattle.cp_read.specs.declared.bounds.Bounds.{Bounds}
use Rattle.cp_read.specs.declared.frame.Stop as frame
use Rattle.cp_read.specs.declared.frame.Stop.TheVariants as stops
use Rattle.cp_read.specs.declared.error.SyntaxWhy.TheVariants.{TooLarge}
use Rattle.cp_read.specs.declared.error.ReadError.{ReadError}
use Rattle.cp_read.specs.declared.error.ReadError.TheVariants.{Syntax, NoMemory}
use Rattle.cp_read.specs.declared.clause.ReadClause.{ReadClause}
use Rattle.cp_read.specs.Clauses.{Clause, line_of, fault_line, fits, clause_of, next_clause}
pub use Rattle.cp_read.specs.Reader.{Reading}

-- the clause that a call answered, and the tokens that are then left
abbrev pub clause_seen : ReadClause → List Token → Clause
clause_seen c rest = record { cells = c.term; line = c.line; rest = rest }

-- What a call answers of a reader that has not failed: the definition's answer, unless memory runs out. After a refusal it
-- has failed with it.
abbrev pub AnswersNext : Result (Option ReadClause) ReadError → Reading → Reading → Ops → Type 0
AnswersNext (Ok None) old new ops = (old.rest ≡ []) × (new ≡ old)
AnswersNext (Ok (Some c)) old new ops =
    (next_clause (old.bounds) ops (old.rest) ≡ Ok (Some (clause_seen c (new.rest)))) × (new ≡ record old { rest = new.rest })
AnswersNext (Err NoMemory) old new ops = new.failed ≡ Some NoMemory
AnswersNext (Err (Syntax line why)) old new ops =
    (next_clause (old.bounds) ops (old.rest) ≡ Err (record { line = line; why = why })) × (new ≡ record old { failed = Some (Syntax line why) })

-- a reader that has failed answers the same from then on
abbrev pub AnswersBy : Option ReadError → Result (Option ReadClause) ReadError → Reading → Reading → Ops → Type 0
AnswersBy (Some e) answer old new ops = (answer ≡ Err e) × (new ≡ old)
AnswersBy None answer old new ops = AnswersNext answer old new ops

abbrev pub Answers : Result (Option ReadClause) ReadError → Reading → Reading → Ops → Type 0
Answers answer old new ops = AnswersBy (old.failed) answer old new ops

-- ---- the parts of a call

-- as AnswersNext, of a reader whose refusal is not kept yet
abbrev pub ReadsNext : Result (Option ReadClause) ReadError → Reading → Reading → Ops → Type 0
ReadsNext (Ok None) old new ops = (old.rest ≡ []) × (new ≡ old)
ReadsNext (Ok (Some c)) old new ops =
    (next_clause (old.bounds) ops (old.rest) ≡ Ok (Some (clause_seen c (new.rest)))) × (new ≡ record old { rest = new.rest })
ReadsNext (Err NoMemory) old new ops = ⊤
ReadsNext (Err (Syntax line why)) old new ops =
    (next_clause (old.bounds) ops (old.rest) ≡ Err (record { line = line; why = why })) × (new ≡ old)

-- the refusal where reading stops so, with so many of these tokens left
abbrev pub refusal_of : frame.Stop → ℕ → List Token → ReadError
refusal_of (stops.Fault why) left ts = Syntax (fault_line ts (drop (length ts - left) ts)) why
refusal_of stops.NoMemory left ts = NoMemory

-- the clause at the front of these tokens, and how many are left
abbrev pub Finds : Result (List Cell × ℕ) ReadError → List Token → Bounds → Ops → Type 0
Finds (Ok found) ts bounds ops =
    (found.1 ≤ length ts) × (clause_of bounds ops ts ≡ Ok (record { cells = found.0; line = line_of ts; rest = drop (length ts - found.1) ts }))
Finds (Err NoMemory) ts bounds ops = ⊤
Finds (Err (Syntax line why)) ts bounds ops = clause_of bounds ops ts ≡ Err (record { line = line; why = why })

-- the same, where these are the cells of the clause
abbrev pub Finishes : Result (List Cell × ℕ) ReadError → List Cell → ℕ → List Token → Bounds → Type 0
Finishes (Ok found) cells left ts bounds = (found.0 ≡ cells) × (found.1 ≡ left) × (fits bounds cells ≡ true)
Finishes (Err NoMemory) cells left ts bounds = ⊤
Finishes (Err (Syntax line why)) cells left ts bounds = (line ≡ line_of ts) × (why ≡ TooLarge) × (fits bounds cells ≡ false)
