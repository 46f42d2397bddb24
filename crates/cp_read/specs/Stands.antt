-- How what the code holds while it reads a clause stands for a state.
use Rattle.std.specs.Prelude.{◌≡◌, ◌<◌, ◌+◌, ◌*◌, ℕ, ⊤, List, [], ◌∷◌, ◌++◌, length, reverse, drop, true, None, Result, Ok, Err, codes}
use Rattle.cp_term.specs.declared.cell.Cell.{Cell}
use Rattle.cp_term.specs.declared.cell.Cell.TheVariants.{Func}
use Rattle.cp_ops.specs.Operators.{Ops}
use Rattle.cp_read.specs.declared.frame.Construct.{Construct}
use Rattle.cp_read.specs.declared.frame.Construct.TheVariants as constructs
use Rattle.cp_read.specs.declared.frame.Frame.{Frame}
use Rattle.cp_read.specs.declared.frame.Turn.{Turn}
use Rattle.cp_read.specs.declared.frame.Turn.TheVariants as turns
use Rattle.cp_read.specs.declared.frame.Stop as frame
use Rattle.cp_read.specs.declared.frame.Stop.TheVariants as stops
use Rattle.cp_lex.specs.declared.token.Token.{Token}
use Rattle.cp_read.specs.Derivation.{is_plain}
use Rattle.cp_read.specs.Look.{signs}
use Rattle.cp_read.specs.Drafts.{cells_of}
use Rattle.cp_read.specs.Progress.{Progress}
use Rattle.cp_read.specs.SeenNames.{Knows, nothing_seen}
use Rattle.cp_read.specs.Lexemes.{Lexeme, lexemes}
use Rattle.cp_read.specs.Grammar.{Stop, stopped, Read, primary, admitted, clause, list_cell}
use Rattle.cp_read.specs.Machine.{Open, operand_of, parentheses, braces, arguments_of, elements_of, tail_of, State, expects, has, meaning, weight}

-- the construct is this one, where these are the pieces that were read of it
abbrev pub IsOpen : Construct → ℕ → List (List Cell) → Open → Type 0
IsOpen (constructs.Operand priority) max own o = o ≡ operand_of (cells_of own) priority max
IsOpen constructs.Parentheses max own o = (own ≡ []) × (o ≡ parentheses max)
IsOpen constructs.Braces max own o = (own ≡ (Func (codes "{}") 1 ∷ []) ∷ []) × (o ≡ braces max)
IsOpen (constructs.Arguments name before) max own o =
    (arity : ℕ) × (more : List (List Cell)) × (own ≡ (Func name.now arity ∷ []) ∷ more) × (o ≡ arguments_of name.now before (cells_of more) max)
IsOpen constructs.Elements max own o = (cells : List Cell) × (cells_of own ≡ cells ++ list_cell ∷ []) × (o ≡ elements_of cells max)
IsOpen constructs.Tail max own o = o ≡ tail_of (cells_of own) max

-- the frames, the innermost first, are these constructs, each from its first piece on
abbrev pub Stacked : List Frame → List (List Cell) → List Open → Type 0
Stacked [] pieces [] = pieces ≡ []
Stacked [] pieces (o ∷ os) = ⊥
Stacked (f ∷ fs) pieces [] = ⊥
Stacked (f ∷ fs) pieces (o ∷ os) =
    (before own : List (List Cell)) × (pieces ≡ before ++ own) × (length before ≡ f.start) × IsOpen f.construct f.max own o × Stacked fs before os

-- a term has a piece at least
abbrev pub Filled : List (List Cell) → Type 0
Filled [] = ⊥
Filled (p ∷ ps) = ⊤

-- the state in which the reading goes on
abbrev pub IsState : Turn → Progress → State → Type 0
IsState (turns.Expects max) r s =
    (list : List (List ℕ)) × (os : List Open) × Knows r.seen list × Stacked (reverse r.frames) r.pieces os × (s ≡ expects os max (lexemes list r.tokens))
IsState (turns.Has start priority max) r s =
    (list : List (List ℕ)) × (os : List Open) × (before own : List (List Cell)) × Filled own × Knows r.seen list × Stacked (reverse r.frames) before os
    × (r.pieces ≡ before ++ own) × (length before ≡ start)
    × (s ≡ has os max (record { cells = cells_of own; priority = priority; rest = lexemes list r.tokens }))
IsState turns.Ended r s = ⊥

-- The state in which a term has come inside this construct, whose frame was taken out, and no infix operator takes it in.
abbrev pub IsClosing : Ops → Construct → ℕ → ℕ → Progress → State → Type 0
IsClosing ops construct start outer r s =
    (list : List (List ℕ)) × (os : List Open) × (o : Open) × (before own mine : List (List Cell)) × (max priority : ℕ)
    × Filled mine × Knows r.seen list × Stacked (reverse r.frames) before os × (r.pieces ≡ before ++ (own ++ mine)) × (length before ≡ start)
    × IsOpen construct outer own o
    × (admitted ops max (record { cells = cells_of mine; priority = priority; rest = lexemes list r.tokens }) ≡ None)
    × (s ≡ has (o ∷ os) max (record { cells = cells_of mine; priority = priority; rest = lexemes list r.tokens }))

-- The state in which a term has come inside no construct, and no infix operator takes it in.
abbrev pub IsEnding : Ops → Progress → State → Type 0
IsEnding ops r s =
    (list : List (List ℕ)) × (max priority : ℕ) × Knows r.seen list
    × (admitted ops max (record { cells = cells_of r.pieces; priority = priority; rest = lexemes list r.tokens }) ≡ None)
    × (s ≡ has [] max (record { cells = cells_of r.pieces; priority = priority; rest = lexemes list r.tokens }))

-- The state in which a term has come, and no infix operator takes it in.
abbrev pub IsEnded : Ops → Progress → State → Type 0
IsEnded ops r s =
    (list : List (List ℕ)) × (os : List Open) × (before own : List (List Cell)) × (max priority : ℕ)
    × Filled own × Knows r.seen list × Stacked (reverse r.frames) before os × (r.pieces ≡ before ++ own)
    × (admitted ops max (record { cells = cells_of own; priority = priority; rest = lexemes list r.tokens }) ≡ None)
    × (s ≡ has os max (record { cells = cells_of own; priority = priority; rest = lexemes list r.tokens }))

-- the first token neither opens a call nor is the sign of an integer
abbrev pub IsPlain : List Token → Type 0
IsPlain ts = (list : List (List ℕ)) → is_plain (signs ts) (lexemes list (drop 1 ts)) ≡ true

-- The step keeps what the state gives, and its weight falls; or the clause has come, or a fault.
abbrev pub Keeps : Ops → State → Turn → Progress → Type 0
Keeps ops s (turns.Expects max) r = (t : State) × IsState (turns.Expects max) r t × (meaning ops s ≡ meaning ops t) × (weight t < weight s)
Keeps ops s (turns.Has start priority max) r = (t : State) × IsState (turns.Has start priority max) r t × (meaning ops s ≡ meaning ops t) × (weight t < weight s)
Keeps ops s turns.Ended r = (list : List (List ℕ)) × (meaning ops s ≡ primary (cells_of r.pieces) (lexemes list r.tokens))

abbrev pub Steps : Ops → State → Result Turn frame.Stop → Progress → Type 0
Steps ops s (Ok turn) r = Keeps ops s turn r
Steps ops s (Err (stops.Fault why)) r = (list : List (List ℕ)) × (meaning ops s ≡ Err (stopped why (lexemes list r.tokens)))
Steps ops s (Err stops.NoMemory) r = ⊤

-- The refusal is this one, at the first of these lexemes.
abbrev pub Refuses : Result Turn frame.Stop → Result Read Stop → List Lexeme → Type 0
Refuses (Ok turn) given ls = ⊥
Refuses (Err (stops.Fault why)) given ls = given ≡ Err (stopped why ls)
Refuses (Err stops.NoMemory) given ls = ⊥

-- ---- a whole run

-- a machine that has read nothing
abbrev pub IsFresh : Progress → Type 0
IsFresh r = (r.seen ≡ nothing_seen) × (r.pieces ≡ []) × (r.frames ≡ [])

-- what the first state gives is what the reading gives from here
abbrev pub Reached : Ops → State → Turn → Progress → Type 0
Reached ops s (turns.Expects max) r = (t : State) × IsState (turns.Expects max) r t × (meaning ops s ≡ meaning ops t)
Reached ops s (turns.Has start priority max) r = (t : State) × IsState (turns.Has start priority max) r t × (meaning ops s ≡ meaning ops t)
Reached ops s turns.Ended r = (list : List (List ℕ)) × (meaning ops s ≡ primary (cells_of r.pieces) (lexemes list r.tokens))

-- a bound on the steps that are left
abbrev pub left_to_do : Turn → Progress → ℕ
left_to_do (turns.Expects max) r = 3 * length r.tokens + length r.frames + 2
left_to_do (turns.Has start priority max) r = 3 * length r.tokens + length r.frames + 1
left_to_do turns.Ended r = 0

-- The clause is in the draft, or there is none; want of memory says nothing.
abbrev pub Gives : Ops → List Token → Result Unit frame.Stop → Progress → Type 0
Gives ops ts (Ok u) r = (list : List (List ℕ)) × (clause ops (lexemes [] ts) ≡ primary (cells_of r.pieces) (lexemes list r.tokens))
Gives ops ts (Err (stops.Fault why)) r = (list : List (List ℕ)) × (clause ops (lexemes [] ts) ≡ Err (stopped why (lexemes list r.tokens)))
Gives ops ts (Err stops.NoMemory) r = ⊤
