-- A term as the pieces of its quoted text: the fold that gives its text, with pieces in the place of bytes and the cells beside them.
use Rattle.std.proofs.Common.{ℕ, suc, Bool, true, false, cond, not, ◌||◌, ◌&&◌, List, [], ◌∷◌, ◌++◌, length, take, drop}
use Rattle.std.specs.Prelude.{nat_lt, nat_eq, Option, Some, None, ℤ, pos, negsuc, codes}
use Rattle.std.specs.List.{flat_map}
use Rattle.std.specs.Str.{bytes_eq}
use Rattle.cp_char.specs.Characters.{first, is_symbol}
use Rattle.cp_term.specs.declared.cell.Cell.{Cell}
use Rattle.cp_term.specs.declared.cell.Cell.TheVariants.{Var, Int, Atom, Func}
use Rattle.cp_ops.specs.declared.fix.Fix.{Fix}
use Rattle.cp_ops.specs.Operators.{Ops, look_up, left_of, right_of, is_operator}
use Rattle.cp_ops.specs.Text.{quoting, is_tight, ends_in_operand, last_byte}
use Rattle.cp_read.specs.Pieces.{Piece, variable, digits, word, quoted, sign, space, pieces_text}

-- what a term is where it stands in another, as in its text
pub data Shape : Type 0 where
  operator_atom : Shape
  empty_brackets : Shape
  elements : List Piece → Shape
  operation : Fix → Shape
  simple : Shape

pub record Spelling : Type 0 where
  pub cells : List Cell
  pub pieces : List Piece
  pub priority : ℕ
  pub shape : Shape

abbrev pub simply : List Cell → List Piece → Spelling
simply cells ps = record { cells = cells; pieces = ps; priority = 0; shape = simple }

abbrev pub enclosed : List Piece → List Piece
enclosed ps = sign 40 ∷ ps ++ sign 41 ∷ []

abbrev pub in_parentheses : Spelling → Spelling
in_parentheses t = simply (t.cells) (enclosed (t.pieces))

abbrev pub within : ℕ → Spelling → Spelling
within max t = cond (nat_lt max (t.priority)) (in_parentheses t) t

abbrev pub operand_by : Shape → ℕ → Spelling → Spelling
operand_by operator_atom max t = in_parentheses t
operand_by empty_brackets max t = within max t
operand_by (elements es) max t = within max t
operand_by (operation fix) max t = within max t
operand_by simple max t = within max t

abbrev pub operand : ℕ → Spelling → Spelling
operand max t = operand_by (t.shape) max t

abbrev pub would_take : Shape → ℕ → ℕ → Bool
would_take (operation fix) own priority = ends_in_operand fix && nat_eq own priority
would_take operator_atom own priority = false
would_take empty_brackets own priority = false
would_take (elements es) own priority = false
would_take simple own priority = false

abbrev pub left_operand : ℕ → Fix → Spelling → Spelling
left_operand p fix t = cond (would_take (t.shape) (t.priority) p) (in_parentheses t) (operand (left_of p fix) t)

-- a space, or none
abbrev pub gap : Bool → List Piece
gap true = space ∷ []
gap false = []

-- whether a space stands before an infix operator, and behind it
abbrev pub gap_before : List ℕ → List Piece → Bool
gap_before name left = not (is_tight quoting name) || (is_symbol (last_byte (pieces_text left)) && is_symbol (first name))

abbrev pub gap_behind : List ℕ → List Piece → Bool
gap_behind name right = not (is_tight quoting name) || (is_symbol (last_byte name) && is_symbol (first (pieces_text right)))

-- an infix operator between its operands
abbrev pub middle : List ℕ → List Piece → List Piece → List Piece
middle name left right =
    cond (bytes_eq name (codes ",")) (sign 44 ∷ []) (gap (gap_before name left) ++ (word name ∷ gap (gap_behind name right)))

abbrev pub infix_pieces : List ℕ → List Piece → List Piece → List Piece
infix_pieces name left right = left ++ (middle name left right ++ right)

abbrev pub between_commas : List Spelling → List Piece
between_commas [] = []
between_commas (t ∷ []) = (within 999 t).pieces
between_commas (t ∷ u ∷ ts) = (within 999 t).pieces ++ sign 44 ∷ between_commas (u ∷ ts)

abbrev pub functor : List ℕ → Piece
functor name = cond (bytes_eq name (codes "[]") || bytes_eq name (codes "{}")) (quoted name) (word name)

abbrev pub cells_of : List Spelling → List Cell
cells_of ts = flat_map (λ (t : Spelling). t.cells) ts

abbrev pub canonical : List ℕ → List Spelling → Spelling
canonical name ts = simply (Func name (length ts) ∷ cells_of ts) (functor name ∷ enclosed (between_commas ts))

abbrev pub list_of : List Cell → List Piece → Spelling
list_of cells es = record { cells = cells; pieces = sign 91 ∷ es ++ sign 93 ∷ []; priority = 0; shape = elements es }

abbrev pub list_by : List Cell → Shape → List Piece → Spelling → Spelling
list_by cells empty_brackets head tail = list_of cells head
list_by cells (elements es) head tail = list_of cells (head ++ sign 44 ∷ es)
list_by cells operator_atom head tail = list_of cells (head ++ sign 124 ∷ (within 999 tail).pieces)
list_by cells (operation fix) head tail = list_of cells (head ++ sign 124 ∷ (within 999 tail).pieces)
list_by cells simple head tail = list_of cells (head ++ sign 124 ∷ (within 999 tail).pieces)

abbrev pub prefix_term : List ℕ → Option (ℕ × Fix) → Spelling → Spelling
prefix_term name None t = canonical name (t ∷ [])
prefix_term name (Some op) t = record {
  cells = Func name 1 ∷ t.cells;
  pieces = word name ∷ space ∷ (operand (right_of (op.0) (op.1)) t).pieces;
  priority = op.0;
  shape = operation (op.1);
}

abbrev pub infix_term : List ℕ → Option (ℕ × Fix) → Spelling → Spelling → Spelling
infix_term name None t u = canonical name (t ∷ u ∷ [])
infix_term name (Some op) t u = record {
  cells = Func name 2 ∷ t.cells ++ u.cells;
  pieces = infix_pieces name ((left_operand (op.0) (op.1) t).pieces) ((operand (right_of (op.0) (op.1)) u).pieces);
  priority = op.0;
  shape = operation (op.1);
}

abbrev pub braces : Spelling → Spelling
braces t = simply (Func (codes "{}") 1 ∷ t.cells) (sign 123 ∷ (within 1200 t).pieces ++ sign 125 ∷ [])

abbrev pub compound : Ops → List ℕ → List Spelling → Spelling
compound ops name [] = canonical name []
compound ops name (t ∷ []) = cond (bytes_eq name (codes "{}")) (braces t) (prefix_term name (look_up (ops.prefixes) name) t)
compound ops name (t ∷ u ∷ []) =
    cond (bytes_eq name (codes ".")) (list_by (Func (codes ".") 2 ∷ t.cells ++ u.cells) (u.shape) ((within 999 t).pieces) u)
    (infix_term name (look_up (ops.infixes) name) t u)
compound ops name (t ∷ u ∷ v ∷ ts) = canonical name (t ∷ u ∷ v ∷ ts)

abbrev pub atom_pieces : List ℕ → List Piece
atom_pieces name =
    cond (bytes_eq name (codes "[]")) (sign 91 ∷ sign 93 ∷ []) (cond (bytes_eq name (codes "{}")) (sign 123 ∷ sign 125 ∷ []) (word name ∷ []))

abbrev pub atom : Ops → List ℕ → Spelling
atom ops name = record {
  cells = Atom name ∷ [];
  pieces = atom_pieces name;
  priority = 0;
  shape = cond (is_operator ops name) operator_atom (cond (bytes_eq name (codes "[]")) empty_brackets simple);
}

abbrev pub integer_pieces : ℤ → List Piece
integer_pieces (pos n) = digits n ∷ []
integer_pieces (negsuc n) = word (codes "-") ∷ digits (suc n) ∷ []

-- a cell before the terms that follow it
abbrev pub before_terms : Ops → Cell → List Spelling → List Spelling
before_terms ops (Var n) ts = simply (Var n ∷ []) (variable n ∷ []) ∷ ts
before_terms ops (Int i) ts = simply (Int i ∷ []) (integer_pieces i) ∷ ts
before_terms ops (Atom name) ts = atom ops name ∷ ts
before_terms ops (Func name k) ts = compound ops name (take k ts) ∷ drop k ts

-- the terms that cells in preorder are
abbrev pub spellings : Ops → List Cell → List Spelling
spellings ops [] = []
spellings ops (c ∷ cells) = before_terms ops c (spellings ops cells)

-- something holds of each
pub data Each (P : Spelling → Type 0) : List Spelling → Type 0 where
  none : Each P []
  one : (t : Spelling) (ts : List Spelling) → P t → Each P ts → Each P (t ∷ ts)
