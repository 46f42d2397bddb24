-- The text of a term (ISO/IEC 13211-1, 7.10.5). Where spaces and parentheses stand, and the names of variables, are this
-- project's own.
use Rattle.std.specs.Prelude.{ℕ, ◌/◌, ◌%◌, Bool, true, false, not, ◌||◌, ◌&&◌, ◌==◌, nat_lt, if◌then◌else◌, List, [], ◌∷◌, ◌++◌, take, drop, slice_index_or, Option, Some, None, codes, decimal}
use Rattle.std.specs.Fmt.{signed_decimal}
use Rattle.std.specs.List.{list_all, flat_map}
use Rattle.std.specs.Str.{bytes_eq}
use Rattle.std.specs.Char.{is_ascii_lowercase, digit_char}
use Rattle.cp_char.specs.Characters.{begins, first, quote, backslash, newline, is_symbol, is_alphanumeric}
use Rattle.cp_term.specs.declared.cell.Cell.{Cell}
use Rattle.cp_term.specs.declared.cell.Cell.TheVariants.{Var, Int, Atom, Func}
use Rattle.cp_ops.specs.declared.fix.Fix.{Fix}
use Rattle.cp_ops.specs.declared.fix.Fix.TheVariants.{Xfx, Xfy, Yfx, Fy, Fx}
use Rattle.cp_ops.specs.Operators.{Ops, look_up, left_of, right_of, is_operator}

-- ---- names

-- one or more symbol characters
abbrev pub is_symbolic : List ℕ → Bool
is_symbolic [] = false
is_symbolic (c ∷ name) = list_all is_symbol (c ∷ name)

abbrev pub is_small_name : List ℕ → Bool
is_small_name [] = false
is_small_name (c ∷ name) = is_ascii_lowercase c && list_all is_alphanumeric name

-- an atom that needs no quotes
abbrev pub is_plain : List ℕ → Bool
is_plain name =
    is_small_name name || (is_symbolic name && not (bytes_eq name (codes ".") || begins "/*" name))
    || bytes_eq name (codes "[]") || bytes_eq name (codes "{}") || bytes_eq name (codes "!") || bytes_eq name (codes ";")

-- the hexadecimal digits of a number below 256
abbrev pub hexadecimal : ℕ → List ℕ
hexadecimal n = if nat_lt n 16 then digit_char n ∷ [] else digit_char (n / 16) ∷ digit_char (n % 16) ∷ []

abbrev pub quoted_byte : ℕ → List ℕ
quoted_byte c =
    if c == backslash || c == quote then backslash ∷ c ∷ []
    else if c == newline then codes "\\n"
    else if c == 9 then codes "\\t"
    else if nat_lt c 32 || c == 127 then codes "\\x" ++ hexadecimal c ++ codes "\\"
    else c ∷ []

abbrev pub in_quotes : List ℕ → List ℕ
in_quotes name = quote ∷ flat_map quoted_byte name ++ quote ∷ []

-- Whether names are quoted where they have to be, as `writeq` does, or never, as `write` does.
pub data Style : Type 0 where
  quoting : Style
  bare : Style

abbrev pub name_text : Style → List ℕ → List ℕ
name_text bare name = name
name_text quoting name = if is_plain name then name else in_quotes name

-- a name before arguments in parentheses
abbrev pub functor_text : Style → List ℕ → List ℕ
functor_text bare name = name
functor_text quoting name =
    if bytes_eq name (codes "[]") || bytes_eq name (codes "{}") then in_quotes name else name_text quoting name

-- the name is written as one or more symbol characters and nothing else
abbrev pub is_tight : Style → List ℕ → Bool
is_tight bare name = is_symbolic name
is_tight quoting name = is_symbolic name && is_plain name

-- ---- terms

-- What a term is where it stands in another: an atom that is an operator, the atom `[]`, a list of these elements and tail,
-- an operator term, or any other.
pub data Form : Type 0 where
  operator_atom : Form
  no_elements : Form
  elements : List ℕ → Form
  operation : Fix → Form
  simple : Form

-- a term's text, and the priority of its operator, or 0 where it is no operator term
pub record Written : Type 0 where
  pub text : List ℕ
  pub priority : ℕ
  pub form : Form

abbrev pub simply : List ℕ → Written
simply text = record { text = text; priority = 0; form = simple }

abbrev pub parenthesized : List ℕ → List ℕ
parenthesized text = codes "(" ++ text ++ codes ")"

-- the text where at most this priority is allowed
abbrev pub within : ℕ → Written → List ℕ
within max t = if nat_lt max (t.priority) then parenthesized (t.text) else t.text

-- the text as an operand
abbrev pub operand_by : Form → ℕ → Written → List ℕ
operand_by operator_atom max t = parenthesized (t.text)
operand_by no_elements max t = within max t
operand_by (elements es) max t = within max t
operand_by (operation fix) max t = within max t
operand_by simple max t = within max t

abbrev pub operand : ℕ → Written → List ℕ
operand max t = operand_by (t.form) max t

abbrev pub ends_in_operand : Fix → Bool
ends_in_operand Xfy = true
ends_in_operand Fy = true
ends_in_operand Xfx = false
ends_in_operand Yfx = false
ends_in_operand Fx = false

-- an operator term of this priority that would take the operator after it into its own last operand
abbrev pub would_take : Form → ℕ → ℕ → Bool
would_take (operation fix) own priority = ends_in_operand fix && own == priority
would_take operator_atom own priority = false
would_take no_elements own priority = false
would_take (elements es) own priority = false
would_take simple own priority = false

abbrev pub left_operand : ℕ → Fix → Written → List ℕ
left_operand p fix t = if would_take (t.form) (t.priority) p then parenthesized (t.text) else operand (left_of p fix) t

abbrev pub last_byte : List ℕ → ℕ
last_byte [] = 0
last_byte (c ∷ []) = c
last_byte (c ∷ d ∷ text) = last_byte (d ∷ text)

-- two texts, with a space where two symbol characters would meet
abbrev pub beside : List ℕ → List ℕ → List ℕ
beside a b = if is_symbol (last_byte a) && is_symbol (first b) then a ++ 32 ∷ b else a ++ b

abbrev pub infix_text : Style → List ℕ → List ℕ → List ℕ → List ℕ
infix_text style name left right =
    if bytes_eq name (codes ",") then left ++ codes "," ++ right
    else if is_tight style name then beside (beside left name) right
    else left ++ 32 ∷ name_text style name ++ 32 ∷ right

abbrev pub between_commas : List Written → List ℕ
between_commas [] = []
between_commas (t ∷ []) = within 999 t
between_commas (t ∷ u ∷ ts) = within 999 t ++ codes "," ++ between_commas (u ∷ ts)

abbrev pub canonical : Style → List ℕ → List Written → Written
canonical style name ts = simply (functor_text style name ++ parenthesized (between_commas ts))

abbrev pub list_of : List ℕ → Written
list_of es = record { text = codes "[" ++ es ++ codes "]"; priority = 0; form = elements es }

-- a list of one element and a tail
abbrev pub list_by : Form → List ℕ → Written → Written
list_by no_elements head tail = list_of head
list_by (elements es) head tail = list_of (head ++ codes "," ++ es)
list_by operator_atom head tail = list_of (head ++ codes "|" ++ within 999 tail)
list_by (operation fix) head tail = list_of (head ++ codes "|" ++ within 999 tail)
list_by simple head tail = list_of (head ++ codes "|" ++ within 999 tail)

abbrev pub prefix_term : Style → List ℕ → Option (ℕ × Fix) → Written → Written
prefix_term style name None t = canonical style name (t ∷ [])
prefix_term style name (Some op) t =
    record { text = name_text style name ++ 32 ∷ operand (right_of (op.0) (op.1)) t; priority = op.0; form = operation (op.1) }

abbrev pub infix_term : Style → List ℕ → Option (ℕ × Fix) → Written → Written → Written
infix_term style name None t u = canonical style name (t ∷ u ∷ [])
infix_term style name (Some op) t u = record {
  text = infix_text style name (left_operand (op.0) (op.1) t) (operand (right_of (op.0) (op.1)) u);
  priority = op.0;
  form = operation (op.1);
}

-- a compound of this name with these arguments
abbrev pub compound : Style → Ops → List ℕ → List Written → Written
compound style ops name [] = canonical style name []
compound style ops name (t ∷ []) =
    if bytes_eq name (codes "{}") then simply (codes "{" ++ within 1200 t ++ codes "}")
    else prefix_term style name (look_up (ops.prefixes) name) t
compound style ops name (t ∷ u ∷ []) =
    if bytes_eq name (codes ".") then list_by (u.form) (within 999 t) u
    else infix_term style name (look_up (ops.infixes) name) t u
compound style ops name (t ∷ u ∷ v ∷ ts) = canonical style name (t ∷ u ∷ v ∷ ts)

abbrev pub atom : Style → Ops → List ℕ → Written
atom style ops name = record {
  text = name_text style name;
  priority = 0;
  form = if is_operator ops name then operator_atom else if bytes_eq name (codes "[]") then no_elements else simple;
}

-- a cell before the terms that follow it
abbrev pub before_terms : Style → Ops → Cell → List Written → List Written
before_terms style ops (Var n) ts = simply (codes "_" ++ decimal n) ∷ ts
before_terms style ops (Int i) ts = simply (signed_decimal i) ∷ ts
before_terms style ops (Atom name) ts = atom style ops name ∷ ts
before_terms style ops (Func name k) ts = compound style ops name (take k ts) ∷ drop k ts

-- the terms that cells in preorder are, each written
abbrev pub written : Style → Ops → List Cell → List Written
written style ops [] = []
written style ops (c ∷ cells) = before_terms style ops c (written style ops cells)

-- the text of the term that the cells are
abbrev pub text_of : Style → Ops → List Cell → List ℕ
text_of style ops cells = (slice_index_or (written style ops cells) 0 (simply [])).text
