-- The pieces of a term make its quoted text.
use Rattle.std.proofs.Common.{◌≡◌, ℕ, zero, suc, Bool, true, false, cond, not, ◌||◌, ◌&&◌, List, [], ◌∷◌, ◌++◌, take, drop, map, refl, sym, ◌∙◌, ap, append_assoc, append-nil}
use Rattle.std.specs.Prelude.{nat_lt, Option, Some, None, ℤ, pos, negsuc, codes, decimal, slice_index_or}
use Rattle.std.specs.Str.{bytes_eq}
use Rattle.std.specs.Fmt.{signed_decimal}
use Rattle.std.proofs.lemmas.List.{take-map}
use Rattle.std.proofs.lemmas.List.Concat.{flat_map-append}
use Rattle.std.proofs.lemmas.Bool.{and_parts}
use Rattle.std.proofs.lemmas.Slice.Eq.{bytes_eq-Decides}
use Rattle.cp_char.specs.Characters.{first, is_symbol}
use Rattle.cp_term.specs.declared.cell.Cell.{Cell}
use Rattle.cp_term.specs.declared.cell.Cell.TheVariants.{Var, Int, Atom, Func}
use Rattle.cp_ops.specs.declared.fix.Fix.{Fix}
use Rattle.cp_ops.specs.Operators.{Ops, look_up, left_of, right_of, is_operator}
use Rattle.cp_ops.specs.Text
use Rattle.cp_ops.specs.Text.{quoting, is_tight, is_symbolic, is_plain, in_quotes, name_text, functor_text, parenthesized, last_byte, beside, infix_text, Form, Written, written, text_of}
use Rattle.cp_read.specs.Pieces.{Piece, word, quoted, sign, space, piece_text, pieces_text}
use Rattle.cp_read.proofs.lemmas.Spelling.{Shape, operator_atom, empty_brackets, elements, operation, simple, Spelling, simply, enclosed, in_parentheses, within, operand_by, operand, would_take, left_operand, gap, gap_before, gap_behind, infix_pieces, between_commas, functor, canonical, list_of, list_by, prefix_term, infix_term, braces, compound, atom_pieces, atom, integer_pieces, before_terms, spellings}

abbrev pub form_of : Shape → Form
form_of operator_atom = Text.operator_atom
form_of empty_brackets = Text.no_elements
form_of (elements es) = Text.elements (pieces_text es)
form_of (operation fix) = Text.operation fix
form_of simple = Text.simple

-- a spelling as it is written
abbrev pub shown : Spelling → Written
shown t = record { text = pieces_text (t.pieces); priority = t.priority; form = form_of (t.shape) }

pub text-append : (ps qs : List Piece) → pieces_text (ps ++ qs) ≡ pieces_text ps ++ pieces_text qs
text-append ps qs = flat_map-append piece_text ps qs

enclosed-text : (ps : List Piece) → pieces_text (enclosed ps) ≡ parenthesized (pieces_text ps)
enclosed-text ps = ap (λ x. 40 ∷ x) (text-append ps (sign 41 ∷ []))

within-text : (max : ℕ) (t : Spelling) → pieces_text ((within max t).pieces) ≡ Text.within max (shown t)
within-text max t =
    elim (nat_lt max (t.priority)) as (λ b. pieces_text ((cond b (in_parentheses t) t).pieces) ≡ cond b (parenthesized (pieces_text (t.pieces))) (pieces_text (t.pieces))) [
      | true ↦ enclosed-text (t.pieces)
      | false ↦ refl
    ]

operand_by-text : (s : Shape) (max : ℕ) (t : Spelling) → pieces_text ((operand_by s max t).pieces) ≡ Text.operand_by (form_of s) max (shown t)
operand_by-text operator_atom max t = enclosed-text (t.pieces)
operand_by-text empty_brackets max t = within-text max t
operand_by-text (elements es) max t = within-text max t
operand_by-text (operation fix) max t = within-text max t
operand_by-text simple max t = within-text max t

operand-text : (max : ℕ) (t : Spelling) → pieces_text ((operand max t).pieces) ≡ Text.operand max (shown t)
operand-text max t = operand_by-text (t.shape) max t

would_take-same : (s : Shape) (own p : ℕ) → would_take s own p ≡ Text.would_take (form_of s) own p
would_take-same operator_atom own p = refl
would_take-same empty_brackets own p = refl
would_take-same (elements es) own p = refl
would_take-same (operation fix) own p = refl
would_take-same simple own p = refl

left-text : (p : ℕ) (fix : Fix) (t : Spelling) → pieces_text ((left_operand p fix t).pieces) ≡ Text.left_operand p fix (shown t)
left-text p fix t =
    elim (would_take (t.shape) (t.priority) p) as (λ b. pieces_text ((cond b (in_parentheses t) (operand (left_of p fix) t)).pieces) ≡ cond b (parenthesized (pieces_text (t.pieces))) (Text.operand (left_of p fix) (shown t))) [
      | true ↦ enclosed-text (t.pieces)
      | false ↦ operand-text (left_of p fix) t
    ]
    ∙ ap (λ b. cond b (parenthesized (pieces_text (t.pieces))) (Text.operand (left_of p fix) (shown t))) (would_take-same (t.shape) (t.priority) p)

-- ---- infix operators

pub last_byte-append : (a : List ℕ) (c : ℕ) (b : List ℕ) → last_byte (a ++ c ∷ b) ≡ last_byte (c ∷ b)
last_byte-append [] c b = refl
last_byte-append (x ∷ []) c b = refl
last_byte-append (x ∷ y ∷ a) c b = last_byte-append (y ∷ a) c b

abbrev joined : Bool → List ℕ → List ℕ → List ℕ
joined s a b = cond s (a ++ 32 ∷ b) (a ++ b)

last_byte-joined : (s : Bool) (a : List ℕ) (c : ℕ) (b : List ℕ) → last_byte (joined s a (c ∷ b)) ≡ last_byte (c ∷ b)
last_byte-joined true a c b = last_byte-append a 32 (c ∷ b)
last_byte-joined false a c b = last_byte-append a c b

joined-joined : (s t : Bool) (a b c : List ℕ) → joined t (joined s a b) c ≡ joined s a (joined t b c)
joined-joined true true a b c = append_assoc a (32 ∷ b) (32 ∷ c)
joined-joined true false a b c = append_assoc a (32 ∷ b) c
joined-joined false true a b c = append_assoc a b (32 ∷ c)
joined-joined false false a b c = append_assoc a b c

-- a tight operator's name is its text
pub tight-plain : (name : List ℕ) → is_tight quoting name ≡ true → name_text quoting name ≡ name
tight-plain name h = ap (λ b. cond b name (in_quotes name)) ((and_parts (is_symbolic name) (is_plain name) h).1)

tight-text : (name left right : List ℕ) → is_symbolic name ≡ true →
    joined (is_symbol (last_byte left) && is_symbol (first name)) left (joined (is_symbol (last_byte name) && is_symbol (first right)) name right) ≡ beside (beside left name) right
tight-text [] left right h = absurd (let none : ⊥ = cc in none)
tight-text (c ∷ name) left right h =
    let s = is_symbol (last_byte left) && is_symbol c in
    sym (joined-joined s (is_symbol (last_byte (c ∷ name)) && is_symbol (first right)) left (c ∷ name) right)
    ∙ ap (λ l. joined (is_symbol l && is_symbol (first right)) (joined s left (c ∷ name)) right) (sym (last_byte-joined s left c name))

-- the text of an infix operator between texts, behind the test whether it is written tight
abbrev infix_by : Bool → List ℕ → List ℕ → List ℕ → List ℕ
infix_by tight name left right = cond tight (beside (beside left name) right) (left ++ 32 ∷ name_text quoting name ++ 32 ∷ right)

name_between : (name left right : List ℕ) (tight : Bool) → is_tight quoting name ≡ tight →
    joined (not tight || (is_symbol (last_byte left) && is_symbol (first name))) left (joined (not tight || (is_symbol (last_byte name) && is_symbol (first right))) (name_text quoting name) right)
    ≡ infix_by tight name left right
name_between name left right true h =
    ap (λ n. joined (is_symbol (last_byte left) && is_symbol (first name)) left (joined (is_symbol (last_byte name) && is_symbol (first right)) n right)) (tight-plain name h)
    ∙ tight-text name left right ((and_parts (is_symbolic name) (is_plain name) h).0)
name_between name left right false h = sym (append_assoc left (32 ∷ name_text quoting name) (32 ∷ right))

spaced-text : (s t : Bool) (name : List ℕ) (left right : List Piece) →
    pieces_text (left ++ ((gap s ++ (word name ∷ gap t)) ++ right)) ≡ joined s (pieces_text left) (joined t (name_text quoting name) (pieces_text right))
spaced-text true true name left right = text-append left (space ∷ word name ∷ space ∷ right)
spaced-text true false name left right = text-append left (space ∷ word name ∷ right)
spaced-text false true name left right = text-append left (word name ∷ space ∷ right)
spaced-text false false name left right = text-append left (word name ∷ right)

infix-text : (name : List ℕ) (left right : List Piece) → pieces_text (infix_pieces name left right) ≡ infix_text quoting name (pieces_text left) (pieces_text right)
infix-text name left right =
    elim (bytes_eq name (codes ",")) as (λ b. pieces_text (left ++ (cond b (sign 44 ∷ []) (gap (gap_before name left) ++ (word name ∷ gap (gap_behind name right))) ++ right))
    ≡ cond b (pieces_text left ++ codes "," ++ pieces_text right) (infix_by (is_tight quoting name) name (pieces_text left) (pieces_text right))) [
      | true ↦ text-append left (sign 44 ∷ right) ∙ sym (append_assoc (pieces_text left) (codes ",") (pieces_text right))
      | false ↦ spaced-text (gap_before name left) (gap_behind name right) name left right ∙ name_between name (pieces_text left) (pieces_text right) (is_tight quoting name) refl
    ]

-- ---- terms

functor-text : (name : List ℕ) → piece_text (functor name) ≡ functor_text quoting name
functor-text name =
    elim (bytes_eq name (codes "[]") || bytes_eq name (codes "{}")) as (λ b. piece_text (cond b (quoted name) (word name)) ≡ cond b (in_quotes name) (name_text quoting name)) [ true ↦ refl | false ↦ refl ]

between-text : (ts : List Spelling) → pieces_text (between_commas ts) ≡ Text.between_commas (map shown ts)
between-text [] = refl
between-text (t ∷ []) = within-text 999 t
between-text (t ∷ u ∷ ts) =
    text-append ((within 999 t).pieces) (sign 44 ∷ between_commas (u ∷ ts))
    ∙ ((λ i. within-text 999 t i ++ (44 ∷ between-text (u ∷ ts) i))
    ∙ sym (append_assoc (Text.within 999 (shown t)) (codes ",") (Text.between_commas (map shown (u ∷ ts)))))

canonical-text : (name : List ℕ) (ts : List Spelling) → shown (canonical name ts) ≡ Text.canonical quoting name (map shown ts)
canonical-text name ts =
    ap Text.simply (λ i. functor-text name i ++ (enclosed-text (between_commas ts) ∙ ap parenthesized (between-text ts)) i)

list_of-text : (cells : List Cell) (es : List Piece) (text : List ℕ) → pieces_text es ≡ text → shown (list_of cells es) ≡ Text.list_of text
list_of-text cells es text h =
    (λ i. record { text = 91 ∷ text-append es (sign 93 ∷ []) i; priority = 0; form = Text.elements (pieces_text es) }) ∙ ap Text.list_of h

tail-text : (cells : List Cell) (head : List Piece) (c : ℕ) (tail : List Piece) (text rest : List ℕ) → pieces_text head ≡ text → pieces_text tail ≡ rest →
    shown (list_of cells (head ++ sign c ∷ tail)) ≡ Text.list_of (text ++ c ∷ [] ++ rest)
tail-text cells head c tail text rest h k =
    list_of-text cells (head ++ sign c ∷ tail) (text ++ c ∷ [] ++ rest)
    (text-append head (sign c ∷ tail) ∙ ((λ i. h i ++ (c ∷ k i)) ∙ sym (append_assoc text (c ∷ []) rest)))

list_by-text : (cells : List Cell) (s : Shape) (head : List Piece) (tail : Spelling) (text : List ℕ) → pieces_text head ≡ text → shown (list_by cells s head tail) ≡ Text.list_by (form_of s) text (shown tail)
list_by-text cells empty_brackets head tail text h = list_of-text cells head text h
list_by-text cells (elements es) head tail text h = tail-text cells head 44 es text (pieces_text es) h refl
list_by-text cells operator_atom head tail text h = tail-text cells head 124 ((within 999 tail).pieces) text (Text.within 999 (shown tail)) h (within-text 999 tail)
list_by-text cells (operation fix) head tail text h = tail-text cells head 124 ((within 999 tail).pieces) text (Text.within 999 (shown tail)) h (within-text 999 tail)
list_by-text cells simple head tail text h = tail-text cells head 124 ((within 999 tail).pieces) text (Text.within 999 (shown tail)) h (within-text 999 tail)

prefix-text : (name : List ℕ) (o : Option (ℕ × Fix)) (t : Spelling) → shown (prefix_term name o t) ≡ Text.prefix_term quoting name o (shown t)
prefix-text name None t = canonical-text name (t ∷ [])
prefix-text name (Some op) t = λ i. record {
  text = (ap (λ x. name_text quoting name ++ 32 ∷ x) (operand-text (right_of (op.0) (op.1)) t)) i;
  priority = op.0;
  form = Text.operation (op.1);
}

infix_term-text : (name : List ℕ) (o : Option (ℕ × Fix)) (t u : Spelling) → shown (infix_term name o t u) ≡ Text.infix_term quoting name o (shown t) (shown u)
infix_term-text name None t u = canonical-text name (t ∷ u ∷ [])
infix_term-text name (Some op) t u = λ i. record {
  text = (infix-text name ((left_operand (op.0) (op.1) t).pieces) ((operand (right_of (op.0) (op.1)) u).pieces)
      ∙ (λ j. infix_text quoting name (left-text (op.0) (op.1) t j) (operand-text (right_of (op.0) (op.1)) u j))) i;
  priority = op.0;
  form = Text.operation (op.1);
}

braces-text : (t : Spelling) → shown (braces t) ≡ Text.simply (codes "{" ++ Text.within 1200 (shown t) ++ codes "}")
braces-text t = ap Text.simply (ap (λ x. 123 ∷ x) (text-append ((within 1200 t).pieces) (sign 125 ∷ []) ∙ ap (λ x. x ++ codes "}") (within-text 1200 t)))

compound-text : (ops : Ops) (name : List ℕ) (ts : List Spelling) → shown (compound ops name ts) ≡ Text.compound quoting ops name (map shown ts)
compound-text ops name [] = canonical-text name []
compound-text ops name (t ∷ []) =
    elim (bytes_eq name (codes "{}")) as (λ b. shown (cond b (braces t) (prefix_term name (look_up (ops.prefixes) name) t))
    ≡ cond b (Text.simply (codes "{" ++ Text.within 1200 (shown t) ++ codes "}")) (Text.prefix_term quoting name (look_up (ops.prefixes) name) (shown t))) [
      | true ↦ braces-text t
      | false ↦ prefix-text name (look_up (ops.prefixes) name) t
    ]
compound-text ops name (t ∷ u ∷ []) =
    elim (bytes_eq name (codes ".")) as (λ b. shown (cond b (list_by (Func (codes ".") 2 ∷ t.cells ++ u.cells) (u.shape) ((within 999 t).pieces) u) (infix_term name (look_up (ops.infixes) name) t u))
    ≡ cond b (Text.list_by (form_of (u.shape)) (Text.within 999 (shown t)) (shown u)) (Text.infix_term quoting name (look_up (ops.infixes) name) (shown t) (shown u))) [
      | true ↦ list_by-text (Func (codes ".") 2 ∷ t.cells ++ u.cells) (u.shape) ((within 999 t).pieces) u (Text.within 999 (shown t)) (within-text 999 t)
      | false ↦ infix_term-text name (look_up (ops.infixes) name) t u
    ]
compound-text ops name (t ∷ u ∷ v ∷ ts) = canonical-text name (t ∷ u ∷ v ∷ ts)

atom_pieces-text : (name : List ℕ) → pieces_text (atom_pieces name) ≡ name_text quoting name
atom_pieces-text name =
    elim (bytes_eq name (codes "[]")) as (λ b. bytes_eq name (codes "[]") ≡ b → pieces_text (cond b (sign 91 ∷ sign 93 ∷ []) (cond (bytes_eq name (codes "{}")) (sign 123 ∷ sign 125 ∷ []) (word name ∷ []))) ≡ name_text quoting name) [
      | true ↦ λ e. ap (λ n. name_text quoting n) (sym ((bytes_eq-Decides name (codes "[]")).0 e))
      | false ↦ λ _. elim (bytes_eq name (codes "{}")) as (λ b. bytes_eq name (codes "{}") ≡ b → pieces_text (cond b (sign 123 ∷ sign 125 ∷ []) (word name ∷ [])) ≡ name_text quoting name) [
        | true ↦ λ e. ap (λ n. name_text quoting n) (sym ((bytes_eq-Decides name (codes "{}")).0 e))
        | false ↦ λ _. append-nil (name_text quoting name)
      ] refl
    ] refl

form-atom : (ops : Ops) (name : List ℕ) → form_of ((atom ops name).shape) ≡ (Text.atom quoting ops name).form
form-atom ops name =
    elim (is_operator ops name) as (λ b. form_of (cond b operator_atom (cond (bytes_eq name (codes "[]")) empty_brackets simple)) ≡ cond b Text.operator_atom (cond (bytes_eq name (codes "[]")) Text.no_elements Text.simple)) [
      | true ↦ refl
      | false ↦ elim (bytes_eq name (codes "[]")) as (λ b. form_of (cond b empty_brackets simple) ≡ cond b Text.no_elements Text.simple) [ true ↦ refl | false ↦ refl ]
    ]

atom-text : (ops : Ops) (name : List ℕ) → shown (atom ops name) ≡ Text.atom quoting ops name
atom-text ops name = λ i. record { text = atom_pieces-text name i; priority = 0; form = form-atom ops name i }

integer-text : (n : ℤ) → pieces_text (integer_pieces n) ≡ signed_decimal n
integer-text (pos n) = append-nil (decimal n)
integer-text (negsuc n) = ap (λ x. 45 ∷ x) (append-nil (decimal (suc n)))

drop-shown : (k : ℕ) (ts : List Spelling) → drop k (map shown ts) ≡ map shown (drop k ts)
drop-shown zero ts = refl
drop-shown (suc k) [] = refl
drop-shown (suc k) (t ∷ ts) = drop-shown k ts

before_terms-text : (ops : Ops) (c : Cell) (ts : List Spelling) → map shown (before_terms ops c ts) ≡ Text.before_terms quoting ops c (map shown ts)
before_terms-text ops (Var n) ts = ap (λ x. Text.simply x ∷ map shown ts) (append-nil (codes "_" ++ decimal n))
before_terms-text ops (Int n) ts = ap (λ x. Text.simply x ∷ map shown ts) (integer-text n)
before_terms-text ops (Atom name) ts = ap (λ x. x ∷ map shown ts) (atom-text ops name)
before_terms-text ops (Func name k) ts =
    λ i. (compound-text ops name (take k ts) ∙ ap (λ us. Text.compound quoting ops name us) (sym (take-map shown k ts))) i ∷ sym (drop-shown k ts) i

pub spellings-text : (ops : Ops) (cells : List Cell) → map shown (spellings ops cells) ≡ written quoting ops cells
spellings-text ops [] = refl
spellings-text ops (c ∷ cells) = before_terms-text ops c (spellings ops cells) ∙ ap (λ ts. Text.before_terms quoting ops c ts) (spellings-text ops cells)

-- the first of the spellings
abbrev pub first_of_spellings : List Spelling → Spelling
first_of_spellings ts = slice_index_or ts 0 (simply [] [])

first-shown : (ts : List Spelling) → (slice_index_or (map shown ts) 0 (Text.simply [])).text ≡ pieces_text ((slice_index_or ts 0 (simply [] [])).pieces)
first-shown [] = refl
first-shown (t ∷ ts) = refl

-- the text of a term is that of its pieces
pub spelling-text : (ops : Ops) (cells : List Cell) → text_of quoting ops cells ≡ pieces_text ((first_of_spellings (spellings ops cells)).pieces)
spelling-text ops cells = ap (λ ts. (slice_index_or ts 0 (Text.simply [])).text) (sym (spellings-text ops cells)) ∙ first-shown (spellings ops cells)
