-- The variables of a clause that is read are numbered 0, 1, 2, .. by first occurrence.
use Rattle.std.proofs.Common.{◌≡◌, ℕ, suc, ◌+◌, ◌<◌, ◌≤◌, Bool, true, false, cond, ◌&&◌, List, [], ◌∷◌, ◌++◌, length, refl, sym, ◌∙◌, ap, arith, append_assoc, lt-ltb, le-ltb}
use Rattle.std.proofs.lemmas.Bool.{false≢true}
use Rattle.std.proofs.lemmas.Bool.Decides.{Decides-eqb}
use Rattle.std.proofs.Math.ListN.{length-append}
use Rattle.std.specs.Prelude.{Option, Some, None, nat_lt, nat_le, nat_eq, ◌^◌, codes, pos, ◌==◌}
use Rattle.std.specs.List.{flat_map}
use Rattle.std.specs.Str.{bytes_eq, chars, is_utf8}
use Rattle.cp_term.specs.declared.cell.Cell.{Cell}
use Rattle.cp_term.specs.declared.cell.Cell.TheVariants.{Var, Int, Atom, Func}
use Rattle.cp_char.specs.Characters.{◌∈◌}
use Rattle.cp_term.specs.Numbering.{is_numbered_from}
use Rattle.cp_lex.specs.declared.token.Token.{Token}
use Rattle.cp_lex.specs.declared.token.TokenKind.TheVariants as kinds
use Rattle.cp_ops.specs.declared.fix.Fix.{Fix}
use Rattle.cp_ops.specs.Operators.{Ops, look_up}
use Rattle.cp_read.specs.Lexemes.{Lexeme, leaf, number, is_sign, name, opens, closes, list_opens, list_closes, braces_open, braces_close, comma, bar, stray, place_of, is_anonymous, variable_number, seen_behind, code_list, lexemes, lexeme_by, bracket}
use Rattle.cp_read.specs.Grammar.{Read, Infix, infix_by, infix_at, empty_list}
use Rattle.cp_read.specs.Derivation.{joined, ReadsTerm, ReadsOperand, ReadsArguments, ReadsElements, GoesOn, term, leaf_term, integer, negative, compound, prefix_operator, atom, parentheses, call_parentheses, empty_braces, braces, no_elements, list, last_argument, argument, last_element, element, last_and_tail, ends, operator}
use Rattle.cp_read.proofs.lemmas.WellFormed.{admitted_is}

-- the cells of the leaves
abbrev pub leaves : List Lexeme → List Cell
leaves [] = []
leaves (leaf cells ∷ ls) = cells ++ leaves ls
leaves (l ∷ ls) = leaves ls

-- the variables of the two are numbered alike
abbrev pub Alike : List Cell → List Cell → Type 0
Alike a b = (n : ℕ) → is_numbered_from n a ≡ is_numbered_from n b

then : (a b c : List Cell) → Alike a b → Alike b c → Alike a c
then a b c f g n = f n ∙ g n

equal : (a b : List Cell) → a ≡ b → Alike a b
equal a b e n = ap (λ x. is_numbered_from n x) e

front : (a b c : List Cell) → Alike b c → Alike (a ++ b) (a ++ c)
front [] b c h n = h n
front (Var v ∷ a) b c h n = λ i. cond (nat_lt v n) (front a b c h n i) (nat_eq v n && front a b c h (suc n) i)
front (Int k ∷ a) b c h n = front a b c h n
front (Atom x ∷ a) b c h n = front a b c h n
front (Func f k ∷ a) b c h n = front a b c h n

-- cells in front of cells that are alike
joined_alike : (a b c d : List Cell) → Alike (b ++ c) d → Alike ((a ++ b) ++ c) (a ++ d)
joined_alike a b c d h = then ((a ++ b) ++ c) (a ++ (b ++ c)) (a ++ d) (equal _ _ (append_assoc a b c)) (front a (b ++ c) d h)

infix_leaves_by : (called : List ℕ) (ls : List Lexeme) (o : Option (ℕ × Fix)) (op : Infix) → infix_by called ls o ≡ Some op → leaves ls ≡ leaves (op.rest)
infix_leaves_by called ls None op h = absurd (let none : ⊥ = cc in none)
infix_leaves_by called ls (Some p) op h = ap (λ (q : Infix). leaves (q.rest)) (some_is _ op h)
  where
    some_is : (a b : Infix) → Some a ≡ Some b → a ≡ b
    some_is a b e = cc

infix_leaves : (ops : Ops) (ls : List Lexeme) (op : Infix) → infix_at ops ls ≡ Some op → leaves ls ≡ leaves (op.rest)
infix_leaves ops [] op h = absurd (let none : ⊥ = cc in none)
infix_leaves ops (name called signs ∷ ls) op h = infix_leaves_by called ls (look_up (ops.infixes) called) op h
infix_leaves ops (comma ∷ ls) op h = infix_leaves_by (codes ",") ls (look_up (ops.infixes) (codes ",")) op h
infix_leaves ops (l ∷ ls) op h = absurd (let none : ⊥ = cc in none)

abbrev pub Keeps : List Cell → List Lexeme → List Lexeme → Type 0
Keeps cells rest ls = Alike (cells ++ leaves rest) (leaves ls)

closed_so : (cells : List Cell) (rest more ls : List Lexeme) → leaves rest ≡ leaves more → Keeps cells rest ls → Keeps cells more ls
closed_so cells rest more ls e h = then (cells ++ leaves more) (cells ++ leaves rest) (leaves ls) (equal _ _ (ap (λ x. cells ++ x) (sym e))) h

mutual
  pub keeps_term : (ops : Ops) (max : ℕ) (ls : List Lexeme) (x : Read) → ReadsTerm ops max ls x → Keeps (x.cells) (x.rest) ls
  keeps_term ops _ _ _ (term max ls left x first more) =
      then (x.cells ++ leaves (x.rest)) (left.cells ++ leaves (left.rest)) (leaves ls) (keeps_goes ops max left x more) (keeps_operand ops max ls left first)

  keeps_operand : (ops : Ops) (max : ℕ) (ls : List Lexeme) (x : Read) → ReadsOperand ops max ls x → Keeps (x.cells) (x.rest) ls
  keeps_operand ops _ _ _ (leaf_term max cells ls) = λ n. refl
  keeps_operand ops _ _ _ (integer max k ls small) = λ n. refl
  keeps_operand ops _ _ _ (negative max called k ls) = λ n. refl
  keeps_operand ops _ _ _ (compound max called signs count cells ls rest args) = λ n. keeps_arguments ops count cells ls rest args n
  keeps_operand ops _ _ _ (prefix_operator max called signs op ls x plain here inner) = λ n. keeps_term ops _ ls x inner n
  keeps_operand ops _ _ _ (atom max called signs ls plain here) = λ n. refl
  keeps_operand ops _ _ _ (parentheses max ls rest x inner closed) = closed_so (x.cells) (x.rest) rest ls (ap leaves closed) (keeps_term ops 1200 ls x inner)
  keeps_operand ops _ _ _ (call_parentheses max ls rest x inner closed) = closed_so (x.cells) (x.rest) rest ls (ap leaves closed) (keeps_term ops 1200 ls x inner)
  keeps_operand ops _ _ _ (empty_braces max ls) = λ n. refl
  keeps_operand ops _ _ _ (braces max ls rest x inner closed) = λ n. closed_so (x.cells) (x.rest) rest ls (ap leaves closed) (keeps_term ops 1200 ls x inner) n
  keeps_operand ops _ _ _ (no_elements max ls) = λ n. refl
  keeps_operand ops _ _ _ (list max cells ls rest items) = keeps_elements ops cells ls rest items

  keeps_arguments : (ops : Ops) (count : ℕ) (cells : List Cell) (ls rest : List Lexeme) → ReadsArguments ops count cells ls rest → Keeps cells rest ls
  keeps_arguments ops _ _ _ _ (last_argument ls rest x inner closed) = closed_so (x.cells) (x.rest) rest ls (ap leaves closed) (keeps_term ops 999 ls x inner)
  keeps_arguments ops _ _ _ _ (argument count cells ls more rest x inner closed args) =
      then ((x.cells ++ cells) ++ leaves rest) (x.cells ++ leaves more) (leaves ls)
      (joined_alike (x.cells) cells (leaves rest) (leaves more) (keeps_arguments ops count cells more rest args))
      (closed_so (x.cells) (x.rest) more ls (ap leaves closed) (keeps_term ops 999 ls x inner))

  keeps_elements : (ops : Ops) (cells : List Cell) (ls rest : List Lexeme) → ReadsElements ops cells ls rest → Keeps cells rest ls
  keeps_elements ops _ _ _ (last_element ls rest x inner closed) = λ n.
      then ((x.cells ++ empty_list ∷ []) ++ leaves rest) (x.cells ++ leaves rest) (leaves ls)
      (joined_alike (x.cells) (empty_list ∷ []) (leaves rest) (leaves rest) (λ m. refl))
      (closed_so (x.cells) (x.rest) rest ls (ap leaves closed) (keeps_term ops 999 ls x inner)) n
  keeps_elements ops _ _ _ (element cells ls more rest x inner closed items) = λ n.
      then ((x.cells ++ cells) ++ leaves rest) (x.cells ++ leaves more) (leaves ls)
      (joined_alike (x.cells) cells (leaves rest) (leaves more) (keeps_elements ops cells more rest items))
      (closed_so (x.cells) (x.rest) more ls (ap leaves closed) (keeps_term ops 999 ls x inner)) n
  keeps_elements ops _ _ _ (last_and_tail ls more rest x y inner closed after ended_so) = λ n.
      then ((x.cells ++ y.cells) ++ leaves rest) (x.cells ++ leaves more) (leaves ls)
      (joined_alike (x.cells) (y.cells) (leaves rest) (leaves more) (closed_so (y.cells) (y.rest) rest more (ap leaves ended_so) (keeps_term ops 999 more y after)))
      (closed_so (x.cells) (x.rest) more ls (ap leaves closed) (keeps_term ops 999 ls x inner)) n

  keeps_goes : (ops : Ops) (max : ℕ) (left y : Read) → GoesOn ops max left y → Alike (y.cells ++ leaves (y.rest)) (left.cells ++ leaves (left.rest))
  keeps_goes ops _ _ _ (ends max left none) = λ n. refl
  keeps_goes ops _ _ _ (operator max left x y op some inner more) =
      then (y.cells ++ leaves (y.rest)) ((joined left op x).cells ++ leaves (x.rest)) (left.cells ++ leaves (left.rest)) (keeps_goes ops max (joined left op x) y more)
      (then ((joined left op x).cells ++ leaves (x.rest)) (left.cells ++ leaves (op.rest)) (left.cells ++ leaves (left.rest))
      (λ n. joined_alike (left.cells) (x.cells) (leaves (x.rest)) (leaves (op.rest)) (keeps_term ops _ _ x inner) n)
      (equal _ _ (ap (λ c. left.cells ++ c) (sym (infix_leaves ops (left.rest) op (admitted_is ops max (left.priority) (infix_at ops (left.rest)) op some))))))

-- ---- the lexemes

code_alike : (cs : List ℕ) (b : List Cell) → Alike (flat_map (λ c. Func (codes ".") 2 ∷ Int (pos c) ∷ []) cs ++ b) b
code_alike [] b n = refl
code_alike (c ∷ cs) b n = code_alike cs b n

place_of_le : (seen : List (List ℕ)) (called : List ℕ) → place_of seen called ≤ length seen
place_of_le [] called = omega arith
place_of_le (s ∷ seen) called = elim (bytes_eq s called) as (λ b. cond b 0 (suc (place_of seen called)) ≤ suc (length seen)) [ true ↦ omega arith | false ↦ omega (arith, place_of_le seen called) ]

variable_number_le : (seen : List (List ℕ)) (called : List ℕ) → variable_number seen called ≤ length seen
variable_number_le seen called = elim (is_anonymous called) as (λ b. cond b (length seen) (place_of seen called) ≤ length seen) [ true ↦ omega arith | false ↦ place_of_le seen called ]

strictly : (k n : ℕ) → k ≤ n → (k == n) ≡ false → k < n
strictly k n le e =
    let other : k ≡ n → ⊥ = λ same. false≢true (sym e ∙ (Decides-eqb k n).1 same) in
    omega (arith, other)

joined_code : (bytes : List ℕ) (b : List Cell) → Alike (code_list bytes ++ b) b
joined_code bytes b n = ap (λ c. is_numbered_from n c) (append_assoc (flat_map (λ c. Func (codes ".") 2 ∷ Int (pos c) ∷ []) (chars bytes)) (Atom (codes "[]") ∷ []) b) ∙ code_alike (chars bytes) (Atom (codes "[]") ∷ b) n

-- a lexeme that is no leaf, and a choice of two such
abbrev IsNoLeaf : Lexeme → Type 0
IsNoLeaf l = (ls : List Lexeme) → leaves (l ∷ ls) ≡ leaves ls

either : (b : Bool) (l m : Lexeme) → IsNoLeaf l → IsNoLeaf m → IsNoLeaf (cond b l m)
either true l m f g = f
either false l m f g = g

bracket_leaves : (c : ℕ) (ls : List Lexeme) → Alike (leaves (bracket c ∷ ls)) (leaves ls)
bracket_leaves c ls n = ap (λ x. is_numbered_from n x) (
    either (c ∈ "(") opens _ (λ ls. refl) (either (c ∈ ")") closes _ (λ ls. refl) (either (c ∈ "[") list_opens _ (λ ls. refl) (either (c ∈ "]") list_closes _ (λ ls. refl)
    (either (c ∈ "{") braces_open _ (λ ls. refl) (either (c ∈ "}") braces_close _ (λ ls. refl) (either (c ∈ ",") comma _ (λ ls. refl) (either (c ∈ "|") bar stray (λ ls. refl) (λ ls. refl)))))))) ls)

-- A variable among n that were seen, or the next one: what follows it is numbered behind the variables that are then seen.
numbered_variable : (seen : List (List ℕ)) (called : List ℕ) (cells : List Cell) → is_numbered_from (length (seen_behind seen (kinds.Variable called))) cells ≡ true →
    is_numbered_from (length seen) (Var (variable_number seen called) ∷ cells) ≡ true
numbered_variable seen called cells =
    let k = variable_number seen called in
    let n = length seen in
    let le : k ≤ n = variable_number_le seen called in
    elim (k == n) as (λ b. (k == n) ≡ b → is_numbered_from (length (cond b (seen ++ called ∷ []) seen)) cells ≡ true → cond (nat_lt k n) (is_numbered_from n cells) (nat_eq k n && is_numbered_from (suc n) cells) ≡ true) [
      | true ↦ λ e h.
          let same : k ≡ n = (Decides-eqb k n).0 e in
          let next : length (seen ++ called ∷ []) ≡ suc n = length-append seen (called ∷ []) ∙ (let f : n + 1 ≡ suc n = omega arith in f) in
          rw (le-ltb k n (omega (arith, same)), e) (ap (λ m. is_numbered_from m cells) (sym next) ∙ h)
      | false ↦ λ e h.
          let below : k < n = strictly k n le e in
          rw (lt-ltb k n below) h
    ] refl

-- the leaves of the tokens are numbered, behind the variables seen
pub numbered_lexemes : (seen : List (List ℕ)) (ts : List Token) → is_numbered_from (length seen) (leaves (lexemes seen ts)) ≡ true
numbered_lexemes seen [] = refl
numbered_lexemes seen (t ∷ ts) =
    elim (t.kind) as (λ k. is_numbered_from (length (seen_behind seen k)) (leaves (lexemes (seen_behind seen k) ts)) ≡ true → is_numbered_from (length seen) (leaves (lexeme_by k seen t ts ∷ lexemes (seen_behind seen k) ts)) ≡ true) [
      | kinds.Word called ↦ λ h. ap (λ x. is_numbered_from (length seen) x) (either (is_utf8 called) (name called (is_sign t called ts)) stray (λ ls. refl) (λ ls. refl) (lexemes seen ts)) ∙ h
      | kinds.Variable called ↦ λ h. numbered_variable seen called (leaves (lexemes (seen_behind seen (kinds.Variable called)) ts)) h
      | kinds.Int n ↦ λ h. ap (λ x. is_numbered_from (length seen) x) (either (nat_le n (2 ^ 63)) (number n) stray (λ ls. refl) (λ ls. refl) (lexemes seen ts)) ∙ h
      | kinds.Text bytes ↦ λ h. elim (is_utf8 bytes) as (λ b. is_numbered_from (length seen) (leaves (cond b (leaf (code_list bytes)) stray ∷ lexemes seen ts)) ≡ true) [
        | true ↦ joined_code bytes (leaves (lexemes seen ts)) (length seen) ∙ h
        | false ↦ h
      ]
      | kinds.Punct c ↦ λ h. bracket_leaves c (lexemes seen ts) (length seen) ∙ h
      | kinds.OpenCall ↦ λ h. h
      | kinds.End ↦ λ h. h
    ] (numbered_lexemes (seen_behind seen (t.kind)) ts)

-- the cells of a term that is read from tokens are numbered
pub numbered_term : (ops : Ops) (max : ℕ) (ts : List Token) (x : Read) → ReadsTerm ops max (lexemes [] ts) x → is_numbered_from 0 (x.cells ++ leaves (x.rest)) ≡ true
numbered_term ops max ts x d = keeps_term ops max (lexemes [] ts) x d 0 ∙ numbered_lexemes [] ts
