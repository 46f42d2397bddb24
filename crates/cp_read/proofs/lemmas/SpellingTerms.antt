-- Each form of term is read from its pieces.
use Rattle.std.proofs.Common.{◌≡◌, ℕ, suc, ◌^◌, Bool, true, false, cond, not, ◌||◌, ◌&&◌, List, [], ◌∷◌, ◌++◌, length, refl, sym, ◌∙◌, ap, subst, arith, append_assoc, append-nil}
use Rattle.std.specs.Prelude.{nat_lt, Option, Some, None, is_some, ℤ, pos, negsuc, codes}
use Rattle.std.specs.Str.{bytes_eq}
use Rattle.std.proofs.lemmas.Bool.{ltb-true}
use Rattle.std.proofs.lemmas.Slice.Eq.{bytes_eq-Decides}
use Rattle.cp_term.specs.declared.cell.Cell.{Cell}
use Rattle.cp_term.specs.declared.cell.Cell.TheVariants.{Var, Int, Atom, Func}
use Rattle.cp_ops.specs.declared.fix.Fix.{Fix}
use Rattle.cp_ops.specs.Operators.{Ops, look_up, right_of, IsTable}
use Rattle.cp_read.specs.Lexemes.{name}
use Rattle.cp_read.specs.Grammar.{Read, Prefix, prefix_by, is_call, is_prefix_within, begins_operand, empty_list, list_cell}
use Rattle.cp_read.specs.Derivation.{is_plain, operator_by, ReadsTerm, ReadsOperand, ReadsArguments, ReadsElements, GoesOn, term, leaf_term, integer, negative, empty_braces, no_elements, list, last_argument, argument, last_element, element, last_and_tail}
use Rattle.cp_read.specs.Derivation.{compound as compound_rule, atom as atom_rule, braces as braces_rule}
use Rattle.cp_read.specs.Pieces.{Piece, variable, word, quoted, sign, begins_digits}
use Rattle.cp_read.specs.ReadBack.{is_proper}
use Rattle.cp_read.proofs.lemmas.Spelling.{Each, none, one, Shape, operator_atom, empty_brackets, elements, operation, simple, Spelling, simply, within, operand, left_operand, middle, between_commas, functor, cells_of, canonical, list_of, list_by, prefix_term, infix_term, braces, atom_pieces, integer_pieces}
use Rattle.cp_read.proofs.lemmas.Spelling.{atom as atom_spelling}
use Rattle.cp_read.proofs.lemmas.Surroundings.{and_false, lexed, Closing, at_parenthesis, at_bracket, at_brace, at_comma, at_bar, Behind, behind_word, behind_minus, closing_begins, not_called, infix_priority, beyond_parenthesis, beyond_bracket, beyond_brace, beyond_bar, beyond_comma}
use Rattle.cp_read.proofs.lemmas.SpellingReads.{EndsIfBare, IsNotBare, read_before, ReadsTail, IsRead, read_closed, within-read, operand-read, left_operand-read, prefix_of-read, middle-is, infix_of-read}

-- a term of priority 0 that is one operand, whatever its shape
operand_alone : (ops : Ops) (t : Spelling) (b : Bool) (max : ℕ) (more : List Piece) (y : Read) → t.priority ≡ 0 → ReadsOperand ops max (lexed b (t.pieces ++ more)) (record { cells = t.cells; priority = 0; rest = lexed false more }) →
    GoesOn ops max (read_before t more) y → ReadsTerm ops max (lexed b (t.pieces ++ more)) y
operand_alone ops t b max more y e h go =
    term max (lexed b (t.pieces ++ more)) (record { cells = t.cells; priority = 0; rest = lexed false more }) y h
    (subst (λ p. GoesOn ops max (record { cells = t.cells; priority = p; rest = lexed false more }) y) e go)

-- ---- variables and integers

pub variable-read : (ops : Ops) (n : ℕ) → IsRead ops (simply (Var n ∷ []) (variable n ∷ []))
variable-read ops n = record {
  reads = λ b max more y le st go. operand_alone ops (simply (Var n ∷ []) (variable n ∷ [])) b max more y refl (leaf_term max (Var n ∷ []) (lexed false more)) go;
  begins = λ b max more le bare. refl;
  tail = tt;
  low = omega arith;
}

integer_operand : (ops : Ops) (n : ℤ) (b : Bool) (max : ℕ) (more : List Piece) → is_proper (Int n) ≡ true → ReadsOperand ops max (lexed b (integer_pieces n ++ more)) (record { cells = Int n ∷ []; priority = 0; rest = lexed false more })
integer_operand ops (pos n) b max more h = integer max n (lexed false more) (ltb-true n (2 ^ 63) h)
integer_operand ops (negsuc n) b max more h = negative max (codes "-") (suc n) (lexed false more)

integer_begins : (ops : Ops) (n : ℤ) (b : Bool) (max : ℕ) (more : List Piece) → begins_operand ops max (lexed b (integer_pieces n ++ more)) ≡ true
integer_begins ops (pos n) b max more = refl
integer_begins ops (negsuc n) b max more = refl

pub integer-read : (ops : Ops) (n : ℤ) → is_proper (Int n) ≡ true → IsRead ops (simply (Int n ∷ []) (integer_pieces n))
integer-read ops n h = record {
  reads = λ b max more y le st go. operand_alone ops (simply (Int n ∷ []) (integer_pieces n)) b max more y refl (integer_operand ops n b max more h) go;
  begins = λ b max more le bare. integer_begins ops n b max more;
  tail = tt;
  low = omega arith;
}

-- ---- compounds in functional notation

second_true : (a b c d : Bool) → b ≡ true → (a || b || c || d) ≡ true
second_true true b c d h = refl
second_true false true c d h = refl
second_true false false c d h = absurd (let never : ⊥ = cc in never)

module _ (ops : Ops) (table : IsTable ops) where
  arguments_read : (t : Spelling) (ts : List Spelling) (more : List Piece) → IsRead ops t → Each (IsRead ops) ts →
      ReadsArguments ops (suc (length ts)) (t.cells ++ cells_of ts) (lexed false (between_commas (t ∷ ts) ++ sign 41 ∷ more)) (lexed false more)
  arguments_read t [] more h hs =
      let w = within 999 t in
      let k = within-read ops 999 t h in
      let x = read_before w (sign 41 ∷ more) in
      subst (λ cells. ReadsArguments ops 1 cells (lexed false (w.pieces ++ sign 41 ∷ more)) (lexed false more)) (k.same ∙ sym (append-nil (t.cells)))
      (last_argument (lexed false (w.pieces ++ sign 41 ∷ more)) (lexed false more) x (read_closed ops w false 999 (sign 41 ∷ more) (k.read) (k.low) (at_parenthesis more) (beyond_parenthesis ops 999 more)) refl)
  arguments_read t (u ∷ us) more h (one _ _ hu hus) =
      let w = within 999 t in
      let k = within-read ops 999 t h in
      let rest = between_commas (u ∷ us) ++ sign 41 ∷ more in
      let x = read_before w (sign 44 ∷ rest) in
      subst (λ ps. ReadsArguments ops (suc (suc (length us))) (t.cells ++ cells_of (u ∷ us)) (lexed false ps) (lexed false more)) (sym (append_assoc (w.pieces) (sign 44 ∷ between_commas (u ∷ us)) (sign 41 ∷ more)))
      (subst (λ cells. ReadsArguments ops (suc (suc (length us))) (cells ++ cells_of (u ∷ us)) (lexed false (w.pieces ++ sign 44 ∷ rest)) (lexed false more)) (k.same)
      (argument (suc (length us)) (cells_of (u ∷ us)) (lexed false (w.pieces ++ sign 44 ∷ rest)) (lexed false rest) (lexed false more) x
      (read_closed ops w false 999 (sign 44 ∷ rest) (k.read) (k.low) (at_comma rest) (beyond_comma ops table rest)) refl (arguments_read u us more hu hus)))

  functor_operand : (called : List ℕ) (f : Bool) (count : ℕ) (cells : List Cell) (b : Bool) (max : ℕ) (ps more : List Piece) → ReadsArguments ops count cells (lexed false (ps ++ sign 41 ∷ more)) (lexed false more) →
      ReadsOperand ops max (lexed b (cond f (quoted called) (word called) ∷ sign 40 ∷ (ps ++ sign 41 ∷ more))) (record { cells = Func called count ∷ cells; priority = 0; rest = lexed false more })
  functor_operand called true count cells b max ps more h = compound_rule max called false count cells (lexed false (ps ++ sign 41 ∷ more)) (lexed false more) h
  functor_operand called false count cells b max ps more h = compound_rule max called (bytes_eq called (codes "-") && false) count cells (lexed false (ps ++ sign 41 ∷ more)) (lexed false more) h

  functor_begins : (called : List ℕ) (f b : Bool) (max : ℕ) (ps : List Piece) → begins_operand ops max (lexed b (cond f (quoted called) (word called) ∷ sign 40 ∷ ps)) ≡ true
  functor_begins called true b max ps = refl
  functor_begins called false b max ps = second_true (bytes_eq called (codes "-") && false) true _ _ refl

  pub canonical-read : (called : List ℕ) (t : Spelling) (ts : List Spelling) → IsRead ops t → Each (IsRead ops) ts → IsRead ops (canonical called (t ∷ ts))
  canonical-read called t ts h hs =
      let special = bytes_eq called (codes "[]") || bytes_eq called (codes "{}") in
      let ps = between_commas (t ∷ ts) in
      record {
        reads = λ b max more y le st go.
            operand_alone ops (canonical called (t ∷ ts)) b max more y refl
            (subst (λ qs. ReadsOperand ops max (lexed b (functor called ∷ sign 40 ∷ qs)) (record { cells = Func called (suc (length ts)) ∷ t.cells ++ cells_of ts; priority = 0; rest = lexed false more })) (sym (append_assoc ps (sign 41 ∷ []) more))
            (functor_operand called special (suc (length ts)) (t.cells ++ cells_of ts) b max ps more (arguments_read t ts more h hs)))
            go;
        begins = λ b max more le bare. functor_begins called special b max ((ps ++ sign 41 ∷ []) ++ more);
        tail = tt;
        low = omega arith;
      }

-- ---- braces

brace_operand : (ops : Ops) (t : Spelling) (b : Bool) (max : ℕ) (more : List Piece) → IsRead ops t →
    ReadsOperand ops max (lexed b (sign 123 ∷ ((within 1200 t).pieces ++ sign 125 ∷ more))) (record { cells = Func (codes "{}") 1 ∷ t.cells; priority = 0; rest = lexed false more })
brace_operand ops t true max more h =
    let w = within 1200 t in
    let k = within-read ops 1200 t h in
    subst (λ cells. ReadsOperand ops max (lexed true (sign 123 ∷ (w.pieces ++ sign 125 ∷ more))) (record { cells = Func (codes "{}") 1 ∷ cells; priority = 0; rest = lexed false more })) (k.same)
    (braces_rule max (lexed false (w.pieces ++ sign 125 ∷ more)) (lexed false more) (read_before w (sign 125 ∷ more))
    (read_closed ops w false 1200 (sign 125 ∷ more) (k.read) (k.low) (at_brace more) (beyond_brace ops 1200 more)) refl)
brace_operand ops t false max more h =
    let w = within 1200 t in
    let k = within-read ops 1200 t h in
    subst (λ cells. ReadsOperand ops max (lexed false (sign 123 ∷ (w.pieces ++ sign 125 ∷ more))) (record { cells = Func (codes "{}") 1 ∷ cells; priority = 0; rest = lexed false more })) (k.same)
    (braces_rule max (lexed false (w.pieces ++ sign 125 ∷ more)) (lexed false more) (read_before w (sign 125 ∷ more))
    (read_closed ops w false 1200 (sign 125 ∷ more) (k.read) (k.low) (at_brace more) (beyond_brace ops 1200 more)) refl)

brace_begins : (ops : Ops) (b : Bool) (max : ℕ) (ps : List Piece) → begins_operand ops max (lexed b (sign 123 ∷ ps)) ≡ true
brace_begins ops true max ps = refl
brace_begins ops false max ps = refl

pub braces-read : (ops : Ops) (t : Spelling) → IsRead ops t → IsRead ops (braces t)
braces-read ops t h = record {
  reads = λ b max more y le st go.
      operand_alone ops (braces t) b max more y refl
      (subst (λ qs. ReadsOperand ops max (lexed b (sign 123 ∷ qs)) (record { cells = Func (codes "{}") 1 ∷ t.cells; priority = 0; rest = lexed false more })) (sym (append_assoc ((within 1200 t).pieces) (sign 125 ∷ []) more))
      (brace_operand ops t b max more h))
      go;
  begins = λ b max more le bare. brace_begins ops b max (((within 1200 t).pieces ++ sign 125 ∷ []) ++ more);
  tail = tt;
  low = omega arith;
}

-- ---- lists

bracket_operand : (ops : Ops) (cells : List Cell) (b : Bool) (max : ℕ) (es more : List Piece) → ReadsElements ops cells (lexed false (es ++ sign 93 ∷ more)) (lexed false more) →
    ReadsOperand ops max (lexed b (sign 91 ∷ (es ++ sign 93 ∷ more))) (record { cells = cells; priority = 0; rest = lexed false more })
bracket_operand ops cells true max es more h = list max cells (lexed false (es ++ sign 93 ∷ more)) (lexed false more) h
bracket_operand ops cells false max es more h = list max cells (lexed false (es ++ sign 93 ∷ more)) (lexed false more) h

bracket_begins : (ops : Ops) (b : Bool) (max : ℕ) (ps : List Piece) → begins_operand ops max (lexed b (sign 91 ∷ ps)) ≡ true
bracket_begins ops true max ps = refl
bracket_begins ops false max ps = refl

list_of-read : (ops : Ops) (cells : List Cell) (es : List Piece) → ((more : List Piece) → ReadsElements ops cells (lexed false (es ++ sign 93 ∷ more)) (lexed false more)) → IsRead ops (list_of cells es)
list_of-read ops cells es h = record {
  reads = λ b max more y le st go.
      operand_alone ops (list_of cells es) b max more y refl
      (subst (λ qs. ReadsOperand ops max (lexed b (sign 91 ∷ qs)) (record { cells = cells; priority = 0; rest = lexed false more })) (sym (append_assoc es (sign 93 ∷ []) more))
      (bracket_operand ops cells b max es more (h more)))
      go;
  begins = λ b max more le bare. bracket_begins ops b max ((es ++ sign 93 ∷ []) ++ more);
  tail = h;
  low = omega arith;
}

module _ (ops : Ops) (table : IsTable ops) where
  last_read : (t : Spelling) (tail : List Cell) → IsRead ops t → tail ≡ empty_list ∷ [] → (more : List Piece) → ReadsElements ops (list_cell ∷ t.cells ++ tail) (lexed false ((within 999 t).pieces ++ sign 93 ∷ more)) (lexed false more)
  last_read t tail h e more =
      let w = within 999 t in
      let k = within-read ops 999 t h in
      let ls = lexed false (w.pieces ++ sign 93 ∷ more) in
      subst (λ cells. ReadsElements ops (list_cell ∷ t.cells ++ cells) ls (lexed false more)) (sym e)
      (subst (λ cells. ReadsElements ops (list_cell ∷ cells ++ empty_list ∷ []) ls (lexed false more)) (k.same)
      (last_element ls (lexed false more) (read_before w (sign 93 ∷ more)) (read_closed ops w false 999 (sign 93 ∷ more) (k.read) (k.low) (at_bracket more) (beyond_bracket ops 999 more)) refl))

  element_read : (t : Spelling) (tail : List Cell) (es : List Piece) → IsRead ops t → ((more : List Piece) → ReadsElements ops tail (lexed false (es ++ sign 93 ∷ more)) (lexed false more)) →
      (more : List Piece) → ReadsElements ops (list_cell ∷ t.cells ++ tail) (lexed false (((within 999 t).pieces ++ sign 44 ∷ es) ++ sign 93 ∷ more)) (lexed false more)
  element_read t tail es h items more =
      let w = within 999 t in
      let k = within-read ops 999 t h in
      let rest = es ++ sign 93 ∷ more in
      subst (λ ps. ReadsElements ops (list_cell ∷ t.cells ++ tail) (lexed false ps) (lexed false more)) (sym (append_assoc (w.pieces) (sign 44 ∷ es) (sign 93 ∷ more)))
      (subst (λ cells. ReadsElements ops (list_cell ∷ cells ++ tail) (lexed false (w.pieces ++ sign 44 ∷ rest)) (lexed false more)) (k.same)
      (element tail (lexed false (w.pieces ++ sign 44 ∷ rest)) (lexed false rest) (lexed false more) (read_before w (sign 44 ∷ rest))
      (read_closed ops w false 999 (sign 44 ∷ rest) (k.read) (k.low) (at_comma rest) (beyond_comma ops table rest)) refl (items more)))

  tail_read : (t u : Spelling) → IsRead ops t → IsRead ops u →
      (more : List Piece) → ReadsElements ops (list_cell ∷ t.cells ++ u.cells) (lexed false (((within 999 t).pieces ++ sign 124 ∷ (within 999 u).pieces) ++ sign 93 ∷ more)) (lexed false more)
  tail_read t u h g more =
      let w = within 999 t in
      let k = within-read ops 999 t h in
      let v = within 999 u in
      let l = within-read ops 999 u g in
      let rest = v.pieces ++ sign 93 ∷ more in
      subst (λ ps. ReadsElements ops (list_cell ∷ t.cells ++ u.cells) (lexed false ps) (lexed false more)) (sym (append_assoc (w.pieces) (sign 124 ∷ v.pieces) (sign 93 ∷ more)))
      (subst (λ cells. ReadsElements ops (list_cell ∷ cells ++ u.cells) (lexed false (w.pieces ++ sign 124 ∷ rest)) (lexed false more)) (k.same)
      (subst (λ cells. ReadsElements ops (list_cell ∷ w.cells ++ cells) (lexed false (w.pieces ++ sign 124 ∷ rest)) (lexed false more)) (l.same)
      (last_and_tail (lexed false (w.pieces ++ sign 124 ∷ rest)) (lexed false rest) (lexed false more) (read_before w (sign 124 ∷ rest)) (read_before v (sign 93 ∷ more))
      (read_closed ops w false 999 (sign 124 ∷ rest) (k.read) (k.low) (at_bar rest) (beyond_bar ops 999 rest)) refl
      (read_closed ops v false 999 (sign 93 ∷ more) (l.read) (l.low) (at_bracket more) (beyond_bracket ops 999 more)) refl)))

  list_by-read : (s : Shape) (t u : Spelling) → IsRead ops t → IsRead ops u → ReadsTail ops u s → IsRead ops (list_by (list_cell ∷ t.cells ++ u.cells) s ((within 999 t).pieces) u)
  list_by-read operator_atom t u h g k = list_of-read ops _ _ (tail_read t u h g)
  list_by-read empty_brackets t u h g k = list_of-read ops _ _ (last_read t (u.cells) h k)
  list_by-read (elements es) t u h g k = list_of-read ops _ _ (element_read t (u.cells) es h k)
  list_by-read (operation fix) t u h g k = list_of-read ops _ _ (tail_read t u h g)
  list_by-read simple t u h g k = list_of-read ops _ _ (tail_read t u h g)

  pub list-read : (t u : Spelling) → IsRead ops t → IsRead ops u → IsRead ops (list_by (list_cell ∷ t.cells ++ u.cells) (u.shape) ((within 999 t).pieces) u)
  list-read t u h g = list_by-read (u.shape) t u h g (g.tail)

  -- ---- operators

  pub prefix_term-read : (called : List ℕ) (o : Option (ℕ × Fix)) (t : Spelling) → look_up (ops.prefixes) called ≡ o → IsRead ops t → IsRead ops (prefix_term called o t)
  prefix_term-read called None t e h = canonical-read ops table called t [] h none
  prefix_term-read called (Some op) t e h = prefix_of-read ops table called op t (operand (right_of (op.0) (op.1)) t) e (operand-read ops (right_of (op.0) (op.1)) t h)

  pub infix_term-read : (called : List ℕ) (o : Option (ℕ × Fix)) (t u : Spelling) → look_up (ops.infixes) called ≡ o → IsRead ops t → IsRead ops u → IsRead ops (infix_term called o t u)
  infix_term-read called None t u e h g = canonical-read ops table called t (u ∷ []) h (one u [] g none)
  infix_term-read called (Some op) t u e h g =
      let left = left_operand (op.0) (op.1) t in
      let right = operand (right_of (op.0) (op.1)) u in
      infix_of-read ops table called op e (t.cells) (u.cells) left right (middle called (left.pieces) (right.pieces)) (middle-is ops called op (left.pieces) (right.pieces) e)
      (left_operand-read ops (op.0) (op.1) t (infix_priority ops table called op e).some h) (operand-read ops (right_of (op.0) (op.1)) u g)

-- ---- atoms

brackets_operand : (ops : Ops) (b : Bool) (max : ℕ) (more : List Piece) → ReadsOperand ops max (lexed b (sign 91 ∷ sign 93 ∷ more)) (record { cells = Atom (codes "[]") ∷ []; priority = 0; rest = lexed false more })
brackets_operand ops true max more = no_elements max (lexed false more)
brackets_operand ops false max more = no_elements max (lexed false more)

braces_operand : (ops : Ops) (b : Bool) (max : ℕ) (more : List Piece) → ReadsOperand ops max (lexed b (sign 123 ∷ sign 125 ∷ more)) (record { cells = Atom (codes "{}") ∷ []; priority = 0; rest = lexed false more })
braces_operand ops true max more = empty_braces max (lexed false more)
braces_operand ops false max more = empty_braces max (lexed false more)

-- no operand follows a word that is a prefix operator only before what ends a term
no_prefix : (ops : Ops) (max : ℕ) (o : Option (ℕ × Fix)) (more : List Piece) → (is_some o ≡ true → Closing more) → operator_by ops (prefix_by max o) (lexed false more) ≡ None
no_prefix ops max None more h = refl
no_prefix ops max (Some op) more h = ending (cond (nat_lt max (op.0)) (record { priority = 999; right = 999 }) (record { priority = op.0; right = right_of (op.0) (op.1) }))
  where
    ending : (p : Prefix) → operator_by ops (Some p) (lexed false more) ≡ None
    ending p = ap (λ (b : Bool). elim b as (λ _. Option Prefix) [ true ↦ Some p | false ↦ None ]) (closing_begins ops (p.right) more (h refl))

word_operand : (ops : Ops) (called : List ℕ) (b : Bool) (max : ℕ) (more : List Piece) → Behind more → (is_some (look_up (ops.prefixes) called) ≡ true → Closing more) →
    ReadsOperand ops max (lexed b (word called ∷ more)) (record { cells = Atom called ∷ []; priority = 0; rest = lexed false more })
word_operand ops called b max more behind h =
    let minus = bytes_eq called (codes "-") in
    subst (λ s. ReadsOperand ops max (name called (minus && s) ∷ lexed true more) (record { cells = Atom called ∷ []; priority = 0; rest = lexed false more })) (sym (behind_minus more behind))
    (subst (λ ls. ReadsOperand ops max (name called (minus && false) ∷ ls) (record { cells = Atom called ∷ []; priority = 0; rest = lexed false more })) (sym (behind_word true more behind))
    (atom_rule max called (minus && false) (lexed false more)
    (ap (λ s. is_plain s (lexed false more)) (and_false minus) ∙ not_called more)
    (no_prefix ops max (look_up (ops.prefixes) called) more h)))

atom_operand : (ops : Ops) (called : List ℕ) (b : Bool) (max : ℕ) (more : List Piece) → Behind more → (is_some (look_up (ops.prefixes) called) ≡ true → Closing more) →
    ReadsOperand ops max (lexed b (atom_pieces called ++ more)) (record { cells = Atom called ∷ []; priority = 0; rest = lexed false more })
atom_operand ops called b max more behind h =
    elim (bytes_eq called (codes "[]")) as (λ t. bytes_eq called (codes "[]") ≡ t →
    ReadsOperand ops max (lexed b (cond t (sign 91 ∷ sign 93 ∷ []) (cond (bytes_eq called (codes "{}")) (sign 123 ∷ sign 125 ∷ []) (word called ∷ [])) ++ more)) (record { cells = Atom called ∷ []; priority = 0; rest = lexed false more })) [
      | true ↦ λ e. subst (λ n. ReadsOperand ops max (lexed b (sign 91 ∷ sign 93 ∷ more)) (record { cells = Atom n ∷ []; priority = 0; rest = lexed false more })) (sym ((bytes_eq-Decides called (codes "[]")).0 e)) (brackets_operand ops b max more)
      | false ↦ λ _. elim (bytes_eq called (codes "{}")) as (λ t. bytes_eq called (codes "{}") ≡ t →
          ReadsOperand ops max (lexed b (cond t (sign 123 ∷ sign 125 ∷ []) (word called ∷ []) ++ more)) (record { cells = Atom called ∷ []; priority = 0; rest = lexed false more })) [
            | true ↦ λ e. subst (λ n. ReadsOperand ops max (lexed b (sign 123 ∷ sign 125 ∷ more)) (record { cells = Atom n ∷ []; priority = 0; rest = lexed false more })) (sym ((bytes_eq-Decides called (codes "{}")).0 e)) (braces_operand ops b max more)
            | false ↦ λ _. word_operand ops called b max more behind h
          ] refl
    ] refl

third_true : (a b c d : Bool) → c ≡ true → (a || b || c || d) ≡ true
third_true true b c d h = refl
third_true false true c d h = refl
third_true false false true d h = refl
third_true false false false d h = absurd (let never : ⊥ = cc in never)

atom_begins : (ops : Ops) (called : List ℕ) (b : Bool) (max : ℕ) (more : List Piece) → is_some (look_up (ops.infixes) called) ≡ false → begins_operand ops max (lexed b (atom_pieces called ++ more)) ≡ true
atom_begins ops called b max more free =
    elim (bytes_eq called (codes "[]")) as (λ t. begins_operand ops max (lexed b (cond t (sign 91 ∷ sign 93 ∷ []) (cond (bytes_eq called (codes "{}")) (sign 123 ∷ sign 125 ∷ []) (word called ∷ [])) ++ more)) ≡ true) [
      | true ↦ bracket_begins ops b max (sign 93 ∷ more)
      | false ↦ elim (bytes_eq called (codes "{}")) as (λ t. begins_operand ops max (lexed b (cond t (sign 123 ∷ sign 125 ∷ []) (word called ∷ []) ++ more)) ≡ true) [
        | true ↦ brace_begins ops b max (sign 125 ∷ more)
        | false ↦ third_true (bytes_eq called (codes "-") && begins_digits more) (is_call (lexed true more)) (not (is_some (look_up (ops.infixes) called))) (is_prefix_within ops max (look_up (ops.prefixes) called)) (ap not free)
      ]
    ]

-- an atom whose shape says whether it is an operator
atom_tail : (ops : Ops) (called : List ℕ) (f g : Bool) → bytes_eq called (codes "[]") ≡ g →
    ReadsTail ops (record { cells = Atom called ∷ []; pieces = atom_pieces called; priority = 0; shape = cond f operator_atom (cond g empty_brackets simple) }) (cond f operator_atom (cond g empty_brackets simple))
atom_tail ops called true g e = tt
atom_tail ops called false true e = ap (λ n. Atom n ∷ []) ((bytes_eq-Decides called (codes "[]")).0 e)
atom_tail ops called false false e = tt

bare_ends : (f g : Bool) (more : List Piece) → EndsIfBare (cond f operator_atom (cond g empty_brackets simple)) more → f ≡ true → Closing more
bare_ends true g more h e = h
bare_ends false g more h e = absurd (let never : ⊥ = cc in never)

bare_not : (f g : Bool) → IsNotBare (cond f operator_atom (cond g empty_brackets simple)) → f ≡ false
bare_not true g h = absurd h
bare_not false g h = refl

or_left : (a b : Bool) → a ≡ true → (a || b) ≡ true
or_left true b h = refl
or_left false b h = absurd (let never : ⊥ = cc in never)

or_false : (a b : Bool) → (a || b) ≡ false → b ≡ false
or_false true b h = absurd (let never : ⊥ = cc in never)
or_false false b h = h

pub atom-read : (ops : Ops) (called : List ℕ) → IsRead ops (atom_spelling ops called)
atom-read ops called =
    let special = bytes_eq called (codes "[]") in
    let prefixed = is_some (look_up (ops.prefixes) called) in
    let infixed = is_some (look_up (ops.infixes) called) in
    record {
      reads = λ b max more y le st go.
          operand_alone ops (atom_spelling ops called) b max more y refl
          (atom_operand ops called b max more (st.behind) (λ h. bare_ends (prefixed || infixed) special more (st.ending) (or_left prefixed infixed h)))
          go;
      begins = λ b max more le bare. atom_begins ops called b max more (or_false prefixed infixed (bare_not (prefixed || infixed) special bare));
      tail = atom_tail ops called (prefixed || infixed) special refl;
      low = omega arith;
    }
