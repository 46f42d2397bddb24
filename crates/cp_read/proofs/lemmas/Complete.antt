-- What the rules derive is read.
use Rattle.std.proofs.Common.{◌≡◌, ℕ, zero, suc, ◌+◌, ◌-◌, ◌<◌, ◌≤◌, ◌^◌, Bool, true, false, List, [], ◌∷◌, ◌++◌, length, refl, sym, ◌∙◌, ap, subst, arith, Ok, append_assoc, lt-ltb}
use Rattle.std.specs.Prelude.{Option, Some, None, Result, codes}
use Rattle.cp_term.specs.declared.cell.Cell.{Cell}
use Rattle.cp_term.specs.declared.cell.Cell.TheVariants.{Atom, Func}
use Rattle.cp_ops.specs.Operators.{Ops, look_up}
use Rattle.cp_read.specs.Lexemes.{Lexeme, number, call_opens, list_closes, braces_close}
use Rattle.cp_read.specs.Grammar.{Stop, ◌>>=◌, Read, primary, Infix, Prefix, prefix_by, admitted, begins_operand, ended, behind_brace, in_braces, arguments, elements, in_brackets, applied, prefixed, named, operand, longer, any_term, clause, empty_list, list_cell}
use Rattle.cp_read.specs.Derivation.{alone, joined, with_prefix, is_plain, operator_by, ReadsTerm, ReadsOperand, ReadsArguments, ReadsElements, GoesOn, ReadsClause, term, leaf_term, integer, negative, compound, prefix_operator, atom, parentheses, call_parentheses, empty_braces, braces, no_elements, list, last_argument, argument, last_element, element, last_and_tail, ends, operator, clause_is}
use Rattle.cp_read.proofs.lemmas.Shrinks.{Leaves, Leaves-operand, Takes-term, FewerInfix, fewer_admitted}
use Rattle.cp_read.proofs.lemmas.Settles.{any_term-level}

bind_of : (r : Result Read Stop) (x : Read) (k : Read → Result Read Stop) (s : Result Read Stop) → r ≡ Ok x → k x ≡ s → (r >>= k) ≡ s
bind_of r x k s e g = ap (λ (r : Result Read Stop). r >>= k) e ∙ g

-- a term that is read leaves fewer lexemes
takes : (ops : Ops) (max : ℕ) (ls : List Lexeme) (x : Read) → any_term ops max ls ≡ Ok x → length (x.rest) ≤ length ls - 1
takes ops max ls x e = subst (λ (r : Result Read Stop). Leaves (length ls - 1) r) e (Takes-term ops (suc (length ls)) max ls)

takes_operand : (ops : Ops) (max : ℕ) (ls : List Lexeme) (x : Read) → operand ops (any_term ops) max ls ≡ Ok x → length (x.rest) ≤ length ls - 1
takes_operand ops max ls x e = subst (λ (r : Result Read Stop). Leaves (length ls - 1) r) e (Leaves-operand ops (any_term ops) (λ m more. Takes-term ops (suc (length more)) m more) max ls)

-- behind a call or a minus sign a word is not plain, and else it is read as an atom or a prefix operator
plain_named : (ops : Ops) (max : ℕ) (called : List ℕ) (signs : Bool) (ls : List Lexeme) → is_plain signs ls ≡ true →
    named ops (any_term ops) max called signs ls ≡ prefixed ops (any_term ops) called (prefix_by max (look_up (ops.prefixes) called)) ls
plain_named ops max called signs (call_opens ∷ ls) h = absurd (let none : ⊥ = cc in none)
plain_named ops max called true (number n ∷ ls) h = absurd (let none : ⊥ = cc in none)
plain_named ops max called true [] h = refl
plain_named ops max called false [] h = refl
plain_named ops max called false (l ∷ ls) h = refl
plain_named ops max called true (l ∷ ls) h = refl

atom_prefixed : (ops : Ops) (called : List ℕ) (o : Option Prefix) (ls : List Lexeme) → operator_by ops o ls ≡ None → prefixed ops (any_term ops) called o ls ≡ primary (Atom called ∷ []) ls
atom_prefixed ops called None ls h = refl
atom_prefixed ops called (Some op) ls h =
    elim (begins_operand ops (op.right) ls) as (λ b. (elim b as (λ _. Option Prefix) [ true ↦ Some op | false ↦ None ]) ≡ None → applied ops (any_term ops) called op b ls ≡ primary (Atom called ∷ []) ls) [
      | true ↦ λ g. absurd (let none : ⊥ = cc in none)
      | false ↦ λ g. refl
    ] h

operator_prefixed : (ops : Ops) (called : List ℕ) (o : Option Prefix) (op : Prefix) (ls : List Lexeme) → operator_by ops o ls ≡ Some op → prefixed ops (any_term ops) called o ls ≡ applied ops (any_term ops) called op true ls
operator_prefixed ops called None op ls h = absurd (let none : ⊥ = cc in none)
operator_prefixed ops called (Some p) op ls h =
    elim (begins_operand ops (p.right) ls) as (λ b. (elim b as (λ _. Option Prefix) [ true ↦ Some p | false ↦ None ]) ≡ Some op → applied ops (any_term ops) called p b ls ≡ applied ops (any_term ops) called op true ls) [
      | true ↦ λ g. ap (λ q. applied ops (any_term ops) called q true ls) (let e : p ≡ op = cc in e)
      | false ↦ λ g. absurd (let none : ⊥ = cc in none)
    ] h

brace_end : (ops : Ops) (cells : List Cell) (ls rest : List Lexeme) → ls ≡ braces_close ∷ rest → ended ops (behind_brace ls) cells ls ≡ primary cells rest
brace_end ops cells ls rest f = rw f refl

longer_ends : (ops : Ops) (n max : ℕ) (left : Read) → admitted ops max left ≡ None → longer ops (any_term ops) (suc n) max left ≡ Ok left
longer_ends ops n max left none = ap (λ (o : Option Infix). elim o as (λ _. Result Read Stop) [
  | None ↦ Ok left
  | Some op ↦ any_term ops (op.right) (op.rest) >>= λ x. longer ops (any_term ops) n max (joined left op x)
]) none

longer_goes : (ops : Ops) (n max : ℕ) (left : Read) (op : Infix) → admitted ops max left ≡ Some op →
    longer ops (any_term ops) (suc n) max left ≡ (any_term ops (op.right) (op.rest) >>= λ x. longer ops (any_term ops) n max (joined left op x))
longer_goes ops n max left op some = ap (λ (o : Option Infix). elim o as (λ _. Result Read Stop) [
  | None ↦ Ok left
  | Some op ↦ any_term ops (op.right) (op.rest) >>= λ x. longer ops (any_term ops) n max (joined left op x)
]) some

-- in_braces and in_brackets where a term follows
braces_term : (ops : Ops) (ls rest : List Lexeme) (x : Read) → any_term ops 1200 ls ≡ Ok x → x.rest ≡ braces_close ∷ rest → in_braces ops (any_term ops) ls ≡ primary (Func (codes "{}") 1 ∷ x.cells) rest
braces_term ops (braces_close ∷ ls) rest x e f = absurd (let none : ⊥ = cc in none)
braces_term ops ls rest x e f = bind_of (any_term ops 1200 ls) x (λ (y : Read). ended ops (behind_brace (y.rest)) (Func (codes "{}") 1 ∷ y.cells) (y.rest)) (primary (Func (codes "{}") 1 ∷ x.cells) rest) e (brace_end ops (Func (codes "{}") 1 ∷ x.cells) (x.rest) rest f)

brackets_elements : (ops : Ops) (ls : List Lexeme) (x : Read) → any_term ops 999 ls ≡ Ok x → in_brackets ops (any_term ops) ls ≡ elements ops (any_term ops) (suc (length ls)) [] ls
brackets_elements ops (list_closes ∷ ls) x e = absurd (let none : ⊥ = cc in none)
brackets_elements ops ls x e = refl

mutual
  pub complete_term : (ops : Ops) (max : ℕ) (ls : List Lexeme) (y : Read) → ReadsTerm ops max ls y → any_term ops max ls ≡ Ok y
  complete_term ops _ _ _ (term max ls left y first more) =
      let e = complete_operand ops max ls left first in
      let short = takes_operand ops max ls left e in
      any_term-level ops max ls ∙ bind_of (operand ops (any_term ops) max ls) left _ (Ok y) e (complete_longer ops max left y more (suc (length ls)) (omega (arith, short)))

  complete_operand : (ops : Ops) (max : ℕ) (ls : List Lexeme) (y : Read) → ReadsOperand ops max ls y → operand ops (any_term ops) max ls ≡ Ok y
  complete_operand ops _ _ _ (leaf_term max cells more) = refl
  complete_operand ops _ _ _ (integer max n more small) = rw (lt-ltb n (2 ^ 63) small) refl
  complete_operand ops _ _ _ (negative max called n more) = refl
  complete_operand ops _ _ _ (compound max called signs count cells more rest args) =
      complete_arguments ops count cells more rest args (suc (length more)) called 0 [] (omega arith)
      ∙ ap (λ k. primary (Func called k ∷ cells) rest) (let e : 0 + count ≡ count = omega arith in e)
  complete_operand ops _ _ _ (prefix_operator max called signs op more x plain here inner) =
      plain_named ops max called signs more plain
      ∙ operator_prefixed ops called (prefix_by max (look_up (ops.prefixes) called)) op more here
      ∙ bind_of (any_term ops (op.right) more) x _ (Ok (with_prefix called op x)) (complete_term ops (op.right) more x inner) refl
  complete_operand ops _ _ _ (atom max called signs more plain here) =
      plain_named ops max called signs more plain ∙ atom_prefixed ops called (prefix_by max (look_up (ops.prefixes) called)) more here
  complete_operand ops _ _ _ (parentheses max more rest x inner closed) =
      bind_of (any_term ops 1200 more) x _ (primary (x.cells) rest) (complete_term ops 1200 more x inner) (rw closed refl)
  complete_operand ops _ _ _ (call_parentheses max more rest x inner closed) =
      bind_of (any_term ops 1200 more) x _ (primary (x.cells) rest) (complete_term ops 1200 more x inner) (rw closed refl)
  complete_operand ops _ _ _ (empty_braces max more) = refl
  complete_operand ops _ _ _ (braces max more rest x inner closed) = braces_term ops more rest x (complete_term ops 1200 more x inner) closed
  complete_operand ops _ _ _ (no_elements max more) = refl
  complete_operand ops _ _ _ (list max cells more rest (last_element ls end x inner closed)) =
      brackets_elements ops ls x (complete_term ops 999 ls x inner) ∙ complete_elements ops _ ls end (last_element ls end x inner closed) (suc (length ls)) [] (omega arith)
  complete_operand ops _ _ _ (list max cells more rest (element others ls next end x inner closed items)) =
      brackets_elements ops ls x (complete_term ops 999 ls x inner) ∙ complete_elements ops _ ls end (element others ls next end x inner closed items) (suc (length ls)) [] (omega arith)
  complete_operand ops _ _ _ (list max cells more rest (last_and_tail ls next end x y inner closed behind ended_so)) =
      brackets_elements ops ls x (complete_term ops 999 ls x inner) ∙ complete_elements ops _ ls end (last_and_tail ls next end x y inner closed behind ended_so) (suc (length ls)) [] (omega arith)

  complete_arguments : (ops : Ops) (count : ℕ) (cells : List Cell) (ls rest : List Lexeme) → ReadsArguments ops count cells ls rest → (n : ℕ) (called : List ℕ) (before : ℕ) (done : List Cell) → length ls < n →
      arguments ops (any_term ops) n called before done ls ≡ primary (Func called (before + count) ∷ done ++ cells) rest
  complete_arguments ops count cells ls rest args zero called before done p = absurd (omega arith)
  complete_arguments ops _ _ _ _ (last_argument ls rest x inner closed) (suc n) called before done p =
      bind_of (any_term ops 999 ls) x _ _ (complete_term ops 999 ls x inner) (rw closed (ap (λ k. primary (Func called k ∷ done ++ x.cells) rest) (let e : suc before ≡ before + 1 = omega arith in e)))
  complete_arguments ops _ _ _ _ (argument k others ls more rest x inner closed args) (suc n) called before done p =
      let e = complete_term ops 999 ls x inner in
      let short = takes ops 999 ls x e in
      let len : length (x.rest) ≡ suc (length more) = ap length closed in
      bind_of (any_term ops 999 ls) x _ _ e (rw closed (complete_arguments ops k others more rest args n called (suc before) (done ++ x.cells) (omega (arith, short, len, p))
      ∙ (λ i. primary (Func called ((let e : suc before + k ≡ before + suc k = omega arith in e) i) ∷ append_assoc done (x.cells) others i) rest)))

  complete_elements : (ops : Ops) (cells : List Cell) (ls rest : List Lexeme) → ReadsElements ops cells ls rest → (n : ℕ) (done : List Cell) → length ls < n →
      elements ops (any_term ops) n done ls ≡ primary (done ++ cells) rest
  complete_elements ops cells ls rest items zero done p = absurd (omega arith)
  complete_elements ops _ _ _ (last_element ls rest x inner closed) (suc n) done p =
      bind_of (any_term ops 999 ls) x _ _ (complete_term ops 999 ls x inner) (rw closed (ap (λ cs. primary cs rest) (append_assoc done (list_cell ∷ x.cells) (empty_list ∷ []))))
  complete_elements ops _ _ _ (element others ls more rest x inner closed items) (suc n) done p =
      let e = complete_term ops 999 ls x inner in
      let short = takes ops 999 ls x e in
      let len : length (x.rest) ≡ suc (length more) = ap length closed in
      bind_of (any_term ops 999 ls) x _ _ e (rw closed (complete_elements ops others more rest items n (done ++ list_cell ∷ x.cells) (omega (arith, short, len, p))
      ∙ ap (λ cs. primary cs rest) (append_assoc done (list_cell ∷ x.cells) others)))
  complete_elements ops _ _ _ (last_and_tail ls more rest x y inner closed behind ended_so) (suc n) done p =
      bind_of (any_term ops 999 ls) x _ _ (complete_term ops 999 ls x inner) (rw closed (bind_of (any_term ops 999 more) y _ _ (complete_term ops 999 more y behind)
      (rw ended_so (ap (λ cs. primary cs rest) (append_assoc done (list_cell ∷ x.cells) (y.cells))))))

  complete_longer : (ops : Ops) (max : ℕ) (left y : Read) → GoesOn ops max left y → (n : ℕ) → length (left.rest) < n → longer ops (any_term ops) n max left ≡ Ok y
  complete_longer ops max left y more zero p = absurd (omega arith)
  complete_longer ops _ _ _ (ends max left none) (suc n) p = longer_ends ops n max left none
  complete_longer ops _ _ _ (operator max left x y op some inner more) (suc n) p =
      let e = complete_term ops (op.right) (op.rest) x inner in
      let short = takes ops (op.right) (op.rest) x e in
      let fewer : length (op.rest) < length (left.rest) = subst (λ (o : Option Infix). FewerInfix (left.rest) o) some (fewer_admitted ops max left) in
      longer_goes ops n max left op some ∙ bind_of (any_term ops (op.right) (op.rest)) x _ (Ok y) e (complete_longer ops max (joined left op x) y more n (omega (arith, short, fewer, p)))

-- a clause by the rules is read
pub complete_clause : (ops : Ops) (cells : List Cell) (ls rest : List Lexeme) → ReadsClause ops cells ls rest → clause ops ls ≡ primary cells rest
complete_clause ops _ _ _ (clause_is ls rest x inner closed) = bind_of (any_term ops 1200 ls) x _ (primary (x.cells) rest) (complete_term ops 1200 ls x inner) (rw closed refl)

same_read : (x y : Read) → let r : Result Read Stop = Ok x in r ≡ Ok y → x ≡ y
same_read x y e = cc

read_is : (a b : List Cell) (r s : List Lexeme) → primary a r ≡ primary b s → (a ≡ b) × (r ≡ s)
read_is a b r s e = let same = same_read (alone a r) (alone b s) e in (ap (λ (x : Read). x.cells) same, ap (λ (x : Read). x.rest) same)

-- so the rules derive no second clause
pub derive_one : (ops : Ops) (a b : List Cell) (ls r s : List Lexeme) → ReadsClause ops a ls r → ReadsClause ops b ls s → (a ≡ b) × (r ≡ s)
derive_one ops a b ls r s d e = read_is a b r s (sym (complete_clause ops a ls r d) ∙ complete_clause ops b ls s e)
