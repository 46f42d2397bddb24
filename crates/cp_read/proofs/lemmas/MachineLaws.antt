-- The steps of reading without recursion.
use Rattle.std.proofs.Common.{◌≡◌, ℕ, suc, ◌-◌, ◌<◌, Bool, true, false, List, [], ◌∷◌, ◌++◌, length, refl, ◌∙◌, ap, subst, arith, Ok, Err}
use Rattle.std.specs.Prelude.{Option, Some, None, Result}
use Rattle.cp_term.specs.declared.cell.Cell.{Cell}
use Rattle.cp_term.specs.declared.cell.Cell.TheVariants.{Atom, Func}
use Rattle.cp_ops.specs.Operators.{Ops, look_up}
use Rattle.cp_read.specs.Lexemes.{Lexeme, number, name, call_opens, opens, list_opens, list_closes, braces_open, braces_close}
use Rattle.cp_read.specs.Grammar.{Stop, ◌>>=◌, Read, primary, Infix, Prefix, prefix_by, refused, admitted, begins_operand, ended, behind_end, closed_by, comma_and, bar_and, neither, behind_argument, behind_element, arguments, elements, tail, applied, prefixed, operand, longer, any_term, empty_list, list_cell}
use Rattle.cp_read.specs.Derivation.{joined, is_plain}
use Rattle.cp_read.specs.Machine.{Open, operand_of, parentheses, braces, arguments_of, elements_of, tail_of, go_on, all_arguments, all_elements, behind_one, behind_item, closed, max_of, plugged, expects, has, meaning}
use Rattle.cp_read.proofs.lemmas.Shrinks.{Leaves-operand, Takes, Takes-term, FewerBehind, fewer_argument, fewer_element, FewerInfix, fewer_admitted}
use Rattle.cp_read.proofs.lemmas.Settles.{Agrees, agrees, Agrees-bind, Agrees-longer, Agrees-operand, Agrees-arguments, Agrees-elements, Agrees-tail, settled_term, any_term-level, refusal}

-- ---- the grammar without the numbers that bound it

pub any_takes : (ops : Ops) → Takes (any_term ops)
any_takes ops max ls = Takes-term ops (suc (length ls)) max ls

any_agrees : (ops : Ops) (bound max : ℕ) (ls : List Lexeme) → length ls < bound → Agrees (any_term ops max ls) (any_term ops max ls)
any_agrees ops bound max ls h = agrees (any_term ops max ls) (settled_term ops max ls)

longer-go_on : (ops : Ops) (n max : ℕ) (left : Read) → length (left.rest) < n → Agrees (longer ops (any_term ops) n max left) (go_on ops max left)
longer-go_on ops n max left h = Agrees-longer ops (any_term ops) (any_term ops) (any_takes ops) (length (left.rest)) (any_agrees ops (length (left.rest))) n (suc (length (left.rest))) max left h (omega arith) (omega arith)

-- a term is its first operand, and what goes on from there
any_term-go_on : (ops : Ops) (max : ℕ) (ls : List Lexeme) → any_term ops max ls ≡ (operand ops (any_term ops) max ls >>= λ left. go_on ops max left)
any_term-go_on ops max ls =
    any_term-level ops max ls
    ∙ (Agrees-bind (length ls - 1) (operand ops (any_term ops) max ls) (operand ops (any_term ops) max ls) (λ left. longer ops (any_term ops) (suc (length ls)) max left) (λ left. go_on ops max left)
    (Agrees-operand ops (any_term ops) (any_term ops) (any_takes ops) (length ls) (any_agrees ops (length ls)) max ls (omega arith))
    (Leaves-operand ops (any_term ops) (any_takes ops) max ls) (λ left h. longer-go_on ops (suc (length ls)) max left (omega (arith, h)))).same

go_on-ends : (ops : Ops) (max : ℕ) (left : Read) → admitted ops max left ≡ None → go_on ops max left ≡ Ok left
go_on-ends ops max left none = ap (λ (o : Option Infix). elim o as (λ _. Result Read Stop) [
  | None ↦ Ok left
  | Some op ↦ any_term ops (op.right) (op.rest) >>= λ x. longer ops (any_term ops) (length (left.rest)) max (joined left op x)
]) none

go_on-operator : (ops : Ops) (max : ℕ) (left : Read) (op : Infix) → admitted ops max left ≡ Some op → go_on ops max left ≡ (any_term ops (op.right) (op.rest) >>= λ x. go_on ops max (joined left op x))
go_on-operator ops max left op some =
    let fewer : length (op.rest) < length (left.rest) = subst (λ (o : Option Infix). FewerInfix (left.rest) o) some (fewer_admitted ops max left) in
    ap (λ (o : Option Infix). elim o as (λ _. Result Read Stop) [
      | None ↦ Ok left
      | Some op ↦ any_term ops (op.right) (op.rest) >>= λ x. longer ops (any_term ops) (length (left.rest)) max (joined left op x)
    ]) some
    ∙ (Agrees-bind (length (op.rest) - 1) (any_term ops (op.right) (op.rest)) (any_term ops (op.right) (op.rest)) (λ x. longer ops (any_term ops) (length (left.rest)) max (joined left op x)) (λ x. go_on ops max (joined left op x))
    (any_agrees ops (suc (length (op.rest))) (op.right) (op.rest) (omega arith)) (any_takes ops (op.right) (op.rest))
    (λ x h. longer-go_on ops (length (left.rest)) max (joined left op x) (omega (arith, fewer, h)))).same

arguments_one : (ops : Ops) (called : List ℕ) (count : ℕ) (cells : List Cell) (ls : List Lexeme) →
    all_arguments ops called count cells ls ≡ (any_term ops 999 ls >>= λ x. behind_one ops called count cells x (behind_argument (x.rest)))
arguments_one ops called count cells ls =
    (Agrees-bind (length ls - 1) (any_term ops 999 ls) (any_term ops 999 ls) _ (λ x. behind_one ops called count cells x (behind_argument (x.rest)))
    (any_agrees ops (suc (length ls)) 999 ls (omega arith)) (any_takes ops 999 ls) (λ x g.
    elim (behind_argument (x.rest)) as (λ b. FewerBehind (x.rest) b → Agrees (elim b as (λ _. Result Read Stop) [
      | closed_by more ↦ primary (Func called (suc count) ∷ cells ++ x.cells) more
      | comma_and more ↦ arguments ops (any_term ops) (length ls) called (suc count) (cells ++ x.cells) more
      | bar_and more ↦ refused ops (x.rest)
      | neither ↦ refused ops (x.rest)
    ]) (behind_one ops called count cells x b)) [
      | closed_by more ↦ λ f. agrees _ tt
      | comma_and more ↦ λ f. Agrees-arguments ops (any_term ops) (any_term ops) (any_takes ops) (suc (length more)) (any_agrees ops (suc (length more))) (length ls) (suc (length more)) called (suc count) (cells ++ x.cells) more (omega (arith, f, g)) (omega arith) (omega arith)
      | bar_and more ↦ λ f. refusal ops (x.rest)
      | neither ↦ λ f. refusal ops (x.rest)
    ] (fewer_argument (x.rest)))).same

elements_one : (ops : Ops) (cells : List Cell) (ls : List Lexeme) →
    all_elements ops cells ls ≡ (any_term ops 999 ls >>= λ x. behind_item ops cells x (behind_element (x.rest)))
elements_one ops cells ls =
    (Agrees-bind (length ls - 1) (any_term ops 999 ls) (any_term ops 999 ls) _ (λ x. behind_item ops cells x (behind_element (x.rest)))
    (any_agrees ops (suc (length ls)) 999 ls (omega arith)) (any_takes ops 999 ls) (λ x g.
    elim (behind_element (x.rest)) as (λ b. FewerBehind (x.rest) b → Agrees (elim b as (λ _. Result Read Stop) [
      | closed_by more ↦ primary (cells ++ list_cell ∷ x.cells ++ empty_list ∷ []) more
      | comma_and more ↦ elements ops (any_term ops) (length ls) (cells ++ list_cell ∷ x.cells) more
      | bar_and more ↦ tail ops (any_term ops) (cells ++ list_cell ∷ x.cells) more
      | neither ↦ refused ops (x.rest)
    ]) (behind_item ops cells x b)) [
      | closed_by more ↦ λ f. agrees _ tt
      | comma_and more ↦ λ f. Agrees-elements ops (any_term ops) (any_term ops) (any_takes ops) (suc (length more)) (any_agrees ops (suc (length more))) (length ls) (suc (length more)) (cells ++ list_cell ∷ x.cells) more (omega (arith, f, g)) (omega arith) (omega arith)
      | bar_and more ↦ λ f. Agrees-tail ops (any_term ops) (any_term ops) (any_takes ops) (suc (length more)) (any_agrees ops (suc (length more))) (cells ++ list_cell ∷ x.cells) more (omega arith)
      | neither ↦ λ f. refusal ops (x.rest)
    ] (fewer_element (x.rest)))).same

bind_bind : (r : Result Read Stop) (k l : Read → Result Read Stop) → ((r >>= k) >>= l) ≡ (r >>= λ x. k x >>= l)
bind_bind (Ok x) k l = refl
bind_bind (Err e) k l = refl

pub plugged-err : (ops : Ops) (os : List Open) (e : Stop) → plugged ops os (Err e) ≡ Err e
plugged-err ops [] e = refl
plugged-err ops (o ∷ os) e = plugged-err ops os e

-- ---- steps where a term has come

pub operator_step : (ops : Ops) (os : List Open) (max : ℕ) (left : Read) (op : Infix) → admitted ops max left ≡ Some op →
    meaning ops (has os max left) ≡ meaning ops (expects (operand_of (Func (op.name) 2 ∷ left.cells) (op.priority) max ∷ os) (op.right) (op.rest))
operator_step ops os max left op some = ap (λ r. plugged ops os r) (go_on-operator ops max left op some)

-- nothing goes on from the term, so the construct in which it stands goes on
pub close_step : (ops : Ops) (o : Open) (os : List Open) (max : ℕ) (left y : Read) → admitted ops max left ≡ None → closed ops o left ≡ Ok y →
    meaning ops (has (o ∷ os) max left) ≡ meaning ops (has os (max_of o) y)
close_step ops o os max left y none gives =
    ap (λ r. plugged ops os (r >>= λ x. closed ops o x >>= λ y. go_on ops (max_of o) y)) (go_on-ends ops max left none)
    ∙ ap (λ r. plugged ops os (r >>= λ y. go_on ops (max_of o) y)) gives

-- the construct cannot go on
pub fault_step : (ops : Ops) (o : Open) (os : List Open) (max : ℕ) (left : Read) (e : Stop) → admitted ops max left ≡ None → closed ops o left ≡ Err e →
    meaning ops (has (o ∷ os) max left) ≡ Err e
fault_step ops o os max left e none gives =
    ap (λ r. plugged ops os (r >>= λ x. closed ops o x >>= λ y. go_on ops (max_of o) y)) (go_on-ends ops max left none)
    ∙ ap (λ r. plugged ops os (r >>= λ y. go_on ops (max_of o) y)) gives
    ∙ plugged-err ops os e

-- another term comes in the construct
pub more_step : (ops : Ops) (o p : Open) (os : List Open) (max inner : ℕ) (left : Read) (ls : List Lexeme) → admitted ops max left ≡ None →
    closed ops o left ≡ (any_term ops inner ls >>= λ x. closed ops p x) → max_of o ≡ max_of p →
    meaning ops (has (o ∷ os) max left) ≡ meaning ops (expects (p ∷ os) inner ls)
more_step ops o p os max inner left ls none gives same =
    ap (λ r. plugged ops os (r >>= λ x. closed ops o x >>= λ y. go_on ops (max_of o) y)) (go_on-ends ops max left none)
    ∙ ap (λ r. plugged ops os (r >>= λ y. go_on ops (max_of o) y)) gives
    ∙ ap (λ r. plugged ops os r) (bind_bind (any_term ops inner ls) (λ x. closed ops p x) (λ y. go_on ops (max_of o) y))
    ∙ ap (λ m. plugged ops os (any_term ops inner ls >>= λ x. closed ops p x >>= λ y. go_on ops m y)) same

pub next_argument : (ops : Ops) (called : List ℕ) (count : ℕ) (cells : List Cell) (m : ℕ) (left : Read) (more : List Lexeme) → behind_argument (left.rest) ≡ comma_and more →
    closed ops (arguments_of called count cells m) left ≡ (any_term ops 999 more >>= λ x. closed ops (arguments_of called (suc count) (cells ++ left.cells) m) x)
next_argument ops called count cells m left more next =
    ap (λ b. behind_one ops called count cells left b) next ∙ arguments_one ops called (suc count) (cells ++ left.cells) more

pub next_element : (ops : Ops) (cells : List Cell) (m : ℕ) (left : Read) (more : List Lexeme) → behind_element (left.rest) ≡ comma_and more →
    closed ops (elements_of cells m) left ≡ (any_term ops 999 more >>= λ x. closed ops (elements_of (cells ++ list_cell ∷ left.cells) m) x)
next_element ops cells m left more next =
    ap (λ b. behind_item ops cells left b) next ∙ elements_one ops (cells ++ list_cell ∷ left.cells) more

pub next_tail : (ops : Ops) (cells : List Cell) (m : ℕ) (left : Read) (more : List Lexeme) → behind_element (left.rest) ≡ bar_and more →
    closed ops (elements_of cells m) left ≡ (any_term ops 999 more >>= λ x. closed ops (tail_of (cells ++ list_cell ∷ left.cells) m) x)
next_tail ops cells m left more next = ap (λ b. behind_item ops cells left b) next

-- the clause ends, or cannot
pub end_step : (ops : Ops) (max : ℕ) (left : Read) → admitted ops max left ≡ None → meaning ops (has [] max left) ≡ ended ops (behind_end (left.rest)) (left.cells) (left.rest)
end_step ops max left none = ap (λ r. r >>= λ x. ended ops (behind_end (x.rest)) (x.cells) (x.rest)) (go_on-ends ops max left none)

-- ---- steps where a term has to come

-- the first operand is there
pub primary_step : (ops : Ops) (os : List Open) (max : ℕ) (ls : List Lexeme) (left : Read) → operand ops (any_term ops) max ls ≡ Ok left →
    meaning ops (expects os max ls) ≡ meaning ops (has os max left)
primary_step ops os max ls left e = ap (λ r. plugged ops os r) (any_term-go_on ops max ls ∙ ap (λ r. r >>= λ y. go_on ops max y) e)

-- none begins here
pub no_operand_step : (ops : Ops) (os : List Open) (max : ℕ) (ls : List Lexeme) (e : Stop) → operand ops (any_term ops) max ls ≡ Err e →
    meaning ops (expects os max ls) ≡ Err e
no_operand_step ops os max ls e h = ap (λ r. plugged ops os r) (any_term-go_on ops max ls ∙ ap (λ r. r >>= λ y. go_on ops max y) h) ∙ plugged-err ops os e

-- a construct begins
pub open_step : (ops : Ops) (o : Open) (os : List Open) (inner : ℕ) (ls more : List Lexeme) →
    operand ops (any_term ops) (max_of o) ls ≡ (any_term ops inner more >>= λ x. closed ops o x) →
    meaning ops (expects os (max_of o) ls) ≡ meaning ops (expects (o ∷ os) inner more)
open_step ops o os inner ls more e =
    ap (λ r. plugged ops os r) (any_term-go_on ops (max_of o) ls ∙ ap (λ r. r >>= λ y. go_on ops (max_of o) y) e
    ∙ bind_bind (any_term ops inner more) (λ x. closed ops o x) (λ y. go_on ops (max_of o) y))

pub opens_call : (ops : Ops) (called : List ℕ) (signs : Bool) (m : ℕ) (ls : List Lexeme) →
    operand ops (any_term ops) m (name called signs ∷ call_opens ∷ ls) ≡ (any_term ops 999 ls >>= λ x. closed ops (arguments_of called 0 [] m) x)
opens_call ops called signs m ls = arguments_one ops called 0 [] ls

pub opens_parentheses : (ops : Ops) (m : ℕ) (ls : List Lexeme) → operand ops (any_term ops) m (opens ∷ ls) ≡ (any_term ops 1200 ls >>= λ x. closed ops (parentheses m) x)
opens_parentheses ops m ls = refl

pub opens_by_call : (ops : Ops) (m : ℕ) (ls : List Lexeme) → operand ops (any_term ops) m (call_opens ∷ ls) ≡ (any_term ops 1200 ls >>= λ x. closed ops (parentheses m) x)
opens_by_call ops m ls = refl

-- no `]` follows, or no `}`
abbrev pub closes_list : List Lexeme → Bool
closes_list [] = false
closes_list (list_closes ∷ ls) = true
closes_list (l ∷ ls) = false

abbrev pub closes_braces : List Lexeme → Bool
closes_braces [] = false
closes_braces (braces_close ∷ ls) = true
closes_braces (l ∷ ls) = false

pub opens_list : (ops : Ops) (m : ℕ) (ls : List Lexeme) → closes_list ls ≡ false → operand ops (any_term ops) m (list_opens ∷ ls) ≡ (any_term ops 999 ls >>= λ x. closed ops (elements_of [] m) x)
opens_list ops m [] h = elements_one ops [] []
opens_list ops m (list_closes ∷ ls) h = absurd (let none : ⊥ = cc in none)
opens_list ops m (l ∷ ls) h = elements_one ops [] (l ∷ ls)

pub opens_braces : (ops : Ops) (m : ℕ) (ls : List Lexeme) → closes_braces ls ≡ false → operand ops (any_term ops) m (braces_open ∷ ls) ≡ (any_term ops 1200 ls >>= λ x. closed ops (braces m) x)
opens_braces ops m [] h = refl
opens_braces ops m (braces_close ∷ ls) h = absurd (let none : ⊥ = cc in none)
opens_braces ops m (l ∷ ls) h = refl

-- a word that neither opens a call nor is the sign of a number
plain : (ops : Ops) (max : ℕ) (called : List ℕ) (signs : Bool) (ls : List Lexeme) → is_plain signs ls ≡ true →
    operand ops (any_term ops) max (name called signs ∷ ls) ≡ prefixed ops (any_term ops) called (prefix_by max (look_up (ops.prefixes) called)) ls
plain ops max called signs (call_opens ∷ ls) h = absurd (let none : ⊥ = cc in none)
plain ops max called true (number n ∷ ls) h = absurd (let none : ⊥ = cc in none)
plain ops max called true [] h = refl
plain ops max called false [] h = refl
plain ops max called false (l ∷ ls) h = refl
plain ops max called true (l ∷ ls) h = refl

pub opens_operand : (ops : Ops) (m : ℕ) (called : List ℕ) (signs : Bool) (op : Prefix) (ls : List Lexeme) → is_plain signs ls ≡ true →
    prefix_by m (look_up (ops.prefixes) called) ≡ Some op → begins_operand ops (op.right) ls ≡ true →
    operand ops (any_term ops) m (name called signs ∷ ls) ≡ (any_term ops (op.right) ls >>= λ x. closed ops (operand_of (Func called 1 ∷ []) (op.priority) m) x)
opens_operand ops m called signs op ls is some begins =
    plain ops m called signs ls is ∙ ap (λ o. prefixed ops (any_term ops) called o ls) some
    ∙ ap (λ b. applied ops (any_term ops) called op b ls) begins

pub no_operand : (ops : Ops) (m : ℕ) (called : List ℕ) (signs : Bool) (op : Prefix) (ls : List Lexeme) → is_plain signs ls ≡ true →
    prefix_by m (look_up (ops.prefixes) called) ≡ Some op → begins_operand ops (op.right) ls ≡ false →
    operand ops (any_term ops) m (name called signs ∷ ls) ≡ primary (Atom called ∷ []) ls
no_operand ops m called signs op ls is some begins =
    plain ops m called signs ls is ∙ ap (λ o. prefixed ops (any_term ops) called o ls) some
    ∙ ap (λ b. applied ops (any_term ops) called op b ls) begins

pub no_prefix : (ops : Ops) (m : ℕ) (called : List ℕ) (signs : Bool) (ls : List Lexeme) → is_plain signs ls ≡ true →
    prefix_by m (look_up (ops.prefixes) called) ≡ None → operand ops (any_term ops) m (name called signs ∷ ls) ≡ primary (Atom called ∷ []) ls
no_prefix ops m called signs ls is none = plain ops m called signs ls is ∙ ap (λ o. prefixed ops (any_term ops) called o ls) none
