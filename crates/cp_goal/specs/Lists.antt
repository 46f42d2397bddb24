-- Lists and texts as terms (ISO/IEC 13211-1, 6.3.5). A list is made of the functor '.'/2 and the atom [].
use Rattle.std.specs.Prelude.{ℕ, ◌-◌, Bool, ◌||◌, ◌&&◌, nat_lt, nat_le, if◌then◌else◌, ◌==◌, List, [], ◌∷◌, ◌++◌, map, slice_index_or, Option, Some, None, Result, Ok, Err, ℤ, pos, negsuc, neg_ℤ, codes}
use Rattle.std.specs.List.{flat_map, list_all}
use Rattle.std.specs.Str.{bytes_eq}
use Rattle.std.specs.Char.{is_ascii_digit}
use Rattle.std.specs.Int.Digits.{number_from_digits}
use Rattle.cp_term.specs.declared.cell.Cell.{Cell}
use Rattle.cp_term.specs.declared.cell.Cell.TheVariants.{Var, Int, Atom, Func}
use Rattle.cp_goal.specs.Folds.{of_terms}
use Rattle.cp_goal.specs.Operations.{fits}
use Rattle.cp_goal.specs.Errors.{instantiation_error, type_error, representation_error}

-- the list of these terms
abbrev pub list_term : List (List Cell) → List Cell
list_term [] = Atom (codes "[]") ∷ []
list_term (t ∷ ts) = Func (codes ".") 2 ∷ t ++ list_term ts

abbrev pub code_term : ℕ → List Cell
code_term c = Int (pos c) ∷ []

-- ---- what a term is as a list

-- a list of these terms; a beginning of one, whose end is a variable; or no list
pub data Spine : Type 0 where
  Proper : List (List Cell) → Spine
  Partial : Spine
  Improper : Spine

-- a term with what it is as a list
pub record Listed : Type 0 where
  pub cells : List Cell
  pub spine : Spine

abbrev pub longer : List Cell → Spine → Spine
longer head (Proper ts) = Proper (head ∷ ts)
longer head Partial = Partial
longer head Improper = Improper

abbrev pub compound_spine : List ℕ → List Listed → Spine
compound_spine f (head ∷ tail ∷ []) = if bytes_eq f (codes ".") then longer head.cells tail.spine else Improper
compound_spine f ts = Improper

abbrev pub spine_of : Cell → List Listed → Spine
spine_of (Var v) ts = Partial
spine_of (Int i) ts = Improper
spine_of (Atom a) ts = if bytes_eq a (codes "[]") then Proper [] else Improper
spine_of (Func f k) ts = compound_spine f ts

abbrev pub listed_of : Cell → List Listed → Listed
listed_of c ts = record { cells = c ∷ flat_map (λ (t : Listed). t.cells) ts; spine = spine_of c ts }

abbrev pub spine : List Cell → Spine
spine cells = (slice_index_or (of_terms listed_of cells) 0 (record { cells = []; spine = Improper })).spine

-- the terms of a proper list, or the kind of the error that it is none
abbrev pub elements_by : Spine → List Cell → Result (List (List Cell)) (List Cell)
elements_by (Proper ts) list = Ok ts
elements_by Partial list = Err instantiation_error
elements_by Improper list = Err (type_error (codes "list") list)

abbrev pub elements : List Cell → Result (List (List Cell)) (List Cell)
elements list = elements_by (spine list) list

-- ---- codes

-- a number is that of a Unicode character that is no surrogate
abbrev pub is_scalar : ℕ → Bool
is_scalar c = nat_lt c 0xD800 || (nat_le 0xE000 c && nat_lt c 0x110000)

abbrev pub code_of : List Cell → Result ℕ (List Cell)
code_of (Var v ∷ cells) = Err instantiation_error
code_of (Int (pos c) ∷ cells) = if is_scalar c then Ok c else Err (representation_error (codes "character_code"))
code_of (Int (negsuc n) ∷ cells) = Err (representation_error (codes "character_code"))
code_of cells = Err (type_error (codes "integer") cells)

abbrev pub code_before : Result ℕ (List Cell) → Result (List ℕ) (List Cell) → Result (List ℕ) (List Cell)
code_before (Ok c) (Ok cs) = Ok (c ∷ cs)
code_before (Ok c) (Err e) = Err e
code_before (Err e) cs = Err e

-- the codes that terms are, or the kind of the error of the first that is none
abbrev pub codes_of : List (List Cell) → Result (List ℕ) (List Cell)
codes_of [] = Ok []
codes_of (t ∷ ts) = code_before (code_of t) (codes_of ts)

abbrev pub codes_in : Result (List (List Cell)) (List Cell) → Result (List ℕ) (List Cell)
codes_in (Ok ts) = codes_of ts
codes_in (Err e) = Err e

-- the text that a proper list of codes is
abbrev pub text_in : List Cell → Result (List ℕ) (List Cell)
text_in list = codes_in (elements list)

-- ---- numbers

abbrev pub digits_value : List ℕ → ℕ
digits_value ds = number_from_digits 10 (map (λ d. d - 48) ds)

abbrev pub if_fits : ℤ → Option ℤ
if_fits z = if fits z then Some z else None

-- the number that one or more digits write
abbrev pub natural_of : List ℕ → Option ℕ
natural_of [] = None
natural_of (d ∷ ds) = if list_all is_ascii_digit (d ∷ ds) then Some (digits_value (d ∷ ds)) else None

abbrev pub signed : (ℕ → ℤ) → Option ℕ → Option ℤ
signed sign (Some n) = if_fits (sign n)
signed sign None = None

-- the number of 64 bits that a text of digits writes, with at most one `-` before them
abbrev pub number_of : List ℕ → Option ℤ
number_of [] = None
number_of (c ∷ cs) = if c == 45 then signed (λ n. neg_ℤ (pos n)) (natural_of cs) else signed pos (natural_of (c ∷ cs))
