-- The names of the properties of the language are those of which the definition of properties says something.
use Rattle.std.proofs.Common.{◌≡◌, ℕ, Bool, true, false, List, refl}
use Rattle.std.specs.Prelude.{not, ◌||◌, if◌then◌else◌, is_some, Some, None}
use Rattle.std.specs.List.{list_all}
use Rattle.cp_term.specs.declared.cell.Cell.{Cell}
use Rattle.cp_goal.specs.Lists.{spine}
use Rattle.cp_goal.specs.Builtins.{is_variable, is_integer, is_atom, is_compound, is_bound_cell}
use Rattle.cp_code.specs.Bodies.{is}
use Rattle.cp_code.specs.Properties.{is_natural, is_proper, of_language}
use Rattle.cp_assertion.specs.Names.{is_of_language}

chosen : (b0 b1 b2 b3 b4 b5 b6 b7 b8 b9 b10 b11 b12 b13 b14 b15 b16 b17 : Bool) (x0 x1 x2 x3 x4 x5 x6 x7 x8 x9 x10 : Bool)
    → is_some (if b0 then Some x0 else if b1 then Some x1 else if b2 then Some x2 else if b3 || b4 then Some x3 else if b5 || b6 || b7 || b8 then Some x4 else if b9 then Some x5 else if b10 || b11 then Some x6 else if b12 || b13 then Some x7 else if b14 || b15 then Some x8 else if b16 then Some x9 else if b17 then Some x10 else None)
    ≡ ((b0 || b1 || b2 || b3 || b4) || (b5 || b6 || b7 || b8 || b9) || (b10 || b11 || b12 || b13) || (b14 || b15 || b16 || b17))
chosen true b1 b2 b3 b4 b5 b6 b7 b8 b9 b10 b11 b12 b13 b14 b15 b16 b17 x0 x1 x2 x3 x4 x5 x6 x7 x8 x9 x10 = refl
chosen false true b2 b3 b4 b5 b6 b7 b8 b9 b10 b11 b12 b13 b14 b15 b16 b17 x0 x1 x2 x3 x4 x5 x6 x7 x8 x9 x10 = refl
chosen false false true b3 b4 b5 b6 b7 b8 b9 b10 b11 b12 b13 b14 b15 b16 b17 x0 x1 x2 x3 x4 x5 x6 x7 x8 x9 x10 = refl
chosen false false false true b4 b5 b6 b7 b8 b9 b10 b11 b12 b13 b14 b15 b16 b17 x0 x1 x2 x3 x4 x5 x6 x7 x8 x9 x10 = refl
chosen false false false false true b5 b6 b7 b8 b9 b10 b11 b12 b13 b14 b15 b16 b17 x0 x1 x2 x3 x4 x5 x6 x7 x8 x9 x10 = refl
chosen false false false false false true b6 b7 b8 b9 b10 b11 b12 b13 b14 b15 b16 b17 x0 x1 x2 x3 x4 x5 x6 x7 x8 x9 x10 = refl
chosen false false false false false false true b7 b8 b9 b10 b11 b12 b13 b14 b15 b16 b17 x0 x1 x2 x3 x4 x5 x6 x7 x8 x9 x10 = refl
chosen false false false false false false false true b8 b9 b10 b11 b12 b13 b14 b15 b16 b17 x0 x1 x2 x3 x4 x5 x6 x7 x8 x9 x10 = refl
chosen false false false false false false false false true b9 b10 b11 b12 b13 b14 b15 b16 b17 x0 x1 x2 x3 x4 x5 x6 x7 x8 x9 x10 = refl
chosen false false false false false false false false false true b10 b11 b12 b13 b14 b15 b16 b17 x0 x1 x2 x3 x4 x5 x6 x7 x8 x9 x10 = refl
chosen false false false false false false false false false false true b11 b12 b13 b14 b15 b16 b17 x0 x1 x2 x3 x4 x5 x6 x7 x8 x9 x10 = refl
chosen false false false false false false false false false false false true b12 b13 b14 b15 b16 b17 x0 x1 x2 x3 x4 x5 x6 x7 x8 x9 x10 = refl
chosen false false false false false false false false false false false false true b13 b14 b15 b16 b17 x0 x1 x2 x3 x4 x5 x6 x7 x8 x9 x10 = refl
chosen false false false false false false false false false false false false false true b14 b15 b16 b17 x0 x1 x2 x3 x4 x5 x6 x7 x8 x9 x10 = refl
chosen false false false false false false false false false false false false false false true b15 b16 b17 x0 x1 x2 x3 x4 x5 x6 x7 x8 x9 x10 = refl
chosen false false false false false false false false false false false false false false false true b16 b17 x0 x1 x2 x3 x4 x5 x6 x7 x8 x9 x10 = refl
chosen false false false false false false false false false false false false false false false false true b17 x0 x1 x2 x3 x4 x5 x6 x7 x8 x9 x10 = refl
chosen false false false false false false false false false false false false false false false false false true x0 x1 x2 x3 x4 x5 x6 x7 x8 x9 x10 = refl
chosen false false false false false false false false false false false false false false false false false false x0 x1 x2 x3 x4 x5 x6 x7 x8 x9 x10 = refl

pub is_of_language-of_language : (name : List ℕ) (t : List Cell) → is_some (of_language name t) ≡ is_of_language name
is_of_language-of_language name t =
    chosen (is name "term") (is name "var") (is name "nonvar") (is name "gnd") (is name "ground") (is name "int") (is name "integer") (is name "num") (is name "number") (is name "nnegint") (is name "atm") (is name "atom") (is name "constant") (is name "atomic") (is name "struct") (is name "compound") (is name "callable") (is name "list")
    true (is_variable t) (not (is_variable t)) (list_all is_bound_cell t) (is_integer t) (is_natural t) (is_atom t) (is_atom t || is_integer t) (is_compound t) (is_atom t || is_compound t) (is_proper (spine t))
