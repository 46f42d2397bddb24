-- The names of properties.
use Rattle.std.specs.Prelude.{ℕ, Bool, ◌||◌, List}
use Rattle.std.specs.List.{list_any}
use Rattle.std.specs.Str.{bytes_eq}
use Rattle.cp_code.specs.declared.type_row.TypeRow.{TypeRow}
use Rattle.cp_code.specs.Bodies.{is}

-- a property of the language (Ciao manual, "Basic data types and properties")
abbrev pub is_of_bindings : List ℕ → Bool
is_of_bindings name = is name "term" || is name "var" || is name "nonvar" || is name "gnd" || is name "ground"

abbrev pub is_of_integers : List ℕ → Bool
is_of_integers name = is name "int" || is name "integer" || is name "num" || is name "number" || is name "nnegint"

abbrev pub is_of_atoms : List ℕ → Bool
is_of_atoms name = is name "atm" || is name "atom" || is name "constant" || is name "atomic"

abbrev pub is_of_compounds : List ℕ → Bool
is_of_compounds name = is name "struct" || is name "compound" || is name "callable" || is name "list"

abbrev pub is_of_language : List ℕ → Bool
is_of_language name = is_of_bindings name || is_of_integers name || is_of_atoms name || is_of_compounds name

-- a property of the language, or a regular type
abbrev pub is_property : (is_type : List ℕ → Bool) → List ℕ → Bool
is_property is_type name = is_of_language name || is_type name

-- a regular type of the program
abbrev pub is_type_of : List TypeRow → List ℕ → Bool
is_type_of types name = list_any (λ (r : TypeRow). bytes_eq r.name name) types
