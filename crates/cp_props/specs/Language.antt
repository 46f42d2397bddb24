-- The properties of the language, by their names.
use Rattle.std.specs.Prelude.{ℕ, Bool, true, not, ◌||◌, if◌then◌else◌, List, Option, Some, None}
use Rattle.std.specs.List.{list_all}
use Rattle.cp_term.specs.declared.cell.Cell.{Cell}
use Rattle.cp_goal.specs.Lists.{spine}
use Rattle.cp_goal.specs.Builtins.{is_variable, is_integer, is_atom, is_compound, is_bound_cell}
use Rattle.cp_code.specs.Bodies.{is}
use Rattle.cp_code.specs.Properties.{is_natural, is_proper}
use Rattle.cp_props.specs.declared.language.Property.{Property}
use Rattle.cp_props.specs.declared.language.Property.TheVariants as property

abbrev pub compound_named : List ℕ → Option Property
compound_named name =
    if is name "struct" || is name "compound" then Some property.Compound
    else if is name "callable" then Some property.Callable
    else if is name "list" then Some property.List
    else None

abbrev pub constant_named : List ℕ → Option Property
constant_named name =
    if is name "atm" || is name "atom" then Some property.Atom
    else if is name "constant" || is name "atomic" then Some property.Constant
    else compound_named name

abbrev pub number_named : List ℕ → Option Property
number_named name =
    if is name "int" || is name "integer" || is name "num" || is name "number" then Some property.Integer
    else if is name "nnegint" then Some property.Natural
    else constant_named name

abbrev pub property_named : List ℕ → Option Property
property_named name =
    if is name "term" then Some property.Any
    else if is name "var" then Some property.Unbound
    else if is name "nonvar" then Some property.Bound
    else if is name "gnd" || is name "ground" then Some property.Ground
    else number_named name

abbrev pub meets : Property → List Cell → Bool
meets property.Any t = true
meets property.Unbound t = is_variable t
meets property.Bound t = not (is_variable t)
meets property.Ground t = list_all is_bound_cell t
meets property.Integer t = is_integer t
meets property.Natural t = is_natural t
meets property.Atom t = is_atom t
meets property.Constant t = is_atom t || is_integer t
meets property.Compound t = is_compound t
meets property.Callable t = is_atom t || is_compound t
meets property.List t = is_proper (spine t)
