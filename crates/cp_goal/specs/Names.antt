-- The builtin goals by name and number of arguments.
use Rattle.std.specs.Prelude.{ℕ, zero, suc, if◌then◌else◌, List, Option, Some, None, codes}
use Rattle.std.specs.Str.{bytes_eq}
use Rattle.cp_goal.specs.declared.relation.Relation.{Relation}
use Rattle.cp_goal.specs.declared.relation.Relation.TheVariants.{Equal, NotEqual, Less, NotGreater, Greater, NotLess}
use Rattle.cp_goal.specs.declared.type_test.TypeTest.{TypeTest}
use Rattle.cp_goal.specs.declared.type_test.TypeTest.TheVariants as test
use Rattle.cp_goal.specs.declared.builtin.Builtin.{Builtin}
use Rattle.cp_goal.specs.declared.builtin.Builtin.TheVariants.{Is, Unify, NotUnify, InOrder, Compare, Functor, Argument, Univ, CopyTerm, AtomCodes, NumberCodes, AtomLength, Evaluate, InValue}

abbrev pub test_named : List ℕ → Option TypeTest
test_named name =
    if bytes_eq name (codes "var") then Some test.Var
    else if bytes_eq name (codes "nonvar") then Some test.Nonvar
    else if bytes_eq name (codes "atom") then Some test.Atom
    else if bytes_eq name (codes "integer") then Some test.Integer
    else if bytes_eq name (codes "number") then Some test.Integer
    else if bytes_eq name (codes "atomic") then Some test.Atomic
    else if bytes_eq name (codes "compound") then Some test.Compound
    else if bytes_eq name (codes "callable") then Some test.Callable
    else if bytes_eq name (codes "ground") then Some test.Ground
    else None

-- relations between terms in the standard order, and between values
abbrev pub order_named : List ℕ → Option Relation
order_named name =
    if bytes_eq name (codes "==") then Some Equal
    else if bytes_eq name (codes "\\==") then Some NotEqual
    else if bytes_eq name (codes "@<") then Some Less
    else if bytes_eq name (codes "@=<") then Some NotGreater
    else if bytes_eq name (codes "@>") then Some Greater
    else if bytes_eq name (codes "@>=") then Some NotLess
    else None

abbrev pub value_relation_named : List ℕ → Option Relation
value_relation_named name =
    if bytes_eq name (codes "=:=") then Some Equal
    else if bytes_eq name (codes "=\\=") then Some NotEqual
    else if bytes_eq name (codes "<") then Some Less
    else if bytes_eq name (codes "=<") then Some NotGreater
    else if bytes_eq name (codes ">") then Some Greater
    else if bytes_eq name (codes ">=") then Some NotLess
    else None

abbrev pub one_more_named : List ℕ → Option Builtin
one_more_named name =
    if bytes_eq name (codes "=") then Some Unify
    else if bytes_eq name (codes "\\=") then Some NotUnify
    else if bytes_eq name (codes "=..") then Some Univ
    else if bytes_eq name (codes "copy_term") then Some CopyTerm
    else if bytes_eq name (codes "atom_codes") then Some AtomCodes
    else if bytes_eq name (codes "number_codes") then Some NumberCodes
    else if bytes_eq name (codes "atom_length") then Some AtomLength
    else if bytes_eq name (codes "is") then Some Evaluate
    else None

abbrev pub is_test : Option TypeTest → Option Builtin
is_test (Some t) = Some (Is t)
is_test None = None

abbrev pub of_relations : Option Relation → Option Relation → Option Builtin → Option Builtin
of_relations (Some r) values other = Some (InOrder r)
of_relations None (Some r) other = Some (InValue r)
of_relations None None other = other

abbrev pub three_named : List ℕ → Option Builtin
three_named name =
    if bytes_eq name (codes "compare") then Some Compare
    else if bytes_eq name (codes "functor") then Some Functor
    else if bytes_eq name (codes "arg") then Some Argument
    else None

abbrev pub builtin_named : List ℕ → ℕ → Option Builtin
builtin_named name (suc zero) = is_test (test_named name)
builtin_named name (suc (suc zero)) = of_relations (order_named name) (value_relation_named name) (one_more_named name)
builtin_named name (suc (suc (suc zero))) = three_named name
builtin_named name arity = None
