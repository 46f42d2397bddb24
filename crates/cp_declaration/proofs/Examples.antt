-- What declarations say, on worked examples: each form once, and forms that are none.
use Rattle.std.proofs.Common.{◌≡◌, true, false, pos, negsuc, refl, List, [], ◌∷◌, ◌++◌}
use Rattle.std.specs.Prelude.{ℕ, Some, None, codes}
use Prim.Native.String.{String}
use Rattle.cp_term.specs.declared.cell.Cell.{Cell}
use Rattle.cp_term.specs.declared.cell.Cell.TheVariants.{Var, Int, Atom, Func}
use Rattle.cp_declaration.specs.declared.indicator.Indicator.{Indicator}
use Rattle.cp_declaration.specs.declared.declaration.Declaration.TheVariants.{Module, UseModule, UseActiveModule, Shared, MetaPredicate, Operators, RegType, Assertion, Nothing}
use Rattle.cp_declaration.specs.Declarations.{declaration, is_declaration}

-- ---- terms

abbrev atom : String → List Cell
atom a = Atom (codes a) ∷ []

abbrev variable : ℕ → List Cell
variable v = Var v ∷ []

abbrev number : ℕ → List Cell
number n = Int (pos n) ∷ []

abbrev one : String → List Cell → List Cell
one f a = Func (codes f) 1 ∷ a

abbrev two : String → List Cell → List Cell → List Cell
two f a b = Func (codes f) 2 ∷ a ++ b

abbrev three : String → List Cell → List Cell → List Cell → List Cell
three f a b c = Func (codes f) 3 ∷ (a ++ b) ++ c

abbrev slash : String → ℕ → List Cell
slash p n = two "/" (atom p) (number n)

abbrev empty : List Cell
empty = atom "[]"

abbrev list : List Cell → List Cell → List Cell
list head tail = two "." head tail

abbrev declares : List Cell → List Cell
declares d = one ":-" d

abbrev pred : String → ℕ → Indicator
pred p n = record { name = codes p; arity = n }

-- ---- headers

a_header_names_its_module_and_exports : declaration (declares (two "module" (atom "m") (list (slash "main" 0) empty))) ≡ Some (Module (Some (codes "m")) (Some (pred "main" 0 ∷ [])))
a_header_names_its_module_and_exports = refl

variables_stand_for_the_file_and_all_predicates : declaration (declares (two "module" (variable 0) (variable 1))) ≡ Some (Module None None)
variables_stand_for_the_file_and_all_predicates = refl

a_header_may_have_packages : declaration (declares (three "module" (atom "m") empty (list (atom "assertions") (list (atom "concurrency") empty)))) ≡ Some (Module (Some (codes "m")) (Some []))
a_header_may_have_packages = refl

packages_may_be_none : declaration (declares (three "module" (atom "m") (variable 0) empty)) ≡ Some (Module (Some (codes "m")) None)
packages_may_be_none = refl

other_packages_are_refused : declaration (declares (three "module" (atom "m") empty (list (atom "dcg") empty))) ≡ None
other_packages_are_refused = refl

a_package_of_a_header_is_in_a_list : declaration (declares (three "module" (atom "m") empty (atom "concurrency"))) ≡ None
a_package_of_a_header_is_in_a_list = refl

a_module_is_no_compound : declaration (declares (two "module" (one "f" (atom "m")) empty)) ≡ None
a_module_is_no_compound = refl

exports_are_a_whole_list : declaration (declares (two "module" (atom "m") (list (slash "main" 0) (variable 0)))) ≡ None
exports_are_a_whole_list = refl

-- ---- imports

a_file_is_used : declaration (declares (one "use_module" (atom "b"))) ≡ Some (UseModule (codes "b") None)
a_file_is_used = refl

predicates_of_a_file_are_used : declaration (declares (two "use_module" (atom "b") (list (slash "p" 1) (list (slash "q" 255) empty)))) ≡ Some (UseModule (codes "b") (Some (pred "p" 1 ∷ pred "q" 255 ∷ [])))
predicates_of_a_file_are_used = refl

no_predicate_of_a_file_is_used : declaration (declares (two "use_module" (atom "b") empty)) ≡ Some (UseModule (codes "b") (Some []))
no_predicate_of_a_file_is_used = refl

a_library_is_used : declaration (declares (one "use_module" (one "library" (atom "lists")))) ≡ Some Nothing
a_library_is_used = refl

other_libraries_are_refused : declaration (declares (one "use_module" (one "library" (atom "format")))) ≡ None
other_libraries_are_refused = refl

a_library_is_used_whole : declaration (declares (two "use_module" (one "library" (atom "lists")) (list (slash "append" 3) empty))) ≡ None
a_library_is_used_whole = refl

no_predicate_has_256_arguments : declaration (declares (two "use_module" (atom "b") (list (slash "p" 256) empty))) ≡ None
no_predicate_has_256_arguments = refl

no_arity_is_negative : declaration (declares (two "use_module" (atom "b") (list (two "/" (atom "p") (Int (negsuc 0) ∷ [])) empty))) ≡ None
no_arity_is_negative = refl

an_active_module_is_used : declaration (declares (two "use_active_module" (atom "s") (list (slash "p" 1) empty))) ≡ Some (UseActiveModule (codes "s") (pred "p" 1 ∷ []))
an_active_module_is_used = refl

an_active_module_is_used_in_part : declaration (declares (one "use_active_module" (atom "s"))) ≡ None
an_active_module_is_used_in_part = refl

a_package_is_used : declaration (declares (one "use_package" (atom "rtchecks"))) ≡ Some Nothing
a_package_is_used = refl

packages_are_used : declaration (declares (one "use_package" (list (atom "rtchecks") (list (atom "regtypes") empty)))) ≡ Some Nothing
packages_are_used = refl

no_package_is_used : declaration (declares (one "use_package" empty)) ≡ Some Nothing
no_package_is_used = refl

-- ---- predicates

one_predicate_is_concurrent : declaration (declares (one "concurrent" (slash "q" 1))) ≡ Some (Shared true (pred "q" 1 ∷ []))
one_predicate_is_concurrent = refl

joined_predicates_are_data : declaration (declares (one "data" (two "," (slash "p" 1) (two "," (slash "q" 2) (slash "r" 3))))) ≡ Some (Shared false (pred "p" 1 ∷ pred "q" 2 ∷ pred "r" 3 ∷ []))
joined_predicates_are_data = refl

predicates_are_joined_in_any_way : declaration (declares (one "data" (two "," (two "," (slash "p" 1) (slash "q" 2)) (slash "r" 3)))) ≡ Some (Shared false (pred "p" 1 ∷ pred "q" 2 ∷ pred "r" 3 ∷ []))
predicates_are_joined_in_any_way = refl

listed_predicates_are_concurrent : declaration (declares (one "concurrent" (list (slash "p" 1) (list (slash "q" 2) empty)))) ≡ Some (Shared true (pred "p" 1 ∷ pred "q" 2 ∷ []))
listed_predicates_are_concurrent = refl

no_predicate_is_concurrent : declaration (declares (one "concurrent" empty)) ≡ Some (Shared true [])
no_predicate_is_concurrent = refl

a_list_is_not_joined : declaration (declares (one "concurrent" (two "," (slash "p" 1) (list (slash "q" 2) empty)))) ≡ None
a_list_is_not_joined = refl

what_is_joined_is_no_element : declaration (declares (one "concurrent" (list (two "," (slash "p" 1) (slash "q" 2)) empty))) ≡ None
what_is_joined_is_no_element = refl

a_name_alone_is_no_predicate : declaration (declares (one "concurrent" (atom "q"))) ≡ None
a_name_alone_is_no_predicate = refl

goal_arguments_are_marked : declaration (declares (one "meta_predicate" (Func (codes "p") 5 ∷ (((atom "goal" ++ atom "fact") ++ one "pred" (number 2)) ++ one "list" (atom "goal")) ++ variable 0))) ≡ Some (MetaPredicate (codes "p") (true ∷ true ∷ true ∷ false ∷ false ∷ []))
goal_arguments_are_marked = refl

one_predicate_is_marked : declaration (declares (one "meta_predicate" (two "," (one "p" (atom "goal")) (one "q" (atom "goal"))))) ≡ None
one_predicate_is_marked = refl

a_marked_predicate_has_arguments : declaration (declares (one "meta_predicate" (atom "p"))) ≡ None
a_marked_predicate_has_arguments = refl

a_type_is_declared_by_its_term : declaration (declares (one "regtype" (one "color" (variable 0)))) ≡ Some (RegType (codes "color"))
a_type_is_declared_by_its_term = refl

a_type_is_declared_by_its_arity : declaration (declares (one "regtype" (slash "color" 1))) ≡ Some (RegType (codes "color"))
a_type_is_declared_by_its_arity = refl

a_type_has_one_argument : declaration (declares (one "regtype" (slash "color" 2))) ≡ None
a_type_has_one_argument = refl

a_type_has_no_pattern : declaration (declares (one "regtype" (one "color" (atom "red")))) ≡ None
a_type_has_no_pattern = refl

types_are_not_joined : declaration (declares (one "regtype" (two "," (slash "t" 1) (slash "u" 1)))) ≡ None
types_are_not_joined = refl

-- ---- operators

an_operator_is_declared : declaration (declares (three "op" (number 700) (atom "xfx") (atom "===>"))) ≡ Some (Operators (pos 700) (codes "xfx") (codes "===>" ∷ []))
an_operator_is_declared = refl

operators_are_declared : declaration (declares (three "op" (number 700) (atom "xfx") (list (atom "a") (list (atom "[]") empty)))) ≡ Some (Operators (pos 700) (codes "xfx") (codes "a" ∷ codes "[]" ∷ []))
operators_are_declared = refl

no_operator_is_declared : declaration (declares (three "op" (number 700) (atom "xfx") empty)) ≡ Some (Operators (pos 700) (codes "xfx") [])
no_operator_is_declared = refl

an_operator_is_an_atom : declaration (declares (three "op" (number 700) (atom "xfx") (list (atom "a") (list (number 1) empty)))) ≡ None
an_operator_is_an_atom = refl

a_priority_is_a_number : declaration (declares (three "op" (variable 0) (atom "xfx") (atom "a"))) ≡ None
a_priority_is_a_number = refl

-- ---- assertions

an_assertion_has_a_kind : declaration (declares (one "pred" (one "p" (variable 0)))) ≡ Some Assertion
an_assertion_has_a_kind = refl

an_assertion_may_have_a_status : declaration (declares (one "trust" (one "comp" (atom "p")))) ≡ Some Assertion
an_assertion_may_have_a_status = refl

a_property_has_no_effect : declaration (declares (one "prop" (slash "p" 1))) ≡ Some Nothing
a_property_has_no_effect = refl

a_property_has_no_status : declaration (declares (one "check" (one "prop" (atom "p")))) ≡ None
a_property_has_no_status = refl

a_status_has_a_kind : declaration (declares (one "check" (atom "p"))) ≡ None
a_status_has_a_kind = refl

-- ---- no declarations

an_unknown_declaration_is_refused : declaration (declares (one "dynamic" (slash "p" 1))) ≡ None
an_unknown_declaration_is_refused = refl

a_word_alone_is_refused : declaration (declares (atom "concurrent")) ≡ None
a_word_alone_is_refused = refl

a_rule_is_no_declaration : is_declaration (two ":-" (atom "a") (atom "b")) ≡ false
a_rule_is_no_declaration = refl

a_question_is_no_declaration : is_declaration (one "?-" (atom "a")) ≡ false
a_question_is_no_declaration = refl
