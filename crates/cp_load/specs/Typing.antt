-- Regular types by the names that are declared so far.
use Rattle.std.specs.Prelude.{ℕ, Bool, false, not, ◌&&◌, nat_eq, cond, List, [], ◌∷◌, ◌++◌, Option, Some, None}
use Rattle.std.specs.List.{list_any, flat_map}
use Rattle.std.specs.Str.{bytes_eq}
use Rattle.cp_read.specs.declared.clause.ReadClause.{ReadClause}
use Rattle.cp_declaration.specs.declared.declaration.Declaration.{Declaration}
use Rattle.cp_declaration.specs.declared.declaration.Declaration.TheVariants as declares
use Rattle.cp_declaration.specs.declared.indicator.Indicator.{Indicator}
use Rattle.cp_module.specs.declared.cause.Cause.{Cause}
use Rattle.cp_module.specs.declared.why.Why.TheVariants as why
use Rattle.cp_module.specs.Causes.{is_in, unless, cause_on}
use Rattle.cp_link.specs.Modules.{said, one}

abbrev pub type_name : Option Declaration → Option (List ℕ)
type_name (Some (declares.RegType name)) = Some name
type_name other = None

-- the names of the regular types that clauses declare
abbrev pub declared_names : List ReadClause → List (List ℕ)
declared_names clauses = flat_map (λ c. one (type_name (said c))) clauses

abbrev pub is_name_in : List (List ℕ) → List ℕ → Bool
is_name_in names name = list_any (λ n. bytes_eq n name) names

abbrev pub is_again : List (List ℕ) → Option Declaration → Bool
is_again names (Some (declares.RegType name)) = is_name_in names name
is_again names other = false

-- what is refused in clauses that declare types behind types of these names
abbrev pub again_in : List (List ℕ) → List ReadClause → List Cause
again_in names [] = []
again_in names (c ∷ clauses) = cause_on c.line (unless (is_again names (said c)) why.NotRegular None) ++ again_in (names ++ one (type_name (said c))) clauses

-- a type of one of these names
abbrev pub is_type_named : List (List ℕ) → Indicator → Bool
is_type_named names i = nat_eq i.arity 1 && is_name_in names i.name

-- the types with the predicate of a clause, if it is one of these and is not there
abbrev pub with_type : List (List ℕ) → List Indicator → Option Indicator → List Indicator
with_type names order None = order
with_type names order (Some i) = cond (is_type_named names i && not (is_in order i)) (order ++ i ∷ []) order
