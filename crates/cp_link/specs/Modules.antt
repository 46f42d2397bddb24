-- What a file says of its module: its name, its predicates, what it exports.
use Rattle.std.specs.Prelude.{ℕ, Bool, not, ◌&&◌, nat_eq, cond, List, [], ◌∷◌, ◌++◌, map, filter, length, Option, Some, None, find, unwrap_or}
use Rattle.std.specs.List.{list_any, flat_map, filter_map}
use Rattle.std.specs.Str.{bytes_eq}
use Rattle.cp_term.specs.declared.pred_name.PredName.{PredName}
use Rattle.cp_read.specs.declared.clause.ReadClause.{ReadClause}
use Rattle.cp_declaration.specs.declared.declaration.Declaration.{Declaration}
use Rattle.cp_declaration.specs.declared.declaration.Declaration.TheVariants as declares
use Rattle.cp_declaration.specs.declared.indicator.Indicator.{Indicator}
use Rattle.cp_declaration.specs.Declarations.{declaration, is_declaration}
use Rattle.cp_module.specs.Parts.{Part}
use Rattle.cp_module.specs.Paths.{base_of}
use Rattle.cp_module.specs.Causes.{same, is_in, pred_of, shares, is_shared, clauses_of, header_exports, module_name}

abbrev pub name_of : Part → List ℕ
name_of p = module_name (base_of p.file) p.clauses

-- a predicate of a module
abbrev pub in_module : List ℕ → Indicator → PredName
in_module m p = record { «module» = m; name = p.name; arity = p.arity }

abbrev pub one : {X : Type 0} → Option X → List X
one None = []
one (Some x) = x ∷ []

-- what a clause says, if it is a declaration
abbrev pub said : ReadClause → Option Declaration
said c = cond (is_declaration c.term) (declaration c.term) None

-- the predicates that a clause makes the module's own
abbrev pub mentions : ReadClause → List Indicator
mentions c = shares c ++ one (pred_of c)

-- each of these once, where it stands first
abbrev pub distinct : List Indicator → List Indicator
distinct [] = []
distinct (p ∷ ps) = p ∷ filter (λ q. not (same p q)) (distinct ps)

-- the predicates that a file defines, in the order in which it first names them: those that it declares to be shared, and
-- those with clauses
abbrev pub own_preds : List ReadClause → List Indicator
own_preds clauses = distinct (flat_map mentions clauses)

-- a variable in the header exports every predicate that the module defines
abbrev pub exports_of : Part → List Indicator
exports_of p = unwrap_or (header_exports p.clauses) (own_preds p.clauses)

-- the shared predicates of a file, in the order of their declarations
abbrev pub shared_in : List ReadClause → List Indicator
shared_in clauses = flat_map shares clauses

-- its clauses that are no declarations
abbrev pub rules_in : List ReadClause → List ReadClause
rules_in clauses = filter (λ (c : ReadClause). not (is_declaration c.term)) clauses
