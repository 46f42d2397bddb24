-- What a file imports from other files and from active modules.
use Rattle.std.specs.Prelude.{ℕ, Bool, false, ◌&&◌, nat_eq, List, [], map, Option, Some, None, find, unwrap_or}
use Rattle.std.specs.List.{list_any, flat_map}
use Rattle.std.specs.Str.{bytes_eq}
use Rattle.cp_term.specs.declared.pred_name.PredName.{PredName}
use Rattle.cp_read.specs.declared.clause.ReadClause.{ReadClause}
use Rattle.cp_declaration.specs.declared.declaration.Declaration.{Declaration}
use Rattle.cp_declaration.specs.declared.declaration.Declaration.TheVariants as declares
use Rattle.cp_declaration.specs.declared.indicator.Indicator.{Indicator}
use Rattle.cp_module.specs.Parts.{Part}
use Rattle.cp_module.specs.Paths.{imported_file}
use Rattle.cp_link.specs.Modules.{name_of, in_module, said, exports_of}

-- the file with this name among the files of a program
abbrev pub file_named : List Part → List ℕ → Option Part
file_named parts file = find (λ (p : Part). bytes_eq p.file file) parts

-- the predicates that are imported from a file: those that are named, or else all that it exports
abbrev pub from_part : Option (List Indicator) → Option Part → List PredName
from_part imports None = []
from_part imports (Some q) = map (in_module (name_of q)) (unwrap_or imports (exports_of q))

abbrev pub imported_by : List Part → (file : List ℕ) → Option Declaration → List PredName
imported_by parts file (Some (declares.UseModule name imports)) = from_part imports (file_named parts (imported_file file name))
imported_by parts file (Some (declares.UseActiveModule name preds)) = map (in_module name) preds
imported_by parts file other = []

-- what a clause of a file imports
abbrev pub imports_by : List Part → (file : List ℕ) → ReadClause → List PredName
imports_by parts file c = imported_by parts file (said c)

abbrev pub imports_in : List Part → (file : List ℕ) → List ReadClause → List PredName
imports_in parts file clauses = flat_map (imports_by parts file) clauses

-- the predicates of active modules that a file uses
abbrev pub active_by : Option Declaration → List PredName
active_by (Some (declares.UseActiveModule name preds)) = map (in_module name) preds
active_by other = []

abbrev pub active_in : List ReadClause → List PredName
active_in clauses = flat_map (λ c. active_by (said c)) clauses

-- the same name and arity
abbrev pub names : Indicator → PredName → Bool
names p i = bytes_eq i.name p.name && nat_eq i.arity p.arity

abbrev pub is_imported : List PredName → Indicator → Bool
is_imported imports p = list_any (names p) imports
