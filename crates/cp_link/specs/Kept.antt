-- What is kept of a file while its clauses are looked at one after another, and the causes of a clause by what is kept.
use Rattle.std.specs.Prelude.{◌≡◌, ℕ, ◌+◌, ◌++◌, Bool, false, not, nat_lt, nat_le, cond, List, [], map, length, min, Option, Some, None, unwrap_or}
use Rattle.std.specs.List.{list_any}
use Rattle.cp_term.specs.declared.cell.Cell.{Cell}
use Rattle.cp_term.specs.declared.pred_name.PredName.{PredName}
use Rattle.cp_read.specs.declared.clause.ReadClause.{ReadClause}
use Rattle.cp_declaration.specs.declared.declaration.Declaration.{Declaration}
use Rattle.cp_declaration.specs.declared.declaration.Declaration.TheVariants as declares
use Rattle.cp_declaration.specs.declared.indicator.Indicator.{Indicator}
use Rattle.cp_declaration.specs.Declarations.{is_declaration}
use Rattle.cp_module.specs.declared.refusal.Refusal.{Refusal}
use Rattle.cp_module.specs.declared.why.Why.{Why}
use Rattle.cp_module.specs.declared.why.Why.TheVariants as why
use Rattle.cp_module.specs.Parts.{Part}
use Rattle.cp_module.specs.Paths.{imported_file}
use Rattle.cp_module.specs.Causes.{pred_of, shares, unless, is_in}
use Rattle.cp_link.specs.declared.exported.ModuleExports.{ModuleExports}
use Rattle.cp_link.specs.declared.kept.Kept.{Kept}
use Rattle.cp_link.specs.Modules.{name_of, in_module, said, shared_in, rules_in}
use Rattle.cp_link.specs.Imports.{file_named, imports_by, active_in, is_imported}
use Rattle.cp_link.specs.Written.{written_in}
use Rattle.cp_link.specs.Exported.{is_exported_in}
use Rattle.cp_link.specs.Refusals.{Where, Fault, earlier, imported, rules_of_parts, shared_of_parts, is_taken, lacks, clash}

-- a count that stays at its type's end
abbrev pub counted : ℕ → ℕ
counted n = min n 18446744073709551615

-- what is kept of a file and of the clauses above a clause
pub record Keeps (kept : Kept) (w : Where) : Type 0 where
  pub own : kept.own ≡ name_of w.part
  pub imported : kept.imported ≡ imported w
  pub active : kept.active ≡ active_in w.part.clauses
  pub rules : kept.rules ≡ counted (rules_of_parts w.before + length (rules_in w.above))
  pub shared : kept.shared ≡ counted (shared_of_parts w.before + length (shared_in w.above))
  pub earlier : kept.earlier ≡ earlier w

abbrev pub at : (parts before : List Part) → Part → (above : List ReadClause) → Where
at parts before part above = record { parts = parts; before = before; part = part; above = above }

-- what is kept behind a clause
abbrev pub passed : List Part → (file : List ℕ) → ReadClause → Kept → Kept
passed parts file c kept = record kept {
  rules = cond (is_declaration c.term) kept.rules (counted (kept.rules + 1));
  shared = counted (kept.shared + length (shares c));
  earlier = kept.earlier ++ imports_by parts file c;
}

abbrev pub import_by : List Part → (file : List ℕ) → Kept → ReadClause → Option Why
import_by parts file kept c = unless (clash kept.earlier (imports_by parts file c)) why.ImportClash None

abbrev pub shared_by : Kept → List Indicator → Option Why
shared_by kept preds =
    unless (nat_lt 32 (kept.shared + length preds)) why.TooManyShared
    (unless (list_any (is_imported kept.imported) preds) why.ClauseOfImported None)

abbrev pub declaration_by : List Part → (before : List Part) → (file : List ℕ) → Kept → ReadClause → Option Declaration → Option Why
declaration_by parts before file kept c (Some (declares.Module name exports)) = unless (is_taken before kept.own) why.DuplicateModule None
declaration_by parts before file kept c (Some (declares.UseModule name imports)) =
    unless (lacks (file_named parts (imported_file file name)) imports) why.NotExported (import_by parts file kept c)
declaration_by parts before file kept c (Some (declares.UseActiveModule name preds)) = unless (is_taken parts name) why.DuplicateModule (import_by parts file kept c)
declaration_by parts before file kept c (Some (declares.Shared suspends preds)) = shared_by kept preds
declaration_by parts before file kept c other = None

abbrev pub is_unexported_by : List ModuleExports → Kept → List Cell → Bool
is_unexported_by all kept cells = list_any (λ g. not (is_exported_in all kept.active g)) (written_in kept.own cells)

abbrev pub is_imported_by : Kept → Option Indicator → Bool
is_imported_by kept None = false
is_imported_by kept (Some p) = is_imported kept.imported p

abbrev pub rule_by : List ModuleExports → Kept → ReadClause → Option Why
rule_by all kept c =
    unless (nat_le 65536 kept.rules) why.TooManyClauses
    (unless (is_unexported_by all kept c.term) why.NotExported
    (unless (is_imported_by kept (pred_of c)) why.ClauseOfImported None))

abbrev pub clause_by : List Part → (before : List Part) → (file : List ℕ) → List ModuleExports → Kept → ReadClause → Option Why
clause_by parts before file all kept c = cond (is_declaration c.term) (declaration_by parts before file kept c (said c)) (rule_by all kept c)

-- what is imported from a module: the predicates that are named, or else all that it exports
abbrev pub from_module : Option (List Indicator) → Option ModuleExports → List PredName
from_module imports None = []
from_module imports (Some m) = map (in_module m.module_name) (unwrap_or imports m.exports)

abbrev pub lacks_of : Option ModuleExports → Option (List Indicator) → Bool
lacks_of None imports = false
lacks_of (Some m) None = false
lacks_of (Some m) (Some imports) = list_any (λ p. not (is_in m.exports p)) imports

abbrev pub fault_of : Refusal → Fault
fault_of r = record { file = r.file; cause = record { line = r.line; why = r.why } }
