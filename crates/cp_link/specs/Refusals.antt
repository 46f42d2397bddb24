-- What is refused in the files of a program together. Files are looked at in loading order; of the causes of a file the one
-- of the least line counts, and of those in one line the one that stands first in the table of causes.
use Rattle.std.specs.Prelude.{ℕ, ◌+◌, Bool, false, not, ◌||◌, ◌&&◌, nat_eq, nat_lt, nat_le, cond, List, [], ◌∷◌, ◌++◌, map, length, sum, Option, Some, None, is_some, codes}
use Rattle.std.specs.List.{list_any, flat_map}
use Rattle.std.specs.Str.{bytes_eq}
use Rattle.cp_term.specs.declared.cell.Cell.{Cell}
use Rattle.cp_term.specs.declared.pred_name.PredName.{PredName}
use Rattle.cp_read.specs.declared.clause.ReadClause.{ReadClause}
use Rattle.cp_declaration.specs.declared.declaration.Declaration.{Declaration}
use Rattle.cp_declaration.specs.declared.declaration.Declaration.TheVariants as declares
use Rattle.cp_declaration.specs.declared.indicator.Indicator.{Indicator}
use Rattle.cp_declaration.specs.Declarations.{is_declaration}
use Rattle.cp_module.specs.declared.why.Why.{Why}
use Rattle.cp_module.specs.declared.why.Why.TheVariants as why
use Rattle.cp_module.specs.declared.cause.Cause.{Cause}
use Rattle.cp_module.specs.Parts.{Part}
use Rattle.cp_module.specs.Paths.{imported_file}
use Rattle.cp_module.specs.Causes.{is_in, pred_of, shares, unless, cause_on, least}
use Rattle.cp_link.specs.Modules.{name_of, said, exports_of, shared_in, rules_in}
use Rattle.cp_link.specs.Imports.{file_named, imports_by, imports_in, active_in, is_imported, names}
use Rattle.cp_link.specs.Written.{written_in}
use Rattle.cp_link.specs.Exported.{shown, is_exported_in}

-- ---- counts

abbrev pub rules_of_parts : List Part → ℕ
rules_of_parts parts = sum (map (λ (p : Part). length (rules_in p.clauses)) parts)

abbrev pub shared_of_parts : List Part → ℕ
shared_of_parts parts = sum (map (λ (p : Part). length (shared_in p.clauses)) parts)

-- ---- names of modules

abbrev pub is_module_of : List Part → List ℕ → Bool
is_module_of parts m = list_any (λ (p : Part). bytes_eq (name_of p) m) parts

-- a name that no other file of the program, and no active module that it uses, may have
abbrev pub is_taken : List Part → List ℕ → Bool
is_taken parts m = bytes_eq m (codes "prelude") || is_module_of parts m

-- ---- imports

abbrev pub lacks : Option Part → Option (List Indicator) → Bool
lacks None imports = false
lacks (Some q) None = false
lacks (Some q) (Some imports) = list_any (λ p. not (is_in (exports_of q) p)) imports

-- a predicate that the module exports under the name and arity of another one
abbrev pub clashes_with : PredName → PredName → Bool
clashes_with i j = bytes_eq i.name j.name && nat_eq i.arity j.arity && not (bytes_eq i.module j.module)

abbrev pub clash : List PredName → List PredName → Bool
clash earlier imports = list_any (λ i. list_any (clashes_with i) earlier) imports

-- ---- the causes of one clause

-- What a file and its program say of a clause: the files of the program, those before this one, the file, and the clauses above
-- the clause.
pub record Where : Type 0 where
  pub parts : List Part
  pub before : List Part
  pub part : Part
  pub above : List ReadClause

-- what the clauses above import
abbrev pub earlier : Where → List PredName
earlier w = imports_in w.parts w.part.file w.above

-- what the whole file imports
abbrev pub imported : Where → List PredName
imported w = imports_in w.parts w.part.file w.part.clauses

abbrev pub import_cause : Where → ReadClause → Option Why
import_cause w c = unless (clash (earlier w) (imports_by w.parts w.part.file c)) why.ImportClash None

-- a program has at most 32 shared predicates
abbrev pub shared_cause : Where → List Indicator → Option Why
shared_cause w preds =
    unless (nat_lt 32 (shared_of_parts w.before + length (shared_in w.above) + length preds)) why.TooManyShared
    (unless (list_any (is_imported (imported w)) preds) why.ClauseOfImported None)

abbrev pub declaration_cause : Where → ReadClause → Option Declaration → Option Why
declaration_cause w c (Some (declares.Module name exports)) = unless (is_taken w.before (name_of w.part)) why.DuplicateModule None
declaration_cause w c (Some (declares.UseModule name imports)) =
    unless (lacks (file_named w.parts (imported_file w.part.file name)) imports) why.NotExported (import_cause w c)
declaration_cause w c (Some (declares.UseActiveModule name preds)) = unless (is_taken w.parts name) why.DuplicateModule (import_cause w c)
declaration_cause w c (Some (declares.Shared suspends preds)) = shared_cause w preds
declaration_cause w c other = None

abbrev pub is_unexported : Where → List Cell → Bool
is_unexported w cells = list_any (λ g. not (is_exported_in (map shown w.parts) (active_in w.part.clauses) g)) (written_in (name_of w.part) cells)

abbrev pub is_imported_head : Where → Option Indicator → Bool
is_imported_head w None = false
is_imported_head w (Some p) = is_imported (imported w) p

-- a program has at most 65,536 clauses
abbrev pub rule_cause : Where → ReadClause → Option Why
rule_cause w c =
    unless (nat_le 65536 (rules_of_parts w.before + length (rules_in w.above))) why.TooManyClauses
    (unless (is_unexported w c.term) why.NotExported
    (unless (is_imported_head w (pred_of c)) why.ClauseOfImported None))

abbrev pub clause_cause : Where → ReadClause → Option Why
clause_cause w c = cond (is_declaration c.term) (declaration_cause w c (said c)) (rule_cause w c)

-- ---- the causes of a file, and of a program

abbrev pub causes_from : List Part → (before : List Part) → Part → (above clauses : List ReadClause) → List Cause
causes_from parts before p above [] = []
causes_from parts before p above (c ∷ clauses) =
    cause_on c.line (clause_cause (record { parts = parts; before = before; part = p; above = above }) c) ++ causes_from parts before p (above ++ c ∷ []) clauses

abbrev pub part_cause : List Part → (before : List Part) → Part → Option Cause
part_cause parts before p = least (causes_from parts before p [] p.clauses)

pub record Fault : Type 0 where
  pub file : List ℕ
  pub cause : Cause

abbrev pub or_later : List ℕ → Option Cause → Option Fault → Option Fault
or_later file (Some c) later = Some (record { file = file; cause = c })
or_later file None later = later

abbrev pub refused_from : List Part → (before rest : List Part) → Option Fault
refused_from parts before [] = None
refused_from parts before (p ∷ rest) = or_later p.file (part_cause parts before p) (refused_from parts (before ++ p ∷ []) rest)

-- what the files of a program are refused for together, if they are
unfoldable pub refused : List Part → Option Fault
refused parts = refused_from parts [] parts
