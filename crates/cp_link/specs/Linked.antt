-- The program that files make, before its regular types have their clauses and its assertions are read.
use Rattle.std.specs.Prelude.{ℕ, ◌+◌, Bool, true, false, not, ◌||◌, ◌&&◌, nat_eq, cond, List, [], ◌∷◌, ◌++◌, map, filter, length, Option, Some, None, position, unwrap_or, codes}
use Rattle.std.specs.List.{list_any, flat_map, filter_map}
use Rattle.std.specs.Str.{bytes_eq}
use Rattle.cp_term.specs.declared.pred_name.PredName.{PredName}
use Rattle.cp_term.specs.PredNameEq.{pred_name_eq}
use Rattle.cp_read.specs.declared.clause.ReadClause.{ReadClause}
use Rattle.cp_code.specs.declared.clause.Clause.{Clause}
use Rattle.cp_code.specs.declared.import.Import.{Import}
use Rattle.cp_code.specs.declared.peer.Peer.{Peer}
use Rattle.cp_code.specs.declared.pred_info.PredInfo.{PredInfo}
use Rattle.cp_code.specs.declared.pred_kind.PredKind.{PredKind}
use Rattle.cp_code.specs.declared.pred_kind.PredKind.TheVariants as pred_kind
use Rattle.cp_code.specs.declared.program.Program.{Program}
use Rattle.cp_code.specs.declared.type_row.TypeRow.{TypeRow}
use Rattle.cp_declaration.specs.declared.declaration.Declaration.{Declaration}
use Rattle.cp_declaration.specs.declared.declaration.Declaration.TheVariants as declares
use Rattle.cp_declaration.specs.declared.indicator.Indicator.{Indicator}
use Rattle.cp_module.specs.Parts.{Part}
use Rattle.cp_module.specs.Causes.{is_in, is_shared, clauses_of}
use Rattle.cp_link.specs.Modules.{name_of, in_module, said, own_preds, exports_of, shared_in, rules_in}
use Rattle.cp_link.specs.Imports.{imports_in, active_in}
use Rattle.cp_link.specs.Refusals.{rules_of_parts}

-- ---- the shared predicates and the active modules of a program

-- the shared predicates of the files, in loading order; the first of them is object 2
abbrev pub shared_by : Part → List PredName
shared_by p = map (in_module (name_of p)) (shared_in p.clauses)

abbrev pub all_shared : List Part → List PredName
all_shared parts = flat_map shared_by parts

abbrev pub object_of : List PredName → PredName → ℕ
object_of shared p = 2 + unwrap_or (position (pred_name_eq p) shared) 0

abbrev pub distinct_preds : List PredName → List PredName
distinct_preds [] = []
distinct_preds (p ∷ ps) = p ∷ filter (λ q. not (pred_name_eq p q)) (distinct_preds ps)

abbrev pub distinct_names : List (List ℕ) → List (List ℕ)
distinct_names [] = []
distinct_names (m ∷ ms) = m ∷ filter (λ n. not (bytes_eq m n)) (distinct_names ms)

-- the predicates of active modules that the files use, each once
abbrev pub all_active : List Part → List PredName
all_active parts = distinct_preds (flat_map (λ (p : Part). active_in p.clauses) parts)

-- the active modules, each once
abbrev pub active_modules : List Part → List (List ℕ)
active_modules parts = distinct_names (map (λ (p : PredName). p.module) (all_active parts))

-- ---- predicates

abbrev pub suspends_by : Indicator → Option Declaration → Bool
suspends_by p (Some (declares.Shared suspends preds)) = suspends && is_in preds p
suspends_by p other = false

-- the predicate is declared `concurrent`
abbrev pub suspends : List ReadClause → Indicator → Bool
suspends clauses p = list_any (λ c. suspends_by p (said c)) clauses

abbrev pub shared_kind : Bool → ℕ → PredKind
shared_kind true n = pred_kind.Concurrent n
shared_kind false n = pred_kind.Plain n

abbrev pub kind_in : (shared : List PredName) → Part → Indicator → PredKind
kind_in shared p i = cond (is_shared p.clauses i) (shared_kind (suspends p.clauses i) (object_of shared (in_module (name_of p) i))) pred_kind.Rules

-- marks of the same arguments, of which one is enough
abbrev pub either_marks : List Bool → List Bool → List Bool
either_marks [] bs = bs
either_marks (a ∷ more) [] = a ∷ more
either_marks (a ∷ more) (b ∷ bs) = (a || b) ∷ either_marks more bs

abbrev pub marks_by : Indicator → Option Declaration → List Bool
marks_by i (Some (declares.MetaPredicate name marks)) = cond (bytes_eq name i.name && nat_eq (length marks) i.arity) marks []
marks_by i other = []

-- what the `meta_predicate` declarations of a file mark of a predicate, all of them together
abbrev pub marks_in : List ReadClause → Indicator → List Bool
marks_in [] i = []
marks_in (c ∷ clauses) i = either_marks (marks_by i (said c)) (marks_in clauses i)

abbrev pub clause_in : List ℕ → ReadClause → Clause
clause_in m c = record { whole = c.term; «module» = m; line = c.line }

abbrev pub pred_in : (shared : List PredName) → Part → Indicator → PredInfo
pred_in shared p i = record {
  name = in_module (name_of p) i;
  clauses = map (clause_in (name_of p)) (clauses_of p.clauses i);
  kind = kind_in shared p i;
  goals = marks_in p.clauses i;
}

abbrev pub preds_in : (shared : List PredName) → Part → List PredInfo
preds_in shared p = map (pred_in shared p) (own_preds p.clauses)

-- a predicate of an active module, by the place of that module among those that are used
abbrev pub remote_pred : List (List ℕ) → PredName → PredInfo
remote_pred modules p = record {
  name = p;
  clauses = [];
  kind = pred_kind.Remote (unwrap_or (position (bytes_eq p.module) modules) 0);
  goals = [];
}

abbrev pub remote_preds : List Part → List PredInfo
remote_preds parts = map (remote_pred (active_modules parts)) (all_active parts)

-- ---- the rest

abbrev pub import_in : List ℕ → PredName → Import
import_in m p = record { seer = m; pred = p }

abbrev pub imports_of : List Part → Part → List Import
imports_of parts p = map (import_in (name_of p)) (imports_in parts p.file p.clauses)

abbrev pub type_by : Option Declaration → Option TypeRow
type_by (Some (declares.RegType name)) = Some (record { name = name; clauses = [] })
type_by other = None

abbrev pub types_in : Part → List TypeRow
types_in p = filter_map (λ c. type_by (said c)) p.clauses

abbrev pub peer_of : List ℕ → Peer
peer_of m = record { «module» = m; address = [] }

abbrev pub first_name : List Part → List ℕ
first_name [] = []
first_name (p ∷ parts) = name_of p

abbrev pub first_exports : List Part → List PredName
first_exports [] = []
first_exports (p ∷ parts) = map (in_module (name_of p)) (exports_of p)

-- The program of these files and of the prelude. Regular types are named and have no clauses yet, there are no assertions, and
-- no address of an active module is known.
unfoldable pub linked : List Part → (prelude : Part) → Program
linked parts prelude = record {
  first = first_name parts;
  preds = flat_map (preds_in (all_shared parts)) parts ++ remote_preds parts ++ preds_in [] prelude;
  shared = all_shared parts;
  exports = first_exports parts;
  peers = map peer_of (active_modules parts);
  types = flat_map types_in parts;
  checks = [];
  modules = map name_of parts;
  ops = map (λ (p : Part). p.ops) parts;
  imports = flat_map (imports_of parts) parts;
  written = rules_of_parts parts;
}
