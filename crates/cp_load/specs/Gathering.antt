-- The files of a program, in loading order: the first file, and then those that files import, breadth first in the order of
-- their declarations, each once.
use Rattle.std.specs.Prelude.{ℕ, zero, suc, Bool, not, nat_lt, cond, true, false, List, [], ◌∷◌, ◌++◌, length, Option, Some, None, slice_get}
use Rattle.std.specs.List.{list_any}
use Rattle.std.specs.Str.{bytes_eq}
use Rattle.cp_io.specs.Content.{Tree}
use Rattle.cp_read.specs.declared.clause.ReadClause.{ReadClause}
use Rattle.cp_declaration.specs.declared.declaration.Declaration.{Declaration}
use Rattle.cp_declaration.specs.declared.declaration.Declaration.TheVariants as declares
use Rattle.cp_module.specs.declared.why.Why.TheVariants as why
use Rattle.cp_module.specs.Paths.{base_of, imported_file}
use Rattle.cp_module.specs.declared.cause.Cause.{Cause}
use Rattle.cp_module.specs.Texts.{text_of}
use Rattle.cp_module.specs.Parts.{Part, part}
use Rattle.cp_module.specs.Causes.{refused, unless, cause_on, least}
use Rattle.cp_link.specs.Modules.{name_of, said}
use Rattle.cp_link.specs.Refusals.{Fault}

-- what the files of a program come to
pub data Gathered : Type 0 where
  Files : List Part → Gathered
  Refuses : Fault → Gathered
  Missing : (file : List ℕ) → Gathered
  TooBig : (file : List ℕ) → Gathered

-- ---- the files that are known

abbrev pub is_known : List (List ℕ) → List ℕ → Bool
is_known files file = list_any (bytes_eq file) files

abbrev pub with_file : List (List ℕ) → List ℕ → List (List ℕ)
with_file known file = cond (is_known known file) known (known ++ file ∷ [])

abbrev pub known_by : List (List ℕ) → (file : List ℕ) → Option Declaration → List (List ℕ)
known_by known file (Some (declares.UseModule name imports)) = with_file known (imported_file file name)
known_by known file other = known

abbrev pub known_after : List (List ℕ) → (file : List ℕ) → List ReadClause → List (List ℕ)
known_after known file [] = known
known_after known file (c ∷ clauses) = known_after (known_by known file (said c)) file clauses

-- ---- what is refused in a file when it is loaded

-- a program has at most 64 files; the import is refused that would add one more
abbrev pub too_many : List (List ℕ) → (file : List ℕ) → List ReadClause → List Cause
too_many known file [] = []
too_many known file (c ∷ clauses) =
    cause_on c.line (unless (nat_lt 64 (length (known_by known file (said c)))) why.TooManyModules None)
    ++ too_many (known_by known file (said c)) file clauses

abbrev pub header_line : List ReadClause → ℕ
header_line [] = 1
header_line (c ∷ clauses) = c.line

-- the header has another name than the file
abbrev pub is_misnamed : Part → Bool
is_misnamed p = not (bytes_eq (name_of p) (base_of p.file))

abbrev pub misnamed : Part → List Cause
misnamed p = cause_on (header_line p.clauses) (unless (is_misnamed p) why.BadDeclaration None)

-- a file that is imported has the name of its module
abbrev pub step_causes : (is_first : Bool) → List (List ℕ) → Part → List Cause
step_causes is_first known p = cond is_first [] (misnamed p) ++ too_many known p.file p.clauses

abbrev pub imports_file : (file : List ℕ) → (importing : List ℕ) → Option Declaration → Bool
imports_file file importing (Some (declares.UseModule name imports)) = bytes_eq (imported_file importing name) file
imports_file file importing other = false

-- a clause of the file imports the first file
abbrev pub imports_first : (first : Part) → Part → Bool
imports_first first p = list_any (λ c. imports_file first.file p.file (said c)) p.clauses

-- the first file is held to its name where a file imports it
abbrev pub first_causes : (first : Part) → Part → List Cause
first_causes first p = cond (imports_first first p) (misnamed first) []

abbrev pub first_of : List Part → Part → Part
first_of [] p = p
first_of (q ∷ parts) p = q

abbrev pub fault_at : (file : List ℕ) → Option Cause → Option Fault → Option Fault
fault_at file (Some c) other = Some (record { file = file; cause = c })
fault_at file None other = other

abbrev pub is_none : List Part → Bool
is_none [] = true
is_none (p ∷ parts) = false

-- what is refused where this file is loaded behind these
abbrev pub step_fault : List (List ℕ) → List Part → Part → Option Fault
step_fault known parts p =
    fault_at p.file (least (step_causes (is_none parts) known p))
    (fault_at (first_of parts p).file (least (first_causes (first_of parts p) p)) None)

-- ---- all files

-- a file has at most 1,048,576 bytes
abbrev pub most_bytes : ℕ
most_bytes = 1048576

-- what a file is by itself: a part of the program, or the end of its loading
pub data Taken : Type 0 where
  Takes : Part → Taken
  Ends : Gathered → Taken

abbrev pub judged : (file bytes : List ℕ) → Option Cause → Taken
judged file bytes (Some c) = Ends (Refuses (record { file = file; cause = c }))
judged file bytes None = Takes (part file (text_of bytes))

-- the file of this name with these bytes, if it is there
abbrev pub taken : (file : List ℕ) → Option (List ℕ) → Taken
taken file None = Ends (Missing file)
taken file (Some bytes) = cond (nat_lt most_bytes (length bytes)) (Ends (TooBig file)) (judged file bytes (refused (base_of file) (text_of bytes)))

abbrev pub unless_refused : Option Fault → Gathered → Gathered
unless_refused (Some f) other = Refuses f
unless_refused None other = other

abbrev pub unless_ended : Taken → (Part → Gathered) → Gathered
unless_ended (Ends end) next = end
unless_ended (Takes p) next = next p

abbrev pub unless_last : List Part → Option (List ℕ) → (List ℕ → Gathered) → Gathered
unless_last parts None next = Files parts
unless_last parts (Some file) next = next file

-- The files behind those that are loaded. Files are known in loading order, so the next one is the known one with the number of
-- those that are loaded. No more than 64 are known, so that the bound is never met.
abbrev pub gather : ℕ → Tree → (known : List (List ℕ)) → List Part → Gathered
gather zero tree known parts = Files parts
gather (suc most) tree known parts =
    unless_last parts (slice_get known (length parts)) (λ file.
    unless_ended (taken file (tree file)) (λ p.
    unless_refused (step_fault known parts p) (gather most tree (known_after known p.file p.clauses) (parts ++ p ∷ []))))

unfoldable pub gathered : Tree → (name : List ℕ) → Gathered
gathered tree name = gather 65 tree (name ∷ []) []

-- the tree without the file of this name
abbrev pub without : (file : List ℕ) → Tree → Tree
without file tree name = cond (bytes_eq name file) None (tree name)
