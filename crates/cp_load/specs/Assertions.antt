-- The assertions of a program, read when all of it is linked and its regular types are there.
use Rattle.std.specs.Prelude.{◌≡◌, ℕ, List, [], ◌∷◌, ◌++◌, drop, Option, Some, None}
use Rattle.std.specs.List.{flat_map}
use Rattle.cp_term.specs.declared.cell.Cell.{Cell}
use Rattle.cp_read.specs.declared.clause.ReadClause.{ReadClause}
use Rattle.cp_code.specs.declared.assertion.Assertion.{Assertion}
use Rattle.cp_code.specs.declared.program.Program.{Program}
use Rattle.cp_declaration.specs.declared.declaration.Declaration.{Declaration}
use Rattle.cp_declaration.specs.declared.declaration.Declaration.TheVariants as declares
use Rattle.cp_module.specs.declared.why.Why.{Why}
use Rattle.cp_module.specs.declared.why.Why.TheVariants as why
use Rattle.cp_module.specs.declared.cause.Cause.{Cause}
use Rattle.cp_module.specs.Parts.{Part}
use Rattle.cp_module.specs.Causes.{cause_on, least}
use Rattle.cp_link.specs.Modules.{name_of, said}
use Rattle.cp_link.specs.Refusals.{Fault, or_later}
use Rattle.cp_assertion.specs.declared.assertion_error.AssertionError.{AssertionError}
use Rattle.cp_assertion.specs.declared.assertion_error.AssertionError.TheVariants as refusal
use Rattle.cp_assertion.specs.Assertions.{Outcome, Reads, Refused, assertion_in, shown, IsPlacedAmong}

-- the declaration D of a clause `:- D`
abbrev pub declared_in : ReadClause → List Cell
declared_in c = drop 1 c.term

abbrev pub why_of : AssertionError → Option Why
why_of refusal.NotAssertion = Some why.BadDeclaration
why_of refusal.BadHead = Some why.BadHead
why_of refusal.BadProperty = Some why.BadProperty
why_of refusal.OnShared = Some why.OnShared
why_of refusal.NoMemory = None

abbrev pub outcome_why : Outcome → Option Why
outcome_why (Reads a) = None
outcome_why (Refused e) = why_of e

abbrev pub cause_by : Program → List ℕ → ReadClause → Option Declaration → List Cause
cause_by program m c (Some declares.Assertion) = cause_on c.line (outcome_why (assertion_in program m (declared_in c)))
cause_by program m c other = []

abbrev pub causes_in : Program → Part → List Cause
causes_in program p = flat_map (λ c. cause_by program (name_of p) c (said c)) p.clauses

-- what is refused in the assertions of these files of a program
unfoldable pub assertion_fault : Program → List Part → Option Fault
assertion_fault program [] = None
assertion_fault program (p ∷ parts) = or_later p.file (least (causes_in program p)) (assertion_fault program parts)

-- an assertion of a module of the program that stands in this clause, behind those that stand earlier
pub record IsRead (program : Program) (m : List ℕ) (earlier : List Assertion) (c : ReadClause) (a : Assertion) : Type 0 where
  pub reads : assertion_in program m (declared_in c) ≡ Reads (shown a)
  pub placed : IsPlacedAmong m c.line earlier a

-- these are the assertions behind the earlier ones: those of these clauses, in their order
abbrev pub AddsBy : Program → List ℕ → ReadClause → Option Declaration → (earlier : List Assertion) → (List Assertion → Type 0) → Type 0
AddsBy program m c (Some declares.Assertion) earlier Then = (a : Assertion) × IsRead program m earlier c a × Then (earlier ++ a ∷ [])
AddsBy program m c other earlier Then = Then earlier

abbrev pub ClausesAdd : Program → List ℕ → List ReadClause → (earlier : List Assertion) → (List Assertion → Type 0) → Type 0
ClausesAdd program m [] earlier Then = Then earlier
ClausesAdd program m (c ∷ clauses) earlier Then = AddsBy program m c (said c) earlier (λ more. ClausesAdd program m clauses more Then)

abbrev pub FilesAdd : Program → List Part → (earlier all : List Assertion) → Type 0
FilesAdd program [] earlier all = all ≡ earlier
FilesAdd program (p ∷ parts) earlier all = ClausesAdd program (name_of p) p.clauses earlier (λ more. FilesAdd program parts more all)

-- these are the assertions of the files of the program
abbrev pub AreAssertions : Program → List Part → List Assertion → Type 0
AreAssertions program parts all = FilesAdd program parts [] all
