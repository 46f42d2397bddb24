-- Assertions that are read one after another.
use Rattle.std.specs.Prelude.{◌≡◌, ℕ, List, [], ◌∷◌, ◌++◌, Option, Some, None}
use Rattle.cp_read.specs.declared.clause.ReadClause.{ReadClause}
use Rattle.cp_code.specs.declared.assertion.Assertion.{Assertion}
use Rattle.cp_code.specs.declared.program.Program.{Program}
use Rattle.cp_declaration.specs.declared.declaration.Declaration.{Declaration}
use Rattle.cp_declaration.specs.declared.declaration.Declaration.TheVariants as declares
use Rattle.cp_module.specs.declared.why.Why.{Why}
use Rattle.cp_assertion.specs.Assertions.{assertion_in}
use Rattle.cp_load.specs.Assertions.{declared_in, outcome_why, IsRead}

-- what is refused in a clause that says this
abbrev pub why_by : Program → List ℕ → ReadClause → Option Declaration → Option Why
why_by program m c (Some declares.Assertion) = outcome_why (assertion_in program m (declared_in c))
why_by program m c other = None

-- it is refused in the assertion that stands in a clause
abbrev pub IsWhy : Program → List ℕ → ReadClause → Option Why → Type 0
IsWhy program m c why = why ≡ outcome_why (assertion_in program m (declared_in c))

-- the assertions are those of the program and that which stands in a clause
abbrev pub AddsOne : Program → List ℕ → ReadClause → List Assertion → Type 0
AddsOne program m c now = (a : Assertion) × IsRead program m program.checks c a × (now ≡ program.checks ++ a ∷ [])

-- nothing of a program is changed but its assertions
abbrev pub KeepsRest : Program → Program → Type 0
KeepsRest old now = now ≡ record old { checks = now.checks }
