-- A file that is accepted by itself.
use Rattle.std.specs.Prelude.{◌≡◌, ℕ, List, None, Option, Some, reverse, drop}
use Rattle.cp_read.specs.declared.clause.ReadClause.{ReadClause}
use Rattle.cp_ops.specs.Operators.{Ops}
use Rattle.cp_module.specs.Texts.{Text}
use Rattle.cp_module.specs.Causes.{refused}
use Rattle.cp_module.specs.Paths.{base_of}

-- its name, its clauses with their lines, and its operators at its end
pub record Part : Type 0 where
  pub file : List ℕ
  pub clauses : List ReadClause
  pub ops : Ops

abbrev pub part : List ℕ → Text → Part
part file text = record { file = file; clauses = text.clauses; ops = text.ops }

-- nothing in it is refused
pub record IsPart (p : Part) : Type 0 where
  pub accepted : refused (base_of p.file) (record { clauses = p.clauses; ops = p.ops; fault = None }) ≡ None
