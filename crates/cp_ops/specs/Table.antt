-- The operator table of a module: two finite maps, one of the names that are prefix operators and one of those that are
-- infix operators, each as the list of its rows. A name may be in both. There are no postfix operators.
use Rattle.std.specs.Prelude.{ℕ, List}
use Rattle.cp_ops.specs.declared.fix.Fix.{Fix}

pub record OpRow : Type 0 where
  pub name : List ℕ
  pub priority : ℕ
  pub fix : Fix

pub record Ops : Type 0 where
  pub prefixes : List OpRow
  pub infixes : List OpRow
