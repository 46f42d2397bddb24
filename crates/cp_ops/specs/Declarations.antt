-- Declarations one after another, as a module makes them.
use Rattle.std.specs.Prelude.{ℕ, Bool, not, ◌&&◌, nat_lt, if◌then◌else◌, List, [], ◌∷◌, Option, Some, None, Result, Ok, Err, ℤ}
use Rattle.std.specs.Option.{option_or}
use Rattle.std.specs.Str.{bytes_eq}
use Rattle.cp_ops.specs.declared.fix.Fix.{Fix}
use Rattle.cp_ops.specs.declared.table.OpError.{OpError}
use Rattle.cp_ops.specs.Table.{Ops}
use Rattle.cp_ops.specs.Operators.{declare, is_prefix, is_fixed, priority_of, kind_of}

pub record Declaration : Type 0 where
  pub priority : ℤ
  pub kind : List ℕ
  pub name : List ℕ

-- a declaration that is refused changes nothing
abbrev pub kept_at_refusal : Ops → Result Ops OpError → Ops
kept_at_refusal ops (Ok new) = new
kept_at_refusal ops (Err e) = ops

abbrev pub after_one : Ops → Declaration → Ops
after_one ops d = kept_at_refusal ops (declare ops d.priority d.kind d.name)

-- the table after a list of declarations, the first of them first
abbrev pub after_all : Ops → List Declaration → Ops
after_all ops [] = ops
after_all ops (d ∷ ds) = after_all (after_one ops d) ds

-- ---- what a list of declarations says of a name

abbrev pub is_infix : Fix → Bool
is_infix fix = not (is_prefix fix)

-- priority 0 says that the name is no operator
abbrev pub operator_of : ℕ → Fix → Option (ℕ × Fix)
operator_of priority fix = if nat_lt 0 priority then Some (priority, fix) else None

abbrev pub said_by : (Fix → Bool) → List ℕ → List ℕ → Option ℕ → Option Fix → Option (Option (ℕ × Fix))
said_by side name declared None kind = None
said_by side name declared (Some priority) None = None
said_by side name declared (Some priority) (Some fix) =
    if side fix && not (is_fixed declared) && bytes_eq declared name then Some (operator_of priority fix) else None

-- What a declaration says of a name as an operator on one side, prefix or infix: nothing, where it is refused or names
-- another side or name; else that the name is no operator there, or which one it is.
abbrev pub said : (Fix → Bool) → List ℕ → Declaration → Option (Option (ℕ × Fix))
said side name d = said_by side name d.name (priority_of d.priority) (kind_of d.kind)

-- what the last of the declarations that says something of the name says
abbrev pub last_said : (Fix → Bool) → List ℕ → List Declaration → Option (Option (ℕ × Fix))
last_said side name [] = None
last_said side name (d ∷ ds) = option_or (last_said side name ds) (said side name d)
