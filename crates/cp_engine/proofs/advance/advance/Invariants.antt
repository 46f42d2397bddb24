use Rattle.std.proofs.Common.{List}
use Rattle.cp_call.specs.declared.item.Input.{Input}
use Rattle.cp_engine.specs.Walking.{code, IsWalking}
use Rattle.cp_engine.proofs.advance.advance.Given as goal

abbrev pub invariant-moves : goal.invariant-moves
invariant-moves l = (past : List Input) → IsWalking (code l.code) l.started.goal past l.fn.run → IsWalking (code l.code) l.started.goal past l.run
