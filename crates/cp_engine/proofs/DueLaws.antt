-- A goal that was charged, by what it was read as.
use Rattle.std.proofs.Common.{◌≡◌, ℕ, List, sym, ap}
use Rattle.cp_code.specs.Code.{Code}
use Rattle.cp_code.specs.Programs.{or_fail}
use Rattle.cp_code.specs.Machine.{goal_move}
use Rattle.cp_control.specs.declared.control.Control.{Control}
use Rattle.cp_control.specs.Control.{body_read}
use Rattle.cp_run.specs.declared.run.Run.{Run}
use Rattle.cp_run.specs.Shown.{moved}

pub due-moved : (code : Code) (r : Run) (rest level own at : ℕ) (m : List ℕ) (c c' : Control) → c' ≡ c
    → moved code r rest level (goal_move code (or_fail (body_read r.heap.terms at c m)) own) ≡ moved code r rest level (goal_move code (or_fail (body_read r.heap.terms at c' m)) own)
due-moved code r rest level own at m c c' e = sym (ap (λ x. moved code r rest level (goal_move code (or_fail (body_read r.heap.terms at x m)) own)) e)
