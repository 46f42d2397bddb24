use Rattle.std.proofs.Common.{◌≡◌, ◌++◌, map, take}
use Rattle.cp_call.specs.Setup.{object_of}
use Rattle.cp_code.specs.Programs.{shared_pred}
use Rattle.cp_simulate.specs.Runs.{unasked}
use Rattle.cp_simulate.proofs.hall.add_all_shared.Given as goal

abbrev pub invariant-loop-name : goal.invariant-loop-name
invariant-loop-name l = l.hall ≡ l.initial.hall ++ map (λ n. unasked (object_of (shared_pred l.preds n))) (take l.name-index l.names)
