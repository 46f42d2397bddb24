use Rattle.std.proofs.Common.{◌≡◌, drop}
use Rattle.std.specs.List.{list_any}
use Rattle.cp_link.specs.Modules.{said}
use Rattle.cp_load.specs.Gathering.{imports_file}
use Rattle.cp_load.proofs.step.import.Given as goal

abbrev pub invariant-loop-clause : goal.invariant-loop-clause
invariant-loop-clause l =
    list_any (λ c. imports_file l.file l.importing (said c)) (drop l.clause-index l.clauses) ≡ list_any (λ c. imports_file l.file l.importing (said c)) l.clauses
