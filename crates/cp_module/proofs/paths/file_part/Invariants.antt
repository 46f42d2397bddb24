use Rattle.std.proofs.Common.{◌≡◌, ◌-◌, ◌≤◌, length, take, drop}
use Rattle.cp_module.specs.Paths.{last_part, file_part}
use Rattle.cp_module.proofs.paths.file_part.Given as goal

abbrev pub invariant-loop-at : goal.invariant-loop-at
invariant-loop-at l = record {
  within : l.start ≤ l.at;
  part : last_part (take (l.at - l.start) (drop l.start l.path)) (drop l.at l.path) ≡ file_part l.path;
}
