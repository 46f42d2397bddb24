use Rattle.std.proofs.Common.{◌≡◌, ◌-◌, length}
use Rattle.cp_load.specs.Reached.{IsReached}
use Rattle.cp_load.proofs.gathering.gather.Given as goal

abbrev pub invariant-files : goal.invariant-files
invariant-files g l =
    IsReached (g.F.Files.tree l.fn.files) l.name l.known l.parts
    × (g.F.Files.tree l.files ≡ g.F.Files.tree l.fn.files)
    × (g.F.Files.faults l.files ≡ g.F.Files.faults l.fn.files)
    × (g.F.Files.misses l.files ≡ g.F.Files.misses l.fn.files)

abbrev pub decreases-files : goal.decreases-files
decreases-files g l = 65 - length l.parts
