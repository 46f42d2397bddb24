use Rattle.std.proofs.Common.{◌≡◌, length, reverse}
use Rattle.cp_code.specs.Code.{Code}
use Rattle.cp_code.specs.Machine.{drop_to}
use Rattle.cp_run.specs.Shown.{Here, frames_shown}
use Rattle.cp_run.specs.Stands.{FramesStand}
use Rattle.cp_run.proofs.run.drop_frames.Given as goal

abbrev pub invariant-cut : goal.invariant-cut
invariant-cut l =
    (h : Here) → FramesStand h (reverse l.fn.frames.items) → FramesStand h (reverse l.frames.items) × ((code : Code) → drop_to l.level (frames_shown code h (reverse l.frames.items)) ≡ drop_to l.level (frames_shown code h (reverse l.fn.frames.items)))

abbrev pub decreases-cut : goal.decreases-cut
decreases-cut l = length l.frames.items
