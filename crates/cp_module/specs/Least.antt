-- The cause that counts of two parts of a file.
use Rattle.std.specs.Prelude.{Option, Some, None}
use Rattle.cp_module.specs.Texts.{Cause}
use Rattle.cp_module.specs.Causes.{sooner}

-- of what counts in a part and in the part behind it
abbrev pub soonest : Option Cause → Option Cause → Option Cause
soonest None d = d
soonest (Some c) d = Some (sooner c d)
