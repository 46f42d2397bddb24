-- The remote call that is due at a stage.
use Rattle.std.specs.Prelude.{◌≡◌, true}
use Rattle.cp_call.specs.declared.item.Next.TheVariants as next
use Rattle.cp_shell.specs.declared.stage.Stage.{Stage}
use Rattle.cp_shell.specs.declared.stage.Stage.TheVariants as stage
use Rattle.cp_shell.specs.declared.due.Due.{Due}
use Rattle.cp_shell.specs.declared.due.Due.TheVariants as due
use Rattle.cp_shell.specs.Stage.{is_settled}

-- the stage is that of this remote call, or no remote call is due at it
abbrev pub IsDueOf : Stage → Due → Type 0
IsDueOf s (due.Call number call) = s ≡ stage.Runs number (next.Remote call)
IsDueOf s (due.Nothing left) = (left ≡ s) × (is_settled left ≡ true)
