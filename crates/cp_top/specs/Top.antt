-- How the top call ends.
use Rattle.std.specs.Prelude.{◌⊎◌, ℕ, true, false, List}
use Rattle.cp_generate.specs.Program.{program_of}
use Rattle.cp_words.specs.declared.command.Command.{Command}
use Rattle.cp_words.specs.declared.command.Command.TheVariants.{Check, Sim, Gen}
use Rattle.cp_words.specs.Commands.{IsCommand}
use Rattle.cp_top.specs.Lines.{usage_line, accepted_line}
use Rattle.cp_top.specs.Written.{CallEnd, IsRefusal, IsAnswer, IsShort, IsRunEnd}
use Rattle.cp_top.specs.Loading.{FileUse, AreUnused, IsLoadEnd}

-- The words are no command.
pub record IsUsageEnd (words : List (List ℕ)) (f : FileUse) (e : CallEnd) : Type 0 where
  pub none : (command : Command) → IsCommand words command → ⊥
  pub unused : AreUnused f
  pub ending : IsShort e ⊎ IsRefusal 64 usage_line e

-- How a command ends: `check` tells what the program is of, `sim` runs it and tells the run, and `gen` writes the generated
-- program.
abbrev pub IsCommandEnd : Command → FileUse → CallEnd → Type 0
IsCommandEnd (Check file) f e = IsLoadEnd file false f (λ p. IsShort e ⊎ IsAnswer (accepted_line p) e) e
IsCommandEnd (Sim file steps engines seed log) f e = IsLoadEnd file true f (λ p. IsRunEnd p seed steps engines log e) e
IsCommandEnd (Gen items) f e = AreUnused f × (IsShort e ⊎ IsAnswer (program_of items) e)

-- The words are this command, which was done.
pub record IsDone (words : List (List ℕ)) (f : FileUse) (e : CallEnd) : Type 0 where
  pub command : Command
  pub is_command : IsCommand words command
  pub ending : IsCommandEnd command f e

-- how the top call ends
abbrev pub IsTopEnd : (words : List (List ℕ)) → FileUse → CallEnd → Type 0
IsTopEnd words f e = (AreUnused f × IsShort e) ⊎ IsUsageEnd words f e ⊎ IsDone words f e
