-- What loading a file led to.
use Rattle.std.specs.Prelude.{◌≡◌, ◌⊎◌, ℕ, Bool, List, Option, Result, Ok, Err, codes}
use Rattle.cp_io.specs.Content.{Tree}
use Rattle.cp_code.specs.declared.program.Program.{Program}
use Rattle.cp_load.specs.declared.error.LoadError.{LoadError}
use Rattle.cp_load.specs.declared.error.LoadError.TheVariants as error
use Rattle.cp_load.specs.Answers.{Loads, HasCause}
use Rattle.cp_top.specs.Lines.{file_line, refused_line}
use Rattle.cp_top.specs.Written.{CallEnd, IsRefusal, IsShort}

-- What files are, where they are told, and how often they have failed and were not there, before and after a call.
pub record FileUse : Type 0 where
  pub tree : Option Tree
  pub faults : ℕ
  pub faults_now : ℕ
  pub misses : ℕ
  pub misses_now : ℕ

-- files before and after a call
abbrev pub use_of : {F : Type 0} (tree : F → Option Tree) (faults misses : F → ℕ) (before now : F) → FileUse
use_of tree faults misses before now = record {
  tree = tree before;
  faults = faults before;
  faults_now = faults now;
  misses = misses before;
  misses_now = misses now;
}

-- no file was fetched
pub record AreUnused (f : FileUse) : Type 0 where
  pub faults_are : f.faults_now ≡ f.faults
  pub misses_are : f.misses_now ≡ f.misses

-- the status and the line of a program that could not be loaded
abbrev pub IsUnloaded : LoadError → CallEnd → Type 0
IsUnloaded (error.Refused r) e = IsShort e ⊎ IsRefusal 65 (refused_line r) e
IsUnloaded (error.Missing file) e = IsShort e ⊎ IsRefusal 66 (file_line file (codes "missing")) e
IsUnloaded (error.FileTooBig file) e = IsShort e ⊎ IsRefusal 66 (file_line file (codes "too big")) e
IsUnloaded (error.FileFault file) e = IsShort e ⊎ IsRefusal 66 (file_line file (codes "fault")) e
IsUnloaded error.NoMemory e = IsShort e

abbrev pub IsAnswered : Result Program LoadError → (Program → Type 0) → CallEnd → Type 0
IsAnswered (Ok p) IsUsed e = IsUsed p
IsAnswered (Err why) IsUsed e = IsUnloaded why e

-- The file of this name was loaded with the files that it imports. Their program was used, or it was told why there is none.
pub record IsLoadEnd (name : List ℕ) (needs_main : Bool) (f : FileUse) (IsUsed : Program → Type 0) (e : CallEnd) : Type 0 where
  pub answer : Result Program LoadError
  pub loads : Loads f.tree name needs_main answer
  pub cause : HasCause f.faults f.faults_now f.misses f.misses_now answer
  pub ending : IsAnswered answer IsUsed e
