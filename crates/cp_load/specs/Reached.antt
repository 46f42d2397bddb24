-- How far files are loaded, and what loading answers of them by then.
use Rattle.std.specs.Prelude.{◌≡◌, ℕ, ◌-◌, ◌≤◌, false, List, [], ◌∷◌, length, take, Option, Result, Ok, Err, IfSome}
use Rattle.cp_io.specs.Content.{Tree}
use Rattle.cp_module.specs.Parts.{Part}
use Rattle.cp_link.specs.Kept.{fault_of}
use Rattle.cp_load.specs.declared.error.LoadError.{LoadError}
use Rattle.cp_load.specs.declared.error.LoadError.TheVariants as error
use Rattle.cp_load.specs.Gathering.{Files, Refuses, Missing, TooBig, Taken, Takes, Ends, taken, is_known, without, gather, gathered}

-- ---- one file

-- why there is no part of a file
abbrev pub IsNotTaken : (file : List ℕ) → Taken → LoadError → Type 0
IsNotTaken file t (error.Refused r) = t ≡ Ends (Refuses (fault_of r))
IsNotTaken file t (error.Missing f) = t ≡ Ends (Missing f)
IsNotTaken file t (error.FileTooBig f) = t ≡ Ends (TooBig f)
IsNotTaken file t (error.FileFault f) = f ≡ file
IsNotTaken file t error.NoMemory = Unit {0}

-- what a file with this content is by itself, unless memory runs out or a fetch fails
abbrev pub IsTaken : (file : List ℕ) → Option (List ℕ) → Result Part LoadError → Type 0
IsTaken file content (Ok p) = taken file content ≡ Takes p
IsTaken file content (Err e) = IsNotTaken file (taken file content) e

-- the file has some content: that which is told, where it is
abbrev pub TakesFile : Option Tree → (file : List ℕ) → Result Part LoadError → Type 0
TakesFile told file answer = (content : Option (List ℕ)) × IfSome told (λ files. files file ≡ content) × IsTaken file content answer

-- ---- all files

abbrev pub IsNotGathered : Tree → (name : List ℕ) → LoadError → Type 0
IsNotGathered tree name (error.Refused r) = gathered tree name ≡ Refuses (fault_of r)
IsNotGathered tree name (error.Missing file) = gathered tree name ≡ Missing file
IsNotGathered tree name (error.FileTooBig file) = gathered tree name ≡ TooBig file
IsNotGathered tree name (error.FileFault file) = gathered (without file tree) name ≡ Missing file
IsNotGathered tree name error.NoMemory = Unit {0}

abbrev pub IsGathered : Tree → (name : List ℕ) → Result (List Part) LoadError → Type 0
IsGathered tree name (Ok parts) = gathered tree name ≡ Files parts
IsGathered tree name (Err e) = IsNotGathered tree name e

-- what the files from this one are in some tree: in that which is told, where it is
abbrev pub Gathers : Option Tree → (name : List ℕ) → Result (List Part) LoadError → Type 0
Gathers told name answer = (tree : Tree) × IfSome told (λ files. tree ≡ files) × IsGathered tree name answer

-- ---- the files so far

abbrev pub AreDistinct : List (List ℕ) → Type 0
AreDistinct [] = Unit {0}
AreDistinct (f ∷ files) = (is_known files f ≡ false) × AreDistinct files

-- two trees have the same files under these names
abbrev pub AgreeOn : Tree → Tree → List (List ℕ) → Type 0
AgreeOn a b [] = Unit {0}
AgreeOn a b (f ∷ files) = (a f ≡ b f) × AgreeOn a b files

-- The files that are loaded are the first of those that are known. In every tree that has them the files from the first one are
-- what comes of the files behind these.
pub record IsReached (told : Option Tree) (name : List ℕ) (known : List (List ℕ)) (parts : List Part) : Type 0 where
  pub tree : Tree
  pub is_told : IfSome told (λ files. tree ≡ files)
  pub room : length known ≤ 64
  pub within : length parts ≤ length known
  pub distinct : AreDistinct known
  pub goes_on : (other : Tree) → AgreeOn other tree (take (length parts) known) → gathered other name ≡ gather (65 - length parts) other known parts

-- the same when a file more is loaded, or what the files are where it is not
abbrev pub Reaches : Option Tree → (name : List ℕ) → (known : List (List ℕ)) → List Part → Result (Unit {0}) LoadError → Type 0
Reaches told name known parts (Ok u) = IsReached told name known parts
Reaches told name known parts (Err e) = (tree : Tree) × IfSome told (λ files. tree ≡ files) × IsNotGathered tree name e
