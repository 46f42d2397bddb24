-- What a file is by itself: a part of a program, or refused.
use Rattle.std.specs.Prelude.{◌≡◌, ℕ, List, Some, None}
use Rattle.cp_module.specs.declared.module.Loaded.{Loaded}
use Rattle.cp_module.specs.declared.module.Loaded.TheVariants as loaded
use Rattle.cp_module.specs.Texts.{Cause, Text, text_of}
use Rattle.cp_module.specs.Causes.{refused}
use Rattle.cp_module.specs.Parts.{part}
use Rattle.cp_module.specs.Paths.{base_of}

-- What is answered of the file with this name and these bytes, unless memory runs out: the part that its clauses make, where
-- nothing is refused in it, and else the cause that counts, with the file's name.
abbrev pub IsLoaded : (file : List ℕ) → Text → Loaded → Type 0
IsLoaded file text (loaded.Part p) = (refused (base_of file) text ≡ None) × (p ≡ part file text)
IsLoaded file text (loaded.Refused r) = (r.file ≡ file) × (refused (base_of file) text ≡ Some (record { line = r.line; why = r.why }))
IsLoaded file text loaded.NoMemory = Unit {0}

abbrev pub Loads : (file bytes : List ℕ) → Loaded → Type 0
Loads file bytes answer = IsLoaded file (text_of bytes) answer
