-- The words of declarations.
use Rattle.std.specs.Prelude.{ℕ, Bool, ◌||◌, List, codes}
use Prim.Native.String.{String}
use Rattle.std.specs.Str.{bytes_eq}

-- the name is this word
abbrev pub is : List ℕ → String → Bool
is name word = bytes_eq name (codes word)

-- the packages that a file may use
abbrev pub is_package : List ℕ → Bool
is_package p = is p "assertions" || is p "rtchecks" || is p "regtypes" || is p "concurrency"

-- the libraries that a file may use, whose predicates are visible everywhere
abbrev pub is_library : List ℕ → Bool
is_library l = is l "concurrency" || is l "aggregates" || is l "lists" || is l "write"

-- the status of an assertion
abbrev pub is_status : List ℕ → Bool
is_status s = is s "check" || is s "trust" || is s "true" || is s "checked" || is s "false"

-- the kind of an assertion
abbrev pub is_kind : List ℕ → Bool
is_kind k = is k "pred" || is k "calls" || is k "success" || is k "comp"
