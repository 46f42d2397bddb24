-- Names of files.
use Rattle.std.specs.Prelude.{ℕ, ◌-◌, Bool, ◌&&◌, nat_eq, nat_lt, cond, List, [], ◌∷◌, ◌++◌, length, take, drop, codes}
use Rattle.std.specs.Str.{bytes_eq}

-- the byte `/`
abbrev pub slash : ℕ
slash = 47

-- the part of a path behind its last `/`, and the part up to it and with it
abbrev pub last_part : List ℕ → List ℕ → List ℕ
last_part seen [] = seen
last_part seen (c ∷ path) = cond (nat_eq c slash) (last_part [] path) (last_part (seen ++ c ∷ []) path)

abbrev pub file_part : List ℕ → List ℕ
file_part path = last_part [] path

abbrev pub folder_of : List ℕ → List ℕ
folder_of path = take (length path - length (file_part path)) path

-- the name ends in `.pl`
abbrev pub has_ending : List ℕ → Bool
has_ending name = bytes_eq (drop (length name - 3) name) (codes ".pl")

-- the base name of a file: the part behind its last `/` without `.pl`
unfoldable pub base_of : List ℕ → List ℕ
base_of path = cond (has_ending (file_part path)) (take (length (file_part path) - 3) (file_part path)) (file_part path)

-- the file that a module of the file at this path imports under this name
unfoldable pub imported_file : (path name : List ℕ) → List ℕ
imported_file path name = folder_of path ++ cond (has_ending name) name (name ++ codes ".pl")
