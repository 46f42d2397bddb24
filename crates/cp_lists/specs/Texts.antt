-- How reading a text answers.
use Rattle.std.specs.Prelude.{◌≡◌, ℕ, ◌<◌, length, List, [], ◌∷◌, Option, Some, None, if◌then◌else◌, Result, Ok, Err, ℤ, pos, negsuc, codes}
use Rattle.cp_term.specs.declared.cell.Cell.{Cell}
use Rattle.cp_heap.specs.State.{State, instance_at}
use Rattle.cp_goal.specs.Errors.{instantiation_error, type_error, representation_error}
use Rattle.cp_goal.specs.Lists.{is_scalar, code_before}
use Rattle.cp_lists.specs.declared.text_error.TextError.{TextError}
use Rattle.cp_lists.specs.declared.text_error.TextError.TheVariants.{Unbound, NotList, NotInteger, NotCode, NoMemory}

-- the error is of this kind, with its culprit on the heap; want of memory is of none
abbrev pub IsKind : State → TextError → List Cell → Type 0
IsKind h Unbound kind = kind ≡ instantiation_error
IsKind h (NotList r) kind = (r.at < length h.terms) × (kind ≡ type_error (codes "list") (instance_at h r.at))
IsKind h (NotInteger r) kind = (r.at < length h.terms) × (kind ≡ type_error (codes "integer") (instance_at h r.at))
IsKind h NotCode kind = kind ≡ representation_error (codes "character_code")
IsKind h NoMemory kind = Unit {0}

-- an answer is the text or the character that there is, or tells of the error; or memory was wanting
abbrev pub Reads : {X : Type 0} → State → Result X TextError → Result X (List Cell) → Type 0
Reads h (Ok x) read = read ≡ Ok x
Reads h (Err NoMemory) read = Unit {0}
Reads h (Err e) read = (kind : List Cell) × (read ≡ Err kind) × IsKind h e kind

-- the character with this number
abbrev pub char_of : ℤ → Option ℕ
char_of (pos c) = if is_scalar c then Some c else None
char_of (negsuc n) = None

-- what is read where these codes stand before the others
abbrev pub codes_before : List ℕ → Result (List ℕ) (List Cell) → Result (List ℕ) (List Cell)
codes_before [] read = read
codes_before (c ∷ cs) read = code_before (Ok c) (codes_before cs read)
