-- The operators of a module (ISO/IEC 13211-1, 6.3.4), and what a declaration changes. Which names are fixed and the order
-- of the refusals are this project's own.
use Rattle.std.specs.Prelude.{◌≡◌, ℕ, ◌-◌, Bool, true, false, not, ◌||◌, ◌&&◌, nat_le, nat_lt, if◌then◌else◌, List, [], ◌∷◌, Option, Some, None, IsTrue, is_some, Result, Ok, Err, ℤ, pos, negsuc, codes}
use Rattle.std.specs.List.{list_all}
use Rattle.std.specs.Str.{bytes_eq}
use Rattle.cp_ops.specs.declared.fix.Fix.{Fix}
use Rattle.cp_ops.specs.declared.fix.Fix.TheVariants.{Xfx, Xfy, Yfx, Fy, Fx}
pub use Rattle.cp_ops.specs.Table.{Ops, OpRow}
use Rattle.cp_ops.specs.declared.table.OpError.{OpError}
use Rattle.cp_ops.specs.declared.table.OpError.TheVariants.{BadPriority, BadKind, Clash, NoMemory}

abbrev pub has_name : List ℕ → OpRow → Bool
has_name name r = bytes_eq name r.name

-- the priority and the kind of a name in one of the two maps
abbrev pub look_up : List OpRow → List ℕ → Option (ℕ × Fix)
look_up [] name = None
look_up (r ∷ rows) name = if has_name name r then Some (r.priority, r.fix) else look_up rows name

-- the map with this row in the place of the one with its name, or at the end
abbrev pub with_row : OpRow → List OpRow → List OpRow
with_row row [] = row ∷ []
with_row row (r ∷ rows) = if has_name (row.name) r then row ∷ rows else r ∷ with_row row rows

-- the map without the row of this name
abbrev pub without_row : List ℕ → List OpRow → List OpRow
without_row name [] = []
without_row name (r ∷ rows) = if has_name name r then rows else r ∷ without_row name rows

-- priority 0 removes
abbrev pub changed : OpRow → List OpRow → List OpRow
changed row rows = if nat_lt 0 (row.priority) then with_row row rows else without_row (row.name) rows

abbrev pub is_prefix : Fix → Bool
is_prefix Fy = true
is_prefix Fx = true
is_prefix Xfx = false
is_prefix Xfy = false
is_prefix Yfx = false

abbrev pub with_operator : Ops → OpRow → Ops
with_operator ops row =
    if is_prefix (row.fix) then record ops { prefixes = changed row (ops.prefixes) } else record ops { infixes = changed row (ops.infixes) }

abbrev pub kind_of : List ℕ → Option Fix
kind_of name =
    if bytes_eq name (codes "xfx") then Some Xfx
    else if bytes_eq name (codes "xfy") then Some Xfy
    else if bytes_eq name (codes "yfx") then Some Yfx
    else if bytes_eq name (codes "fy") then Some Fy
    else if bytes_eq name (codes "fx") then Some Fx
    else None

-- the names whose meaning no declaration changes
abbrev pub is_fixed : List ℕ → Bool
is_fixed name = bytes_eq name (codes ",") || bytes_eq name (codes "|") || bytes_eq name (codes "[]") || bytes_eq name (codes "{}")

-- a priority is 0 to 1200
abbrev pub priority_of : ℤ → Option ℕ
priority_of (pos n) = if nat_le n 1200 then Some n else None
priority_of (negsuc n) = None

-- What a declaration makes of the table. The priority is looked at first, then the kind, then the name.
abbrev pub declared_as : Ops → List ℕ → ℕ → Option Fix → Result Ops OpError
declared_as ops name priority None = Err BadKind
declared_as ops name priority (Some fix) =
    if is_fixed name then Err Clash else Ok (with_operator ops (record { name = name; priority = priority; fix = fix }))

abbrev pub declared_at : Ops → List ℕ → List ℕ → Option ℕ → Result Ops OpError
declared_at ops kind name None = Err BadPriority
declared_at ops kind name (Some priority) = declared_as ops name priority (kind_of kind)

abbrev pub declare : Ops → ℤ → List ℕ → List ℕ → Result Ops OpError
declare ops priority kind name = declared_at ops kind name (priority_of priority)

-- What a call answered is what the definition gives, unless memory ran out. A refusal changes nothing.
abbrev pub Declares : Result Unit OpError → Result Ops OpError → Ops → Ops → Type 0
Declares (Ok u) given old new = given ≡ Ok new
Declares (Err NoMemory) given old new = new ≡ old
Declares (Err BadPriority) given old new = (given ≡ Err BadPriority) × (new ≡ old)
Declares (Err BadKind) given old new = (given ≡ Err BadKind) × (new ≡ old)
Declares (Err Clash) given old new = (given ≡ Err Clash) × (new ≡ old)

-- the greatest priority that an operator of this priority and kind admits on its left and on its right
abbrev pub left_of : ℕ → Fix → ℕ
left_of p Yfx = p
left_of p Xfx = p - 1
left_of p Xfy = p - 1
left_of p Fy = 0
left_of p Fx = 0

abbrev pub right_of : ℕ → Fix → ℕ
right_of p Xfy = p
right_of p Fy = p
right_of p Xfx = p - 1
right_of p Yfx = p - 1
right_of p Fx = p - 1

-- the name is an operator of some kind
abbrev pub is_operator : Ops → List ℕ → Bool
is_operator ops name = is_some (look_up (ops.prefixes) name) || is_some (look_up (ops.infixes) name)

-- ---- tables that declarations reach

abbrev pub has_priority : OpRow → Bool
has_priority r = nat_lt 0 (r.priority) && nat_le (r.priority) 1200

abbrev pub is_prefix_row : OpRow → Bool
is_prefix_row r = has_priority r && is_prefix (r.fix) && not (is_fixed (r.name))

-- the comma is an infix operator by itself, and no other of the names that are fixed is one
abbrev pub is_infix_row : OpRow → Bool
is_infix_row r = has_priority r && not (is_prefix (r.fix)) && (not (is_fixed (r.name)) || bytes_eq (r.name) (codes ","))

-- no name has two rows
abbrev pub is_map : List OpRow → Bool
is_map [] = true
is_map (r ∷ rows) = not (is_some (look_up rows (r.name))) && is_map rows

pub record IsTable (ops : Ops) : Type 0 where
  pub one_prefix : IsTrue (is_map (ops.prefixes))
  pub one_infix : IsTrue (is_map (ops.infixes))
  pub prefixes : IsTrue (list_all is_prefix_row (ops.prefixes))
  pub infixes : IsTrue (list_all is_infix_row (ops.infixes))
  pub comma : look_up (ops.infixes) (codes ",") ≡ Some (1000, Xfy)
