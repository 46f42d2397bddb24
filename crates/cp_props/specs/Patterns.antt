-- Patterns of types against terms of the heap.
use Rattle.std.specs.Prelude.{ℕ, ◌<◌, Bool, false, List, [], ◌∷◌, ◌++◌, map, length, All, Option, Some, None}
use Rattle.std.specs.Str.{bytes_eq}
use Rattle.cp_term.specs.declared.cell.Cell.{Cell}
use Rattle.cp_term.specs.CellEq.{cell_eq}
use Rattle.cp_heap.specs.State.{State, instance_at}
use Rattle.cp_code.specs.Properties as properties
use Rattle.cp_props.specs.declared.place.Place.{Place}

-- the first cell is this one
abbrev pub begins_with : Cell → List Cell → Bool
begins_with c [] = false
begins_with c (d ∷ cells) = cell_eq c d

-- the name is this one
abbrev pub has_name : List ℕ → Option (List ℕ) → Bool
has_name f None = false
has_name f (Some g) = bytes_eq g f

abbrev pub place_shown : State → Place → properties.Place
place_shown h p = record { var = p.var; term = instance_at h p.at.at }

abbrev pub places_shown : State → List Place → List properties.Place
places_shown h places = map (place_shown h) places

-- each is at a place of the heap
abbrev pub ArePlaces : State → List Place → Type 0
ArePlaces h places = All (λ (p : Place). p.at.at < length h.terms) places

-- the places that were found, and those of the rest of the pattern
abbrev pub found : List properties.Place → Option (List properties.Place) → Option (List properties.Place)
found places None = None
found places (Some more) = Some (places ++ more)
