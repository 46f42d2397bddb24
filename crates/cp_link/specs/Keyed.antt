-- Predicates by their keys, and what is kept of the modules that they are imported from.
use Rattle.std.specs.Prelude.{ℕ, Bool, false, not, ◌||◌, List, [], ◌∷◌, if◌then◌else◌, Option, Some, None}
use Rattle.std.specs.Str.{bytes_eq}
use Rattle.cp_term.specs.declared.pred_name.PredName.{PredName}
use Rattle.cp_declaration.specs.declared.indicator.Indicator.{Indicator}
use Rattle.cp_module.specs.Causes.{same}
use Rattle.cp_link.specs.declared.pred_list.Key.{Key}
use Rattle.cp_link.specs.declared.origin.Origin.{Origin}

abbrev pub named : Key → Indicator
named k = record { name = k.name; arity = k.arity }

-- the predicate of a module, without its module
abbrev pub bare : PredName → Indicator
bare i = record { name = i.name; arity = i.arity }

-- what is kept of the modules of imports of one name and arity, of which this is one more
abbrev pub noted : Option Origin → List ℕ → Origin
noted None m = record { module_name = m; several = false }
noted (Some o) m = record { module_name = o.module_name; several = o.several || not (bytes_eq o.module_name m) }

-- whether one of those modules is another one
abbrev pub differs : Option Origin → List ℕ → Bool
differs None m = false
differs (Some o) m = o.several || not (bytes_eq m o.module_name)

-- a row of the table of origins
abbrev pub origin_in : List (Indicator × Origin) → Indicator → Option Origin
origin_in [] p = None
origin_in (r ∷ rows) p = if same p r.0 then Some r.1 else origin_in rows p
