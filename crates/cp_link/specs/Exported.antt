-- Which goals may be written with a module: those of predicates that a module of the program, the prelude or an active module
-- that the file uses exports.
use Rattle.std.specs.Prelude.{ℕ, Bool, false, ◌&&◌, ◌||◌, List, Option, Some, None}
use Rattle.std.specs.List.{list_any}
use Rattle.std.specs.Str.{bytes_eq}
use Rattle.cp_term.specs.declared.pred_name.PredName.{PredName}
use Rattle.cp_term.specs.PredNameEq.{pred_name_eq}
use Rattle.cp_code.specs.Bodies.{is}
use Rattle.cp_code.specs.Programs.{is_of_prelude}
use Rattle.cp_declaration.specs.declared.indicator.Indicator.{Indicator}
use Rattle.cp_module.specs.Parts.{Part}
use Rattle.cp_module.specs.Causes.{is_in}
use Rattle.cp_link.specs.declared.spot.Written.{Written}
use Rattle.cp_link.specs.declared.exported.ModuleExports.{ModuleExports}
use Rattle.cp_link.specs.Modules.{name_of, in_module, exports_of}

-- a module and what it exports
abbrev pub shown : Part → ModuleExports
shown p = record { module_name = name_of p; exports = exports_of p }

abbrev pub exports_it_in : List ℕ → Indicator → ModuleExports → Bool
exports_it_in m p q = bytes_eq q.module_name m && is_in q.exports p

abbrev pub is_active : List ℕ → Indicator → PredName → Bool
is_active m p name = pred_name_eq (in_module m p) name

abbrev pub is_exported_by : List ModuleExports → (active : List PredName) → List ℕ → Option Indicator → Bool
is_exported_by all active m None = false
is_exported_by all active m (Some p) =
    (is m "prelude" && is_of_prelude p.name p.arity) || list_any (exports_it_in m p) all || list_any (is_active m p) active

abbrev pub is_exported_in : List ModuleExports → (active : List PredName) → Written → Bool
is_exported_in all active w = is_exported_by all active w.module_name w.pred
