-- What the table of a list of imports has to do with the list.
use Rattle.std.specs.Prelude.{◌≡◌, List, map, is_some}
use Rattle.std.specs.List.{list_any}
use Rattle.cp_term.specs.declared.pred_name.PredName.{PredName}
use Rattle.cp_declaration.specs.declared.indicator.Indicator.{Indicator}
use Rattle.cp_link.specs.declared.pred_list.Key.{Key}
use Rattle.cp_link.specs.declared.origin.Origin.{Origin}
use Rattle.cp_link.specs.declared.import_list.ImportList.TheInside.{Inside}
use Rattle.cp_link.specs.Imports.{is_imported}
use Rattle.cp_link.specs.Refusals.{clashes_with}
use Rattle.cp_link.specs.Keyed.{named, bare, origin_in, differs}

abbrev pub preds_in : Inside → List PredName
preds_in l = l.preds

abbrev pub row_of : Key × Origin → Indicator × Origin
row_of e = (named e.0, e.1)

-- The table tells which predicates are imported, and which of them are imported from other modules.
pub record AreOrigins (rows : List (Indicator × Origin)) (preds : List PredName) : Type 0 where
  pub found : (p : Indicator) → is_some (origin_in rows p) ≡ is_imported preds p
  pub others : (i : PredName) → differs (origin_in rows (bare i)) i.module ≡ list_any (clashes_with i) preds

abbrev pub HasOrigins : Inside → Type 0
HasOrigins l = AreOrigins (map row_of l.origins.entries) l.preds
