-- What the table of a list of predicates has to do with the list.
use Rattle.std.specs.Prelude.{◌≡◌, List, map}
use Rattle.cp_declaration.specs.declared.indicator.Indicator.{Indicator}
use Rattle.cp_link.specs.declared.pred_list.PredList.TheInside.{Inside}
use Rattle.cp_link.specs.Keyed.{named}
use Rattle.cp_link.specs.Modules.{distinct}

abbrev pub preds_in : Inside → List Indicator
preds_in l = l.preds

-- each predicate of the list is in the table once
abbrev pub IsListed : Inside → Type 0
IsListed l = map named l.keys.keys ≡ distinct l.preds
