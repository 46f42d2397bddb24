use Rattle.std.proofs.Common.{◌≡◌, drop}
use Rattle.std.specs.List.{list_any}
use Rattle.cp_link.specs.Exported.{exports_it_in}
use Rattle.cp_link.proofs.exported.is_exported_by_one.Given as goal

abbrev pub invariant-loop-of : goal.invariant-loop-of
invariant-loop-of l = list_any (exports_it_in l.module_name l.pred) (drop l.of-index l.all) ≡ list_any (exports_it_in l.module_name l.pred) l.all
