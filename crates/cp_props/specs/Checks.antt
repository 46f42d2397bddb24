-- Tested assertions as the definition has them.
use Rattle.cp_code.specs.Checks as checks
use Rattle.cp_code.specs.Programs.{prop_of}
use Rattle.cp_props.specs.declared.check.Check.{Check}
use Rattle.cp_props.specs.declared.tested.Tested.{Tested}
use Rattle.cp_props.specs.declared.tested.Tested.TheVariants.{Pred, Calls, Success}

abbrev pub tested_shown : Tested → checks.Kind
tested_shown Pred = checks.OfPred
tested_shown Calls = checks.OfCalls
tested_shown Success = checks.OfSuccess

abbrev pub check_shown : Check → checks.Check
check_shown c = record { number = c.number; kind = tested_shown c.kind; before = prop_of c.before; after = prop_of c.after }
