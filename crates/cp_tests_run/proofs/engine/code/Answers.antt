use Rattle.std.proofs.Common.{ℕ, sym, subst}
use Rattle.cp_code.specs.Lawful.{NameObjects}
use Rattle.cp_calls.specs.Goals.{AreGoodChecks}
use Rattle.cp_run.specs.Programs.{HasGoodPreds}
use Rattle.cp_tests_run.proofs.engine.code.Goals as goal

pub returns : goal.returns
returns c =
    record {
      lawful = record { objects = subst (NameObjects _) (sym c.new-preds.ensures) tt };
      bodies = subst HasGoodPreds (sym c.new-preds.ensures) tt;
      checks = subst AreGoodChecks (sym c.new-checks.ensures) tt;
    }
