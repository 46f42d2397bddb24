use Rattle.std.proofs.Common.{inl, inr, refl}
use Rattle.cp_top.specs.Lines.{usage_line}
use Rattle.cp_top.proofs.local.run_words.Goals as goal

pub returns-in-Err-Usage-clause-ending : goal.returns-in-Err-Usage-clause-ending
returns-in-Err-Usage-clause-ending g c = inr (inl (record {
  none = c.in-Err-Usage.ensures c.in-Err-Usage.field-0-is;
  unused = record { faults_are = refl; misses_are = refl };
  ending = c.refuse.ensures usage_line c.usage_line.ensures;
}))
