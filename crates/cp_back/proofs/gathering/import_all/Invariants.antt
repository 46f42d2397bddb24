use Rattle.std.proofs.Common.{take}
use Rattle.cp_back.specs.Copies.{AreImported}
use Rattle.cp_back.proofs.gathering.import_all.Given as goal

abbrev pub invariant-terms : goal.invariant-terms
invariant-terms l = AreImported l.fn.heap l.heap (take l.term-index l.term-items) l.refs
