use Rattle.std.proofs.Common.{◌≡◌, ◌-◌, suc, length}
use Rattle.std.specs.Prelude.{None}
use Rattle.cp_module.specs.Texts.{bounds, clauses_from}
use Rattle.cp_module.proofs.ClauseLaws.{before}
use Rattle.cp_module.proofs.text.clauses_from.Given as goal

abbrev pub invariant-clauses : goal.invariant-clauses
invariant-clauses l = record {
  fresh : l.reader.failed ≡ None;
  bounds : l.reader.bounds ≡ bounds;
  whole : before l.clauses (clauses_from (l.most - l.turn) l.ops l.reader.rest) ≡ clauses_from l.most l.initial.ops l.initial.reader.rest;
}
