use Rattle.std.proofs.Common.{arith, false, sym, ap, ◌∙◌}
use Rattle.std.specs.Option.{option_copied}
use Rattle.cp_code.proofs.Scans.{this_matches, none_at, none_from}
use Rattle.cp_code.proofs.program.candidate.Goals as goal

pub loop-at-preserved : goal.loop-at-preserved
loop-at-preserved c =
    none_at c.args.clauses.now (option_copied c.args.first) c.args.from c.loop-at.at c.loop-at.invariant
    (this_matches c.args.clauses.now (option_copied c.args.first) c.loop-at.at c.in-Some.clause.now false
    (sym (ap option_copied c.in-Some.is) ∙ c.get.ensures.value)
    (sym c.if-can_match.false ∙ c.can_match.ensures))

pub returns : goal.returns
returns c = none_from c.args.clauses.now (option_copied c.args.first) c.args.from c.loop-at.at (omega arith) c.loop-at.invariant
