use Rattle.std.proofs.Common.{◌≡◌, true, false, ◌∙◌, sym}
use Rattle.cp_module.specs.Causes.{is_in}
use Rattle.cp_link.proofs.DistinctLaws.{distinct_there, distinct_new}
use Rattle.cp_link.proofs.exports.with_new.Goals as goal

pub returns-then-there : goal.returns-then-there
returns-then-there c = λ before e.
    let h : is_in c.args.all c.args.pred ≡ true = sym c.in_ok-there.ensures ∙ c.if-there.true in
    distinct_there before c.args.all c.args.pred e h

pub returns : goal.returns
returns c = λ before e.
    let h : is_in c.args.all c.args.pred ≡ false = sym c.in_ok-there.ensures ∙ c.if-there.false in
    c.in_ok-longer.ensures ∙ distinct_new before c.args.all c.args.pred e h
