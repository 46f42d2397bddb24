use Rattle.std.proofs.Common.{◌≡◌, ◌<◌, [], ap, sym, ◌∙◌, length, arith}
use Rattle.cp_module.proofs.TermLaws.{nothing_there}
use Rattle.cp_module.proofs.Reached.{of_none, of_some}
use Rattle.cp_module.proofs.judged.refused.Goals as goal

pub returns-in-empty : goal.returns-in-empty
returns-in-empty c =
    let none : length c.args.text.now.clauses ≡ 0 = omega (arith, ap length c.as_slice.ensures) in
    c.cause_of_none.ensures ∙ of_none c.args.base.now c.args.text.now (nothing_there c.args.text.now.clauses none)

pub returns-in_ok-cause-in-len1-up : goal.returns-in_ok-cause-in-len1-up
returns-in_ok-cause-in-len1-up c =
    let some : 0 < length c.as_slice.result.now = omega (arith, c.in-len1-up.len_at_least) in
    c.in_ok-cause-in-len1-up.ensures ∙ of_some c.args.base.now c.args.text.now c.first-item.result c.as_slice.result.now c.as_slice.ensures some c.first-item.is
