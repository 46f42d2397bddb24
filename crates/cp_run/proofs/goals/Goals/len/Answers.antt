use Rattle.std.proofs.Common.{◌≡◌, [], suc, length, get_or, sym, ◌∙◌, ap, arith}
use Rattle.cp_run.proofs.ListLaws.{lists-empty, length-lists}
use Rattle.cp_run.proofs.goals.Goals.len.Goals as goal

pub returns-clause-len : goal.returns-clause-len
returns-clause-len c =
    let e : length c.args.self.now ≡ suc (length c.self.inside.nodes.items) = ap length (sym c.self.view_is) ∙ length-lists c.self.inside.nodes.items in
    omega arith

pub returns-clause-empty : goal.returns-clause-empty
returns-clause-empty c = ap (λ ls. get_or ls 0 []) (sym c.self.view_is) ∙ lists-empty c.self.inside.nodes.items
