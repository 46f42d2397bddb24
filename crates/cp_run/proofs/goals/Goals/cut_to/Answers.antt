use Rattle.std.proofs.Common.{◌≡◌, ◌-◌, suc, take, ◌∙◌, ap, arith}
use Rattle.cp_run.specs.Lists.{lists_of}
use Rattle.cp_run.proofs.ListLaws.{AreLinked-take, lists-take}
use Rattle.cp_run.proofs.goals.Goals.cut_to.Goals as goal

pub invariant_of-self : goal.invariant_of-self
invariant_of-self c = rw c.truncate.ensures.items (AreLinked-take c.self.inside.nodes.items (c.args.len - 1) c.self.invariant)

pub returns : goal.returns
returns c =
    let some = c.requires.some in
    let e : suc (c.args.len - 1) ≡ c.args.len = omega arith in
    ap lists_of c.truncate.ensures.items ∙ lists-take c.self.inside.nodes.items (c.args.len - 1) ∙ ap (λ n. take n (lists_of c.self.inside.nodes.items)) e ∙ ap (take c.args.len) c.self.view_is
