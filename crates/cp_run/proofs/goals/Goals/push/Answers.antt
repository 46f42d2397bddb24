use Rattle.std.proofs.Common.{◌≡◌, ◌++◌, [], ◌∷◌, suc, length, get_or, sym, ◌∙◌, ap, arith}
use Rattle.cp_run.specs.Lists.{lists_of}
use Rattle.cp_run.proofs.ListLaws.{AreLinked-push, lists-push, length-lists}
use Rattle.cp_run.proofs.goals.Goals.push.Goals as goal

pub invariant_of-self-2 : goal.invariant_of-self-2
invariant_of-self-2 c =
    let e : length c.args.self.now ≡ suc (length c.self.inside.nodes.items) = ap length (sym c.self.view_is) ∙ length-lists c.self.inside.nodes.items in
    let h = c.requires in
    rw c.in_ok-push.ensures.items (AreLinked-push c.self.inside.nodes.items (record { item = c.args.item; rest = c.args.rest }) c.self.invariant (omega arith) (omega arith))

pub returns-clause-at : goal.returns-clause-at
returns-clause-at c =
    let e : length c.args.self.now ≡ suc (length c.self.inside.nodes.items) = ap length (sym c.self.view_is) ∙ length-lists c.self.inside.nodes.items in
    omega arith

pub returns-clause-ok : goal.returns-clause-ok
returns-clause-ok c =
    ap lists_of c.in_ok-push.ensures.items ∙ lists-push c.self.inside.nodes.items (record { item = c.args.item; rest = c.args.rest })
    ∙ ap (λ ls. ls ++ (c.args.item ∷ get_or ls c.args.rest []) ∷ []) c.self.view_is
