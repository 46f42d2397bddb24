use Rattle.std.proofs.Common.{◌≡◌, ◌-◌, ◌<◌, [], ◌∷◌, suc, length, get_or, sym, ◌∙◌, ap, arith}
use Rattle.cp_run.specs.Lists.{lists_of}
use Rattle.cp_run.proofs.ListLaws.{lists-at, length-lists}
use Rattle.cp_run.proofs.goals.Goals.first.Goals as goal

pub returns-then-at-eq0 : goal.returns-then-at-eq0
returns-then-at-eq0 c = ap (λ at. get_or c.args.self.now at []) c.if-at-eq0.true ∙ c.len-len.ensures.empty

pub index-node-requires : goal.index-node-requires
index-node-requires c =
    let e : length c.args.self.now ≡ suc (length c.self.inside.nodes.items) = ap length (sym c.self.view_is) ∙ length-lists c.self.inside.nodes.items in
    let some = c.if-at-eq0.false in
    omega (arith, c.requires)

pub returns : goal.returns
returns c =
    let e : length c.args.self.now ≡ suc (length c.self.inside.nodes.items) = ap length (sym c.self.view_is) ∙ length-lists c.self.inside.nodes.items in
    let some = c.if-at-eq0.false in
    let h = c.requires in
    let both = lists-at c.self.inside.nodes.items c.args.at c.index-node.result.now c.self.invariant (omega arith) (omega arith) in
    let node = sym c.index-node.ensures in (
      rw node at (let lt = both.1 in let n : (get_or c.self.inside.nodes.items (c.args.at - 1) c.index-node.result.now).rest < length c.args.self.now = omega arith in n),
      ap (λ ls. get_or ls c.args.at []) (sym c.self.view_is)
          ∙ both.0
          ∙ ap (λ n. n.item ∷ get_or (lists_of c.self.inside.nodes.items) n.rest []) node
          ∙ ap (λ ls. c.index-node.result.now.item ∷ get_or ls c.index-node.result.now.rest []) c.self.view_is,
    )
