use Rattle.std.proofs.Common.{rules, ◌≡◌, List, ◌∷◌, None}
use Rattle.std.proofs.lemmas.List.Elements.{All-cons}
use Rattle.cp_list.specs.Lists.{own}
use Rattle.cp_turn.specs.Passes.{PassView}
use Rattle.cp_turn.proofs.Between.{one_less, all_mid_of, joins_more}
use Rattle.cp_turn.proofs.ending.join_passes.Goals as goal

pub join_pass-requires-clause-own : goal.join_pass-requires-clause-own
join_pass-requires-clause-own g c =
    let P = λ (p : PassView g.row.T-Entry.Denot g.row.T-Basis.Denot). (p.table ≡ c.args.table.now.shared.table_id) × (p.found ≡ None) in
    let i = c.loop-pass.invariant in
    all_mid_of P c.args.passes.items c.loop-pass.passes.items c.pop.new.self.items c.in-Some.pass i.2.0 i.2.1 c.in-Some.ensures.items c.requires.own

pub loop-pass-preserved : goal.loop-pass-preserved
loop-pass-preserved g c =
    let i = c.loop-pass.invariant in
    let p : PassView g.row.T-Entry.Denot g.row.T-Basis.Denot = c.in-Some.pass in
    let done : List (PassView g.row.T-Entry.Denot g.row.T-Basis.Denot) = i.2.0 in (
      search rules,
      search rules,
      (
        p ∷ done,
        one_less c.args.passes.items c.loop-pass.passes.items c.pop.new.self.items p done i.2.1 c.in-Some.ensures.items,
        joins_more g.T.Ledgered.by c.loop-pass.seat.me c.join_pass.new.seat.me done p i.2.2 c.join_pass.ensures.joined,
        All-cons (λ (q : PassView g.row.T-Entry.Denot g.row.T-Basis.Denot). q.mine ≡ own g.T.Ledgered.by q.number q.seen) p done c.join_pass.ensures.mine i.2.3,
      ),
    )
