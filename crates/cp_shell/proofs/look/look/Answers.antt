use Rattle.cp_shell.proofs.Living.{lives_by_look}
use Rattle.cp_shell.proofs.Turning.{made_by_asking, if_ok2, turned_by_look}
use Rattle.cp_shell.proofs.look.look.Goals as goal

pub returns-clause-turned : goal.returns-clause-turned
returns-clause-turned g c = if_ok2 c.looked.result c.looked.ensures.at c.looked.ensures.parked (λ turn at parked.
    turned_by_look _ _ (g.A.Asker.objects c.args.asker.now) _ _ c.args.items.now.items _ _ c.args.number c.in_ok-any_term.field-0 c.in_ok-asked.field-0 _ _
    c.in_ok-any_term.ensures c.requires.at c.requires.objects c.in_ok-asked.ensures.replied c.in_ok-asked.ensures.still at parked)

pub returns-clause-life : goal.returns-clause-life
returns-clause-life g c = lives_by_look (g.M.Rule.Asks.asks (g.M.Machine.code c.args.machine.now)) c.args.items.now.items _ _ c.in_ok-any_term.ensures c.requires.at c.ask-asked.ensures.event

pub returns-in_err-asked-clause-life : goal.returns-in_err-asked-clause-life
returns-in_err-asked-clause-life g c = lives_by_look (g.M.Rule.Asks.asks (g.M.Machine.code c.args.machine.now)) c.args.items.now.items _ _ c.in_ok-any_term.ensures c.requires.at c.ask-asked.ensures.event

pub returns-clause-once : goal.returns-clause-once
returns-clause-once g c = made_by_asking c.args.items.now.items _ _ _ c.ask-asked.ensures.event

pub returns-in_err-asked-clause-once : goal.returns-in_err-asked-clause-once
returns-in_err-asked-clause-once g c = made_by_asking c.args.items.now.items _ _ _ c.ask-asked.ensures.event
