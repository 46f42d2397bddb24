use Rattle.std.proofs.Common.{refl, sym, ◌∙◌, ap, [], ◌++◌, append_assoc}
use Rattle.cp_shell.proofs.Asking.{nothing}
use Rattle.cp_shell.proofs.Calling.{at_as, life_as, leads_on, remote_append}
use Rattle.cp_shell.proofs.due.call_due.Goals as goal

pub loop-init : goal.loop-init
loop-init g c = record { code = refl; called = ([], nothing _, refl, refl); lives = λ l. l; at = c.requires.at }

pub loop-preserved : goal.loop-preserved
loop-preserved g c = record {
  code = c.remote_goal.ensures.code ∙ c.loop.invariant.code;
  called = (
    c.loop.invariant.called.0 ++ c.in_ok-stage-in-Call.ensures.called.0,
    c.in_ok-stage-in-Call.ensures.called.1 ∙ (ap (λ x. x ++ c.in_ok-stage-in-Call.ensures.called.0) c.loop.invariant.called.1 ∙ append_assoc c.args.items.now.items c.loop.invariant.called.0 c.in_ok-stage-in-Call.ensures.called.0),
    remote_append c.loop.invariant.called.0 c.in_ok-stage-in-Call.ensures.called.0 c.loop.invariant.called.2 c.in_ok-stage-in-Call.ensures.called.2,
    leads_on g.C.Caller.went c.args.caller.now c.loop.invariant.called.0 c.in_ok-stage-in-Call.ensures.called.0 c.loop.caller c.remote_goal.new.caller c.loop.invariant.called.3 c.in_ok-stage-in-Call.ensures.called.3,
  );
  lives = λ l. life_as g.M.Rule.Asks.asks (g.M.Machine.code c.loop.machine) (g.M.Machine.code c.args.machine.now) c.loop.items.items c.remote_goal.new.items.items c.loop.invariant.code c.in_ok-stage-in-Call.ensures.life (c.loop.invariant.lives l);
  at = at_as g.M.Rule.Asks.asks g.M.Rule.Asks.objects (g.M.Machine.code c.loop.machine) (g.M.Machine.code c.remote_goal.new.machine) (g.M.Machine.continuation c.remote_goal.new.machine) (g.M.Machine.failed c.remote_goal.new.machine) c.remote_goal.new.items.items c.in_ok-stage-in-Call.stage (sym c.remote_goal.ensures.code) c.in_ok-stage-in-Call.ensures.at;
}
