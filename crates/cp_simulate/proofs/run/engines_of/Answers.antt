use Rattle.std.proofs.Common.{◌≡◌, ◌+◌, [], ◌∷◌, ◌++◌, length, sym, ◌∙◌, ap, subst}
use Rattle.cp_engine.specs.Walking.{State}
use Rattle.cp_schedule.specs.Record.{AreNew}
use Rattle.cp_simulate.proofs.Engines.{length_more, one_more_new}
use Rattle.cp_simulate.proofs.run.engines_of.Goals as goal

pub loop-place-preserved : goal.loop-place-preserved
loop-place-preserved c =
    let items : c.push.new.self.items ≡ c.loop-place.shells.items ++ c.new-in-loop-place.result ∷ [] = c.in_ok-push.ensures.items in
    let number : c.new-in-loop-place.result.number ≡ length c.loop-place.shells.items + 1 = c.new-in-loop-place.ensures.number ∙ ap (λ n. n + 1) (sym c.loop-place.invariant.count) in
    record {
      count = ap length items ∙ (length_more c.loop-place.shells.items c.new-in-loop-place.result ∙ ap (λ n. n + 1) c.loop-place.invariant.count);
      new = subst (λ xs. AreNew (λ (e : State). e.code) c.args.code.now xs) (sym items)
          (one_more_new (λ (e : State). e.code) c.args.code.now c.loop-place.shells.items c.new-in-loop-place.result c.loop-place.invariant.new
          number (ap (λ (e : State). e.code) c.new-in-loop-place.ensures.machine ∙ c.in_ok-engine.ensures.code) c.new-in-loop-place.ensures.items);
    }
