use Rattle.std.proofs.Common.{◌∙◌, ap, sym}
use Rattle.cp_call.specs.Object.{State, is_parked}
use Rattle.cp_call.specs.Store.{StoreView, state_of}
use Rattle.cp_factindex.proofs.Effects.{callers_are}
use Rattle.cp_factindex.proofs.pred.Pred.is_parked.Goals as goal

pub returns-clause-parked : goal.returns-clause-parked
returns-clause-parked c = c.is_parked.ensures ∙ (sym (callers_are c.self.inside.contents.waiting.rows c.args.caller) ∙ (ap (λ (s : State). is_parked s c.args.caller) (sym c.self.invariant.state)
    ∙ ap (λ (v : StoreView). is_parked (state_of v) c.args.caller) c.self.view_is))
