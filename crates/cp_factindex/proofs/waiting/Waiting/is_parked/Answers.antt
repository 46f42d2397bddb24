use Rattle.std.proofs.Common.{◌∙◌, ap}
use Rattle.std.specs.Prelude.{is_some}
use Rattle.cp_keyed.specs.Index.{IndexView}
use Rattle.cp_factindex.specs.declared.waiter.Waiter.{Waiter}
use Rattle.cp_factindex.specs.Waiting.{is_caller_in}
use Rattle.cp_factindex.proofs.Numbering.{parked_is}
use Rattle.cp_factindex.proofs.waiting.Waiting.is_parked.Goals as goal

pub returns : goal.returns
returns c = c.is_some.ensures ∙ (ap is_some c.number_of.ensures ∙ (parked_is c.self.inside.numbers c.args.caller c.self.inside.rows.rows c.self.invariant.numbered (c.self.invariant.parked c.args.caller)
    ∙ ap (λ (v : IndexView Waiter). is_caller_in v.rows c.args.caller) c.self.view_is))
