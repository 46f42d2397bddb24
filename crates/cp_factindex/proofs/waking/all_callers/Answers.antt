use Rattle.std.proofs.Common.{◌∙◌, None, ap, refl}
use Rattle.cp_call.specs.Object.{callers_of}
use Rattle.cp_counted.specs.declared.key.Key.TheVariants.{Missing}
use Rattle.cp_keyed.specs.Index.{tried}
use Rattle.cp_factindex.specs.Waiting.{waiter_key}
use Rattle.cp_factindex.specs.Contents.{parked_in}
use Rattle.cp_factindex.proofs.Collecting.{none_tried}
use Rattle.cp_factindex.proofs.Wakened.{all_called, all_tried}
use Rattle.cp_factindex.proofs.waking.all_callers.Goals as goal

pub returns : goal.returns
returns c =
    let rows = c.args.waiting.now.rows in
    let none = none_tried waiter_key Missing Missing c.args.waiting.now.whole rows refl c.requires c.rows.cursor (rw c.in_default.is at c.in_ok-number.ensures.found) in
    all_called (callers_of (parked_in (tried waiter_key Missing None rows))) c.rows.callers (callers_of (parked_in (tried waiter_key Missing c.rows.cursor rows))) c.rows.invariant
    (ap (λ r. callers_of (parked_in r)) none)
    ∙ ap (λ r. callers_of (parked_in r)) (all_tried rows)
