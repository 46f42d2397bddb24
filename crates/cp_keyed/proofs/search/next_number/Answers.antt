use Rattle.std.proofs.lemmas.Result.{IfOk-weaker}
use Rattle.cp_keyed.proofs.Rows.{below_from}
use Rattle.cp_keyed.specs.Index.{AreBelow}
use Rattle.std.specs.Prelude.{◌≡◌, true, int_lt}
use Rattle.cp_keyed.proofs.search.next_number.Goals as goal

pub returns-in-Some : goal.returns-in-Some
returns-in-Some g c = IfOk-weaker c.number_behind.result (λ number. int_lt c.in-Some.last.now number ≡ true) (λ number. AreBelow number c.args.rows.now.entries)
    (λ number h. below_from c.in-Some.last.now number c.args.rows.now.entries h c.in-Some.ensures.all_up_to) c.number_behind.ensures
