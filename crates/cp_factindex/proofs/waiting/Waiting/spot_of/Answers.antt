use Rattle.std.proofs.Common.{◌∙◌, ap, sym, subst, Some, to_z, of_z, w64, rules}
use Rattle.std.proofs.lemmas.Int.{to_z-of_z}
use Rattle.cp_keyed.specs.Index.{IndexView}
use Rattle.cp_factindex.specs.declared.waiter.Waiter.{Waiter}
use Rattle.cp_factindex.specs.Waiting.{is_caller_in, IsSpotOf}
use Rattle.cp_factindex.proofs.Parking.{none_in, never_none, spot_is}
use Rattle.cp_factindex.proofs.waiting.Waiting.spot_of.Goals as goal

pub returns-in_default : goal.returns-in_default
returns-in_default c = ap (λ (v : IndexView Waiter). is_caller_in v.rows c.args.caller) (sym c.self.view_is) ∙ none_in c.self.inside c.self.invariant c.args.caller (sym c.number_of.ensures ∙ c.in_default.is)

pub unreachable-requires : goal.unreachable-requires
unreachable-requires c = never_none c.self.inside c.self.invariant c.args.caller (to_z w64 (of_z w64 c.in-Some.number))
    (sym c.number_of.ensures ∙ (c.in-Some.is ∙ ap Some (sym (to_z-of_z w64 c.in-Some.number (search rules))))) (sym (rw c.in-None.is at c.get.ensures))

pub returns : goal.returns
returns c =
    let q = to_z w64 (of_z w64 c.in-Some.number) in
    subst (λ (v : IndexView Waiter). IsSpotOf v.rows c.args.caller (Some (c.in_ok-key-in-Some-get.field-0, q))) c.self.view_is
    (spot_is c.self.inside c.self.invariant c.args.caller q c.in-Some-get.waiter.now (c.in_ok-key-in-Some-get.field-0, q)
    (sym c.number_of.ensures ∙ (c.in-Some.is ∙ ap Some (sym (to_z-of_z w64 c.in-Some.number (search rules))))) (sym (rw c.in-Some-get.is at c.get.ensures)) (ap (λ k. (k, q)) c.in_ok-key-in-Some-get.ensures))
