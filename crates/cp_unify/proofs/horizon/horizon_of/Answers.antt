use Rattle.std.proofs.Common.{take, sym, ◌∙◌, ap, subst, nat_eq}
use Rattle.std.proofs.lemmas.Bool.{eqb-true}
use Rattle.cp_heap.specs.State.{State, AreBoundWithin}
use Rattle.cp_heap.proofs.FreshLaws.{uncrossed_before}
use Rattle.cp_unify.proofs.StepLaws.{not_false}
use Rattle.cp_unify.proofs.horizon.horizon_of.Goals as goal

pub returns : goal.returns
returns c =
    let h : State = c.args.heap.now in
    let m = c.args.mark in
    let now = c.mark-now.result in
    record {
      terms = c.requires.terms;
      written = c.requires.written_within;
      uncrossed = λ e.
          let same = eqb-true now.bindings m.bindings (not_false (nat_eq now.bindings m.bindings) e) in
          let whole = ap (λ k. take k h.trail) (sym same) ∙ ap (λ t. t.trail) c.mark-now.ensures.whole in
          uncrossed_before m.variables h.terms m.terms h.trail c.requires.terms c.requires.written_within (subst (AreBoundWithin m.variables m.terms) whole c.requires.bound_within);
    }
