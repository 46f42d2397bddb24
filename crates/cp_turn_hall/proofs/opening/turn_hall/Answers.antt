use Rattle.std.proofs.Common.{◌≡◌, List, [], ◌++◌, map, sym, ◌∙◌, subst, append-nil}
use Rattle.std.specs.Prelude.{All}
use Rattle.std.proofs.lemmas.List.{nil_from_length}
use Rattle.std.proofs.lemmas.List.Elements.{All-push}
use Rattle.cp_turn.specs.Passes.{TurnstileView}
use Rattle.cp_hall.specs.declared.hall.HallRow.{HallRow}
use Rattle.cp_hall.specs.Hall.{hall_object}
use Rattle.cp_turn_hall.specs.Behind.{hall_at_start}
use Rattle.cp_turn_hall.proofs.HandingOut.{start_push, legal_rest, new_are_of, new_have_seen}
use Rattle.cp_turn_hall.proofs.opening.turn_hall.Goals as goal
use Rattle.cp_turn_hall.proofs.opening.turn_hall.Goals.{After-from_vec}

pub loop-row-preserved : goal.loop-row-preserved
loop-row-preserved c =
    let added = c.in_ok-add_object.ensures.turnstiles in
    let callers = λ (t : TurnstileView HallRow). t.callers ≡ c.args.callers in
    record {
      hall = subst (λ (l : List (TurnstileView HallRow)). hall_at_start l ++ map hall_object c.next.new.self.rest.items ≡ c.args.hall) (sym added.1)
          (start_push c.loop-row.turnstiles.items added.0 c.in-Some.row c.next.new.self.rest.items c.args.hall
          (subst (λ (rows : List HallRow). hall_at_start c.loop-row.turnstiles.items ++ map hall_object rows ≡ c.args.hall) c.in-Some.ensures.steps.0 c.loop-row.invariant.hall) added.2);
      legal = (legal_rest c.in-Some.row c.next.new.self.rest.items c.loop-row.row-iterator.rest.items c.in-Some.ensures.steps.0 c.loop-row.invariant.legal).1;
      callers = subst (All callers) (sym added.1) (All-push callers c.loop-row.turnstiles.items added.0 c.loop-row.invariant.callers added.3);
      long = c.in_ok-add_object.ensures.passes.0;
      new = c.in_ok-add_object.ensures.passes.1;
    }

whole : (c : After-from_vec) → hall_at_start c.loop-row.turnstiles.items ≡ c.args.hall
whole c =
    let none : c.loop-row.row-iterator.rest.items ≡ [] = nil_from_length c.loop-row.row-iterator.rest.items (sym c.loop-row.row-iterator.rest.ok.0 ∙ c.in-None.ensures.steps.0) in
    sym (append-nil (hall_at_start c.loop-row.turnstiles.items))
    ∙ subst (λ (rows : List HallRow). hall_at_start c.loop-row.turnstiles.items ++ map hall_object rows ≡ c.args.hall) none c.loop-row.invariant.hall

pub returns-clause-of_hall : goal.returns-clause-of_hall
returns-clause-of_hall c = rw c.from_vec.ensures (new_are_of c.loop-row.turnstiles.items c.loop-row.hall_passes.items c.loop-row.invariant.new)

pub returns-clause-seen : goal.returns-clause-seen
returns-clause-seen c = rw c.from_vec.ensures (new_have_seen c.args.hall c.loop-row.turnstiles.items c.loop-row.hall_passes.items c.loop-row.invariant.new (whole c))
