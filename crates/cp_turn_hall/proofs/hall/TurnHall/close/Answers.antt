use Rattle.std.proofs.Common.{◌≡◌, List, [], ◌∷◌, map, sym, ◌∙◌, ap, subst, arith}
use Rattle.std.specs.Prelude.{All}
use mathlib.Core.List.{reverse}
use Rattle.std.proofs.lemmas.List.{reverse-append}
use Rattle.cp_call.specs.Sound.{own_entries}
use Rattle.cp_list.specs.Lists.{IsPrefix}
use Rattle.cp_turn.specs.Passes.{TurnstileView}
use Rattle.cp_hall.specs.declared.hall.HallRow.{HallRow}
use Rattle.cp_hall.specs.Hall.{HallObject, hall_object, objects_of, history_at, AreLegal}
use Rattle.cp_turn_hall.specs.Behind.{hall_at_start, IsSeenIn}
use Rattle.cp_turn_hall.proofs.TakingOut.{AreOut, IsMidway, starts, are_of, callers_are, goes_on, finished, objects_out, legal_out, grown_out, others_out, seen_out}
use Rattle.cp_turn_hall.proofs.hall.TurnHall.close.Goals as goal

pub loop-turnstile-init : goal.loop-turnstile-init
loop-turnstile-init c =
    subst (λ (front : List (TurnstileView HallRow)). IsMidway c.args.self c.args.passes front (reverse c.in_ok-rows.rows.items) c.into_vec-hall_passes.result.items) (sym c.self.view_is)
    (subst (λ (rows : List HallRow). IsMidway c.args.self c.args.passes c.args.self (reverse rows) c.into_vec-hall_passes.result.items) (sym c.in_ok-rows.ensures.items)
    (subst (IsMidway c.args.self c.args.passes c.args.self []) (sym c.into_vec-hall_passes.ensures.items) (starts c.args.self c.args.passes c.requires.of_hall)))

pub take_out-requires-clause-last : goal.take_out-requires-clause-last
take_out-requires-clause-last c = (
  c.pop.new.self.items,
  are_of c.args.self c.args.passes c.loop-turnstile.turnstiles.items (reverse c.loop-turnstile.rows.items) c.loop-turnstile.hall_passes.items c.requires.of_hall c.loop-turnstile.invariant
      c.pop.new.self.items c.in-Some.turnstile c.in-Some.ensures.items,
)

pub take_out-requires-clause-all : goal.take_out-requires-clause-all
take_out-requires-clause-all c =
    callers_are c.args.self c.args.passes c.loop-turnstile.turnstiles.items (reverse c.loop-turnstile.rows.items) c.loop-turnstile.hall_passes.items c.requires.of_hall c.loop-turnstile.invariant
    c.pop.new.self.items c.in-Some.turnstile c.in-Some.ensures.items c.requires.all

pub loop-turnstile-preserved : goal.loop-turnstile-preserved
loop-turnstile-preserved c =
    subst (λ (rows : List HallRow). IsMidway c.args.self c.args.passes c.pop.new.self.items rows c.take_out.new.hall_passes.items)
    (sym (ap reverse c.in_ok-push.ensures.items ∙ reverse-append c.loop-turnstile.rows.items (c.in_ok-take_out.field-0 ∷ [])))
    (goes_on c.args.self c.args.passes c.loop-turnstile.turnstiles.items (reverse c.loop-turnstile.rows.items) c.loop-turnstile.hall_passes.items c.requires.of_hall c.loop-turnstile.invariant
    c.pop.new.self.items c.in-Some.turnstile c.in-Some.ensures.items c.in_ok-take_out.field-0 c.take_out.new.hall_passes.items c.in_ok-take_out.ensures.row c.in_ok-take_out.ensures.rest)

pub from_rows-requires : goal.from_rows-requires
from_rows-requires c =
    subst (λ (rows : List HallRow). AreLegal (map hall_object rows)) (sym c.reverse.ensures.items) (legal_out c.args.passes 0 c.args.self (reverse c.loop-turnstile.rows.items)
    (finished c.args.self c.args.passes c.loop-turnstile.turnstiles.items (reverse c.loop-turnstile.rows.items) c.loop-turnstile.hall_passes.items c.loop-turnstile.invariant
    (omega (arith, c.loop-turnstile.turnstiles.ok.0, c.in_default.ensures.cases))))

are_out : (c : goal.After-drop-turnstiles-2) → AreOut 0 c.args.self (reverse c.loop-turnstile.rows.items) c.args.passes
are_out c =
    finished c.args.self c.args.passes c.loop-turnstile.turnstiles.items (reverse c.loop-turnstile.rows.items) c.loop-turnstile.hall_passes.items c.loop-turnstile.invariant
    (omega (arith, c.loop-turnstile.turnstiles.ok.0, c.in_default.ensures.cases))

hall_is : (c : goal.After-drop-turnstiles-2) → c.from_rows.result ≡ map hall_object (reverse c.loop-turnstile.rows.items)
hall_is c = c.from_rows.ensures ∙ ap (map hall_object) c.reverse.ensures.items

pub returns-clause-objects : goal.returns-clause-objects
returns-clause-objects c = ap objects_of (hall_is c) ∙ objects_out c.args.passes 0 c.args.self (reverse c.loop-turnstile.rows.items) (are_out c)

pub returns-clause-grown : goal.returns-clause-grown
returns-clause-grown c p =
    subst (λ (hall : List HallObject). IsPrefix (history_at (hall_at_start c.args.self) p) (history_at hall p)) (sym (hall_is c))
    (grown_out c.args.passes 0 c.args.self (reverse c.loop-turnstile.rows.items) (are_out c) p)

pub returns-clause-seen : goal.returns-clause-seen
returns-clause-seen c =
    subst (λ (hall : List HallObject). All (IsSeenIn hall c.args.self) c.args.passes) (sym (hall_is c))
    (seen_out c.args.passes c.args.self (reverse c.loop-turnstile.rows.items) (are_out c) c.requires.of_hall)

pub returns-clause-others : goal.returns-clause-others
returns-clause-others c n p nobody =
    subst (λ (hall : List HallObject). own_entries n (history_at hall p) ≡ own_entries n (history_at (hall_at_start c.args.self) p)) (sym (hall_is c))
    (others_out c.args.passes 0 c.args.self (reverse c.loop-turnstile.rows.items) (are_out c) n p nobody)
