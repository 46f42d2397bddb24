-- A turn at one object, told of the whole hall.
use Rattle.std.proofs.Common.{◌≡◌, ◌≢◌, ℕ, ◌+◌, ◌<◌, List, [], ◌++◌, append_assoc, length, sym, ◌∙◌, ap, subst, Some, None}
use Rattle.std.proofs.lemmas.List.Elements.{filter-append}
use Rattle.std.proofs.lemmas.Option.{slice_get_within}
use Rattle.std.specs.Prelude.{◌==◌, ◌^◌, ◌-◌, min, slice_get, slice_set}
use Rattle.cp_call.specs.declared.call.Call.{Call}
use Rattle.cp_call.specs.declared.call.Entry.{Entry}
use Rattle.cp_call.specs.declared.asked.Asked.{Asked}
use Rattle.cp_call.specs.Sound.{own_entries}
use Rattle.cp_call.specs.History.{Legal}
use Rattle.cp_call.specs.Asker.{entry_added, looked_after, IsFullBy, IsStill}
use Rattle.cp_list.specs.Lists.{IsPrefix}
use Rattle.cp_turn.specs.Passes.{PassView, TurnstileView}
use Rattle.cp_hall.specs.declared.hall.HallRow.{HallRow}
use Rattle.cp_hall.specs.Hall.{hall_object, with_entries, IsAnswered}
use Rattle.cp_turn_hall.specs.declared.pass.ObjectPass.{ObjectPass}
use Rattle.cp_turn_hall.specs.Behind.{at_place, seen_at}
use Rattle.cp_turn_hall.specs.Grown.{GrownView}
use Rattle.cp_turn_hall.specs.Turn.{IsTurn, SamePlace, IsPlaceTurn}
use Rattle.cp_turn_hall.proofs.Places.{place_is, place_here, place_there, first_history, first_object}

pub own_append : (n : ℕ) (xs ys : List Entry) → own_entries n (xs ++ ys) ≡ own_entries n xs ++ own_entries n ys
own_append n xs ys = filter-append (λ (e : Entry). e.caller == n) xs ys

-- lists that begin one another do so behind the same entries
pub prefix_behind : (earlier xs ys : List Entry) → IsPrefix xs ys → IsPrefix (earlier ++ xs) (earlier ++ ys)
prefix_behind earlier xs ys p = (p.0, ap (λ (l : List Entry). earlier ++ l) p.1 ∙ sym (append_assoc earlier xs p.0))

-- what a pass has seen of an object
pub seen_is : (ts : List (TurnstileView HallRow)) (ps : List ObjectPass) (at : ℕ) (t : TurnstileView HallRow) (x : ObjectPass) → slice_get ts at ≡ Some t → slice_get ps at ≡ Some x
    → seen_at ts ps at ≡ t.base.pred.history ++ x.pass.seen
seen_is ts ps at t x e f = ap (λ (l : List Entry). l ++ at_place (λ x. x.pass.seen) [] ps at) (first_history ts at t e) ∙ ap (λ (l : List Entry). t.base.pred.history ++ l) (place_is (λ x. x.pass.seen) [] ps at x f)

pub seen_here : (ts : List (TurnstileView HallRow)) (ps : List ObjectPass) (at : ℕ) (t : TurnstileView HallRow) (y : ObjectPass) → slice_get ts at ≡ Some t → at < length ps
    → seen_at ts (slice_set ps at y) at ≡ t.base.pred.history ++ y.pass.seen
seen_here ts ps at t y e h = ap (λ (l : List Entry). l ++ at_place (λ x. x.pass.seen) [] (slice_set ps at y) at) (first_history ts at t e) ∙ ap (λ (l : List Entry). t.base.pred.history ++ l) (place_here (λ x. x.pass.seen) [] ps at y h)

pub turn_is : (ts : List (TurnstileView HallRow)) (n : ℕ) (ps : List ObjectPass) (at : ℕ) (c : Call) (a : Asked) (t : TurnstileView HallRow) (x y : ObjectPass)
    → slice_get ts at ≡ Some t → slice_get ps at ≡ Some x → x.pass.number ≡ n → IsPlaceTurn t.base c a x y
    → IsTurn at c a (record { turnstiles = ts; number = n; places = ps }) (record { turnstiles = ts; number = n; places = slice_set ps at y })
turn_is ts n ps at c a t x y e f num turn =
    let h : List Entry = t.base.pred.history in
    let within : at < length ps = slice_get_within ps at x f in
    let before : seen_at ts ps at ≡ h ++ x.pass.seen = seen_is ts ps at t x e f in
    let after : seen_at ts (slice_set ps at y) at ≡ h ++ y.pass.seen = seen_here ts ps at t y e within in
    record {
      found = h ++ turn.found;
      begins = subst (λ (l : List Entry). IsPrefix l (h ++ turn.found)) (sym before) (prefix_behind h x.pass.seen turn.found turn.begins);
      own = own_append n h turn.found
          ∙ ap (λ (l : List Entry). own_entries n h ++ l) (subst (λ (k : ℕ). own_entries k turn.found ≡ own_entries k x.pass.seen) num turn.own)
          ∙ sym (own_append n h x.pass.seen) ∙ ap (own_entries n) (sym before);
      answer = rw (first_object ts at t e) (subst (λ (k : ℕ). IsAnswered k c a (record { object = (hall_object t.base).object; history = h ++ turn.found })) num turn.answer);
      seen = after ∙ ap (λ (l : List Entry). h ++ l) turn.seen ∙ sym (append_assoc h turn.found (entry_added x.pass.number c a)) ∙ ap (λ (k : ℕ). (h ++ turn.found) ++ entry_added k c a) num;
      legal = rw (first_object ts at t e) (subst (λ (l : List Entry). Legal t.base.pred.kind t.base.pred.opening l) (sym after) turn.legal);
      turns = place_here (λ x. x.pass.turns) 0 ps at y within ∙ turn.turns ∙ ap (λ (k : ℕ). min (k + 1) (2 ^ 64 - 1)) (sym (place_is (λ x. x.pass.turns) 0 ps at x f));
    }

pub others_stay : (ps : List ObjectPass) (at : ℕ) (y : ObjectPass) (q : ℕ) → q ≢ at → SamePlace q ps (slice_set ps at y)
others_stay ps at y q d = record {
  seen = place_there (λ x. x.pass.seen) [] ps at q y d;
  looked = place_there (λ x. x.looked) 0 ps at q y d;
  turns = place_there (λ x. x.pass.turns) 0 ps at q y d;
}

-- A turn in which the pass entered, the object was asked, and the pass left.
pub place_turn : (start : HallRow) (c : Call) (a : Asked) (x : ObjectPass) (entered left : PassView Entry HallRow) (value after : GrownView) (caller looked : ℕ)
    → caller ≡ x.pass.number → value.start ≡ start
    → entered ≡ record x.pass { turns = min (x.pass.turns + 1) (2 ^ 64 - 1); found = Some value.entries }
    → IsPrefix x.pass.seen value.entries → own_entries x.pass.number value.entries ≡ x.pass.mine → x.pass.mine ≡ own_entries x.pass.number x.pass.seen
    → after ≡ record { start = value.start; entries = value.entries ++ entry_added caller c a }
    → left ≡ record entered { mine = own_entries entered.number after.entries; seen = after.entries; found = None }
    → IsAnswered caller c a (with_entries value.entries (hall_object value.start))
    → IsFullBy (Some (hall_object value.start).object) (value.start.pred.history ++ after.entries) caller c a
    → IsStill (Some (hall_object value.start).object) (value.start.pred.history ++ after.entries) caller c a
    → Legal value.start.pred.kind value.start.pred.opening (value.start.pred.history ++ after.entries)
    → looked ≡ looked_after (2 ^ 64 - 1) a x.looked
    → IsPlaceTurn start c a x (record { pass = left; looked = looked })
place_turn start c a x entered left value after caller looked who base enters begins mine known grown leaves answer full still legal looks =
    let n : ℕ = x.pass.number in
    let seen : left.seen ≡ after.entries = ap (λ (p : PassView Entry HallRow). p.seen) leaves in
    record {
      number = ap (λ (p : PassView Entry HallRow). p.number) leaves ∙ ap (λ (p : PassView Entry HallRow). p.number) enters;
      found = value.entries;
      begins = begins;
      own = mine ∙ known;
      answer = subst (λ (s : HallRow). IsAnswered n c a (with_entries value.entries (hall_object s))) base (subst (λ (k : ℕ). IsAnswered k c a (with_entries value.entries (hall_object value.start))) who answer);
      seen = seen ∙ ap (λ (g : GrownView). g.entries) grown ∙ ap (λ (k : ℕ). value.entries ++ entry_added k c a) who;
      legal = subst (λ (l : List Entry). Legal start.pred.kind start.pred.opening (start.pred.history ++ l)) (sym seen)
          (subst (λ (s : HallRow). Legal s.pred.kind s.pred.opening (s.pred.history ++ after.entries)) base legal);
      full = subst (λ (l : List Entry). IsFullBy (Some (hall_object start).object) (start.pred.history ++ l) n c a) (sym seen)
          (subst (λ (s : HallRow). IsFullBy (Some (hall_object s).object) (s.pred.history ++ after.entries) n c a) base
          (subst (λ (k : ℕ). IsFullBy (Some (hall_object value.start).object) (value.start.pred.history ++ after.entries) k c a) who full));
      still = subst (λ (l : List Entry). IsStill (Some (hall_object start).object) (start.pred.history ++ l) n c a) (sym seen)
          (subst (λ (s : HallRow). IsStill (Some (hall_object s).object) (s.pred.history ++ after.entries) n c a) base
          (subst (λ (k : ℕ). IsStill (Some (hall_object value.start).object) (value.start.pred.history ++ after.entries) k c a) who still));
      turns = ap (λ (p : PassView Entry HallRow). p.turns) leaves ∙ ap (λ (p : PassView Entry HallRow). p.turns) enters;
      looked = looks;
    }
