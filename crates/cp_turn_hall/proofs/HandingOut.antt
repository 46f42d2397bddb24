-- The passes of a hall as they are made.
use Rattle.std.proofs.Common.{◌≡◌, ℕ, zero, suc, ◌+◌, ◌<◌, List, [], ◌∷◌, ◌++◌, append_assoc, append-nil, length, refl, sym, ◌∙◌, ap, subst, arith}
use Rattle.std.specs.Prelude.{map, All, slice_index_or}
use Rattle.std.proofs.lemmas.List.{map_push}
use Rattle.cp_call.specs.declared.call.Entry.{Entry}
use Rattle.cp_call.specs.History.{Legal}
use Rattle.cp_turn.specs.Passes.{PassView, TurnstileView, fresh, AreFresh}
use Rattle.cp_hall.specs.declared.hall.HallRow.{HallRow}
use Rattle.cp_hall.specs.Hall.{HallObject, hall_object, history_at, AreLegal}
use Rattle.cp_turn_hall.specs.declared.pass.ObjectPass.{ObjectPass}
use Rattle.cp_turn_hall.specs.Behind.{HallPassView, hall_at_start, Serves, IsPassOf, AreNew, at_place, seen_at}

abbrev Turnstiles : Type 0
Turnstiles = List (TurnstileView HallRow)

-- a new pass of an object
abbrev new_place : ℕ → TurnstileView HallRow → ObjectPass
new_place n t = record { pass = fresh t n; looked = 0 }

new_serves : (n : ℕ) (ts : Turnstiles) → Serves n ts (map (new_place n) ts)
new_serves n [] = tt
new_serves n (t ∷ ts) = (record { outside = ((refl, refl), refl); number = refl; mine = refl }, new_serves n ts)

new_seen : (n : ℕ) (ts : Turnstiles) (p : ℕ) → at_place (λ x. x.pass.seen) [] (map (new_place n) ts) p ≡ []
new_seen n [] p = refl
new_seen n (t ∷ ts) zero = refl
new_seen n (t ∷ ts) (suc p) = new_seen n ts p

-- one object more
pub new_push : (ts : Turnstiles) (t : TurnstileView HallRow) (olds news : List HallPassView) (passes : List (PassView Entry HallRow)) → AreNew ts olds → AreFresh t passes
    → length olds ≡ length passes → length news ≡ length olds
    → ((k : ℕ) (d : HallPassView) (e : PassView Entry HallRow) → k < length passes
    → slice_index_or news k d ≡ record { number = (slice_index_or olds k d).number; places = (slice_index_or olds k d).places ++ record { pass = slice_index_or passes k e; looked = 0 } ∷ [] })
    → AreNew (ts ++ t ∷ []) news
new_push ts t olds news passes are each lo ln handed k d h =
    let n : ℕ = k + 1 in
    let none : PassView Entry HallRow = fresh t 0 in
    let f : List ObjectPass → HallPassView = λ (ps : List ObjectPass). record { number = n; places = ps } in
    handed k d none (omega arith)
    ∙ ap (λ (o : HallPassView). record { number = o.number; places = o.places ++ record { pass = slice_index_or passes k none; looked = 0 } ∷ [] }) (are k d (omega arith))
    ∙ ap (λ (x : PassView Entry HallRow). f (map (new_place n) ts ++ record { pass = x; looked = 0 } ∷ [])) (each.1 k none (omega (arith, each.0)))
    ∙ ap f (sym (map_push (new_place n) ts t))

pub none_new : (ds : List HallPassView) → ((k : ℕ) (d : HallPassView) → k < length ds → slice_index_or ds k d ≡ record { number = k + 1; places = [] }) → AreNew [] ds
none_new ds each = each

pub new_are_of : (ts : Turnstiles) (ds : List HallPassView) → AreNew ts ds → All (IsPassOf ts) ds
new_are_of ts ds are k d h = subst (IsPassOf ts) (sym (are k d h)) (new_serves (k + 1) ts)

pub new_have_seen : (hall : List HallObject) (ts : Turnstiles) (ds : List HallPassView) → AreNew ts ds → hall_at_start ts ≡ hall → All (λ pass. (p : ℕ) → seen_at ts pass.places p ≡ history_at hall p) ds
new_have_seen hall ts ds are is k d h p =
    ap (λ (x : HallPassView). seen_at ts x.places p) (are k d h)
    ∙ ap (λ (l : List Entry). history_at (hall_at_start ts) p ++ l) (new_seen (k + 1) ts p) ∙ append-nil (history_at (hall_at_start ts) p) ∙ ap (λ (o : List HallObject). history_at o p) is

-- one object more is behind its turnstile
pub start_push : (ts : Turnstiles) (t : TurnstileView HallRow) (row : HallRow) (rest : List HallRow) (hall : List HallObject) → hall_at_start ts ++ map hall_object (row ∷ rest) ≡ hall → t.base ≡ row
    → hall_at_start (ts ++ t ∷ []) ++ map hall_object rest ≡ hall
start_push ts t row rest hall is base =
    ap (λ (l : List HallObject). l ++ map hall_object rest) (map_push (λ (t : TurnstileView HallRow). hall_object t.base) ts t)
    ∙ append_assoc (hall_at_start ts) (hall_object t.base ∷ []) (map hall_object rest)
    ∙ ap (λ (r : HallRow). hall_at_start ts ++ (hall_object r ∷ map hall_object rest)) base ∙ is

pub legal_rest : (row : HallRow) (rest rows : List HallRow) → rows ≡ row ∷ rest → AreLegal (map hall_object rows) → Legal row.pred.kind row.pred.opening row.pred.history × AreLegal (map hall_object rest)
legal_rest row rest rows e h = subst (λ (l : List HallRow). AreLegal (map hall_object l)) e h
