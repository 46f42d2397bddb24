-- The objects of a hall at the end.
use Rattle.std.proofs.Common.{◌≡◌, ℕ, zero, suc, List, [], ◌∷◌, ◌++◌, refl, sym, ◌∙◌, ap, subst, append_assoc}
use Rattle.std.specs.Prelude.{map, slice_set}
use Rattle.std.proofs.lemmas.List.{append-nil}
use Rattle.cp_call.specs.declared.call.Entry.{Entry}
use Rattle.cp_call.specs.declared.outcome.PredEnd.{PredEnd}
use Rattle.cp_call.specs.Sound.{IsKept, AreKept}
use Rattle.cp_call.specs.History.{Legal}
use Rattle.cp_call.proofs.Calmness.{Calm-state_after}
use Rattle.cp_hall.specs.declared.hall.HallRow.{HallRow}
use Rattle.cp_hall.specs.Hall.{HallObject, hall_object, objects_of, histories_of, ended_histories, state_now, EndsWith, AreLegal, CanEnd}

pub none_ended : (hall : List HallObject) → EndsWith hall [] hall
none_ended hall more k h = (k, h)

pub one_ended : (hall : List HallObject) (ends : List PredEnd) (o : HallObject) (rest : List HallObject) (end : PredEnd)
    → EndsWith hall ends (o ∷ rest) → IsKept o.object end → end.history ≡ o.history → EndsWith hall (ends ++ end ∷ []) rest
one_ended hall ends o rest end w k h more ks hs =
    subst (λ (all : List PredEnd). AreKept (objects_of hall) all × (ended_histories all ≡ histories_of hall)) (sym (append_assoc ends (end ∷ []) more))
    (w (end ∷ more) (k, ks) (ap (λ (e : List Entry). e ∷ ended_histories more) h ∙ ap (λ hs. o.history ∷ hs) hs))

pub all_ended : (hall : List HallObject) (ends : List PredEnd) → EndsWith hall ends [] → AreKept (objects_of hall) ends × (ended_histories ends ≡ histories_of hall)
all_ended hall ends w = subst (λ (all : List PredEnd). AreKept (objects_of hall) all × (ended_histories all ≡ histories_of hall)) (append-nil ends) (w [] tt refl)

abbrev end_now : HallObject → PredEnd
end_now o = record { name = o.object.name; opening = o.object.opening; history = o.history; facts = (state_now o).facts; is_open = (state_now o).is_open; parked = (state_now o).parked }

one_kept : (o : HallObject) → Legal o.object.kind o.object.opening o.history → IsKept o.object (end_now o)
one_kept o l = record { name = refl; opening = refl; legal = l; facts = refl; is_open = refl; parked = refl; calm = Calm-state_after o.object.kind o.object.opening o.history }

-- a hall with legal histories can end
pub can_end : (hall : List HallObject) → AreLegal hall → CanEnd hall
can_end [] l = record { ends = []; kept = tt; histories = refl }
can_end (o ∷ hall) l =
    let rest : CanEnd hall = can_end hall l.1 in
    record { ends = end_now o ∷ rest.ends; kept = (one_kept o l.0, rest.kept); histories = ap (λ hs. o.history ∷ hs) rest.histories }

-- histories stay legal as objects are added
pub legal_push : (rows : List HallRow) (r : HallRow) → AreLegal (map hall_object rows) → r.pred.history ≡ [] → AreLegal (map hall_object (rows ++ r ∷ []))
legal_push [] r l e = (subst (λ h. Legal r.pred.kind r.pred.opening h) (sym e) tt, tt)
legal_push (x ∷ rows) r l e = (l.0, legal_push rows r l.1 e)

-- and as one is asked
pub legal_set : (rows : List HallRow) (at : ℕ) (r : HallRow) → AreLegal (map hall_object rows) → Legal r.pred.kind r.pred.opening r.pred.history → AreLegal (map hall_object (slice_set rows at r))
legal_set [] at r l h = tt
legal_set (x ∷ rows) zero r l h = (h, l.1)
legal_set (x ∷ rows) (suc at) r l h = (l.0, legal_set rows at r l.1 h)
