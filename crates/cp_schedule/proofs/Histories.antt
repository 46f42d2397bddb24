-- A hall of which the objects have more entries, as the objects of a record.
use Rattle.std.proofs.Common.{◌≡◌, ◌≢◌, ℕ, zero, suc, ◌<◌, List, [], ◌∷◌, ◌++◌, length, refl, sym, ◌∙◌, ap, subst, Some, append_assoc, arith}
use Rattle.std.specs.Prelude.{map, slice_get, slice_set}
use Rattle.cp_term.specs.declared.cell.Cell.{Cell}
use Rattle.cp_call.specs.declared.call.ObjectKind.{ObjectKind}
use Rattle.cp_call.specs.declared.call.Entry.{Entry}
use Rattle.cp_call.specs.declared.outcome.PredEnd.{PredEnd}
use Rattle.cp_call.specs.Object.{State}
use Rattle.cp_call.specs.History.{MayFollow, Legal, LegalAfter}
use Rattle.cp_call.specs.Progress.{with_entry}
use Rattle.cp_call.specs.Sound.{Object, IsKept, AreKept}
use Rattle.cp_call.specs.Sound as sound
use Rattle.cp_call.proofs.Growing.{state_after-push}
use Rattle.cp_hall.specs.Hall.{HallObject, objects_of, histories_of, ended_histories, history_at, with_entries, with_more, AreLegal}
use Rattle.cp_schedule.specs.Record.{pred_now}
use Rattle.cp_schedule.proofs.Lists.{append_nil}

same_object : (a b : HallObject) → a.object ≡ b.object → a.history ≡ b.history → a ≡ b
same_object a b p q =
    let first : a ≡ record { object = b.object; history = a.history } = ap (λ x. record { object = x; history = a.history }) p in
    let second : record { object = b.object; history = a.history } ≡ b = ap (λ h. record { object = b.object; history = h }) q in
    first ∙ second

-- a hall is what its objects began as, and their histories
pub same_hall : (hall now : List HallObject) → objects_of now ≡ objects_of hall → ((q : ℕ) → history_at now q ≡ history_at hall q) → now ≡ hall
same_hall [] [] e h = refl
same_hall [] (o ∷ now) e h = let w : ⊥ = cc in absurd w
same_hall (x ∷ hall) [] e h = let w : ⊥ = cc in absurd w
same_hall (x ∷ hall) (o ∷ now) e h =
    let head : o.object ≡ x.object = cc in
    let rest : objects_of now ≡ objects_of hall = cc in
    ap (λ y. y ∷ now) (same_object o x head (h 0)) ∙ ap (λ r. x ∷ r) (same_hall hall now rest (λ q. h (suc q)))

-- one of them has more entries
pub more_hall : (hall now : List HallObject) (p : ℕ) (more : List Entry) → objects_of now ≡ objects_of hall → history_at now p ≡ history_at hall p ++ more → ((q : ℕ) → p ≢ q → history_at now q ≡ history_at hall q) → p < length (objects_of hall)
    → now ≡ with_more more hall p
more_hall [] now p more e here there inside = absurd (let z : ⊥ = omega arith in z)
more_hall (x ∷ hall) [] p more e here there inside = let w : ⊥ = cc in absurd w
more_hall (x ∷ hall) (o ∷ now) zero more e here there inside =
    let head : o.object ≡ x.object = cc in
    let rest : objects_of now ≡ objects_of hall = cc in
    ap (λ y. y ∷ now) (same_object o (with_entries more x) head here) ∙ ap (λ r. with_entries more x ∷ r) (same_hall hall now rest (λ q. there (suc q) (λ z. let w : ⊥ = omega (arith, z) in w)))
more_hall (x ∷ hall) (o ∷ now) (suc p) more e here there inside =
    let head : o.object ≡ x.object = cc in
    let rest : objects_of now ≡ objects_of hall = cc in
    ap (λ y. y ∷ now) (same_object o x head (there 0 (λ z. let w : ⊥ = omega (arith, z) in w)))
    ∙ ap (λ r. x ∷ r) (more_hall hall now p more rest here (λ q d. there (suc q) (λ z. d (omega (arith, z)))) (omega arith))

pred_more : (o : HallObject) (e : Entry) → pred_now (with_entries (e ∷ []) o) ≡ with_entry o.object (pred_now o) e
pred_more o e = ap (λ (s : State). record {
  name = o.object.name;
  opening = o.object.opening;
  history = o.history ++ e ∷ [];
  facts = s.facts;
  is_open = s.is_open;
  parked = s.parked;
}) (state_after-push o.object.kind o.object.opening o.history e)

-- the objects of the record where one has an entry more
pub preds_more : (hall : List HallObject) (p : ℕ) (o : HallObject) (e : Entry) → slice_get hall p ≡ Some o
    → map pred_now (with_more (e ∷ []) hall p) ≡ slice_set (map pred_now hall) p (with_entry o.object (pred_now o) e)
preds_more [] p o e h = refl
preds_more (x ∷ hall) zero o e h = let z : x ≡ o = cc in ap (λ y. y ∷ map pred_now hall) (pred_more x e ∙ ap (λ y. with_entry y.object (pred_now y) e) z)
preds_more (x ∷ hall) (suc p) o e h = ap (λ r. pred_now x ∷ r) (preds_more hall p o e h)

-- the history of an object in the record is that of the hall
pub history_now : (hall : List HallObject) (q : ℕ) → sound.history_at (map pred_now hall) q ≡ history_at hall q
history_now [] zero = refl
history_now [] (suc q) = refl
history_now (o ∷ hall) zero = refl
history_now (o ∷ hall) (suc q) = history_now hall q

-- what may follow a legal history
legal_last : (k : ObjectKind) (opening : List (List Cell)) (before xs : List Entry) (e : Entry) → LegalAfter k opening before (xs ++ e ∷ []) → MayFollow k opening (before ++ xs) e
legal_last k opening before [] e l = subst (λ h. MayFollow k opening h e) (sym (append_nil before)) l.0
legal_last k opening before (x ∷ xs) e l = subst (λ h. MayFollow k opening h e) (append_assoc before (x ∷ []) xs) (legal_last k opening (before ++ x ∷ []) xs e l.1)

-- an entry that was added to a legal hall
pub follows_there : (hall : List HallObject) (p : ℕ) (o : HallObject) (e : Entry) → slice_get hall p ≡ Some o → AreLegal (with_more (e ∷ []) hall p) → MayFollow o.object.kind o.object.opening o.history e
follows_there [] p o e h l = let w : ⊥ = cc in absurd w
follows_there (x ∷ hall) zero o e h l =
    let z : x ≡ o = cc in subst (λ (y : HallObject). MayFollow y.object.kind y.object.opening y.history e) z (legal_last x.object.kind x.object.opening [] x.history e l.0)
follows_there (x ∷ hall) (suc p) o e h l = follows_there hall p o e h l.1

-- the objects as a run ends with them are those of the record
pub ended_now : (hall : List HallObject) (ends : List PredEnd) → AreKept (objects_of hall) ends → ended_histories ends ≡ histories_of hall → ends ≡ map pred_now hall
ended_now [] [] k e = refl
ended_now [] (x ∷ ends) k e = absurd k
ended_now (o ∷ hall) [] k e = absurd k
ended_now (o ∷ hall) (x ∷ ends) k e =
    let head : x.history ≡ o.history = cc in
    let rest : ended_histories ends ≡ histories_of hall = cc in
    ap (λ y. y ∷ ends) (same_end o x k.0 head) ∙ ap (λ r. pred_now o ∷ r) (ended_now hall ends k.1 rest)
  where
    same_end : (o : HallObject) (x : PredEnd) → IsKept o.object x → x.history ≡ o.history → x ≡ pred_now o
    same_end o x k h =
        let first : x ≡ record { name = x.name; opening = x.opening; history = o.history; facts = x.facts; is_open = x.is_open; parked = x.parked } = ap (λ y. record { name = x.name; opening = x.opening; history = y; facts = x.facts; is_open = x.is_open; parked = x.parked }) h in
        first ∙ cc (k.name, k.opening, k.facts, k.is_open, k.parked, h)

pub ended_legal : (hall : List HallObject) (ends : List PredEnd) → AreKept (objects_of hall) ends → ended_histories ends ≡ histories_of hall → AreLegal hall
ended_legal [] ends k e = tt
ended_legal (o ∷ hall) [] k e = absurd k
ended_legal (o ∷ hall) (x ∷ ends) k e =
    let head : x.history ≡ o.history = cc in
    let rest : ended_histories ends ≡ histories_of hall = cc in
    (subst (λ h. Legal o.object.kind o.object.opening h) head k.0.legal, ended_legal hall ends k.1 rest)
