-- An object behind its turnstile, and the entries that it has since.
use Rattle.std.proofs.Common.{◌≡◌, ℕ, ◌≤◌, List, [], ◌++◌, append_assoc, length, drop, refl, sym, ◌∙◌, ap, arith, length-append, append-nil}
use Rattle.std.proofs.lemmas.List.{drop_all, drop-append-le}
use Rattle.cp_call.specs.declared.call.Call.{Call}
use Rattle.cp_call.specs.declared.call.Entry.{Entry}
use Rattle.cp_call.specs.declared.call.Reply.{Reply}
use Rattle.cp_call.specs.declared.call.Reply.TheVariants as reply
use Rattle.cp_call.specs.declared.asked.Asked.{Asked}
use Rattle.cp_call.specs.declared.asked.Asked.TheVariants as asked
use Rattle.cp_call.specs.Sound.{entry_unless_full}
use Rattle.cp_call.specs.Asker.{entry_added}
use Rattle.cp_call.specs.Store.{StoreView}
use Rattle.cp_turn.specs.Lists.{AreBy}
use Rattle.cp_hall.specs.declared.hall.HallRow.{HallRow}
use Rattle.cp_hall.specs.Hall.{HallObject, hall_object, with_entries}

-- the entries that a list has behind its first ones
abbrev pub behind : (start now : HallRow) → List Entry
behind start now = drop (length start.pred.history) now.pred.history

pub drop_whole : (xs : List Entry) → drop (length xs) xs ≡ []
drop_whole xs = drop_all (length xs) xs (omega arith)

-- an object as it goes behind its turnstile has no entries since
pub begins : (row : HallRow) → hall_object row ≡ with_entries (behind row row) (hall_object row)
begins row = ap (λ (h : List Entry). record { object = (hall_object row).object; history = h }) (sym (append-nil row.pred.history) ∙ ap (λ (more : List Entry). row.pred.history ++ more) (sym (drop_whole row.pred.history)))

pub history_is : (start now : HallRow) → hall_object now ≡ with_entries (behind start now) (hall_object start) → now.pred.history ≡ start.pred.history ++ behind start now
history_is start now e = ap (λ (o : HallObject). o.history) e

-- more entries of the object are more entries since
pub grows : (start now next : HallRow) (more : List Entry) → hall_object now ≡ with_entries (behind start now) (hall_object start) → next.pred.history ≡ now.pred.history ++ more
    → behind start next ≡ behind start now ++ more
grows start now next more is e =
    let long : length start.pred.history ≤ length now.pred.history = omega (arith, length-append start.pred.history (behind start now), ap length (history_is start now is)) in
    ap (drop (length start.pred.history)) e ∙ drop-append-le (length start.pred.history) now.pred.history more long

pub goes_on : (start now next : HallRow) (more : List Entry) → hall_object now ≡ with_entries (behind start now) (hall_object start) → hall_object next ≡ with_entries more (hall_object now)
    → hall_object next ≡ with_entries (behind start next) (hall_object start)
goes_on start now next more is e =
    let longer : behind start next ≡ behind start now ++ more = grows start now next more is (ap (λ (o : HallObject). o.history) e) in
    e ∙ ap (with_entries more) is ∙ ap (λ (h : List Entry). record { object = (hall_object start).object; history = h }) (append_assoc start.pred.history (behind start now) more ∙ ap (λ (more : List Entry). start.pred.history ++ more) (sym longer))

kept_by : (n : ℕ) (c : Call) (r : Reply) → AreBy (λ (e : Entry). e.caller) n (entry_unless_full n c r [])
kept_by n c (reply.Added place woken) = (refl, tt)
kept_by n c (reply.Found place fact) = (refl, tt)
kept_by n c reply.NoMore = (refl, tt)
kept_by n c reply.Parked = (refl, tt)
kept_by n c (reply.Purged count) = (refl, tt)
kept_by n c (reply.Replaced place woken) = (refl, tt)
kept_by n c (reply.Closed woken) = (refl, tt)
kept_by n c reply.Reopened = (refl, tt)
kept_by n c reply.Left = (refl, tt)
kept_by n c reply.NotParked = (refl, tt)
kept_by n c (reply.Full by count) = tt

-- what a call adds is its caller's
pub added_by : (n : ℕ) (c : Call) (a : Asked) → AreBy (λ (e : Entry). e.caller) n (entry_added n c a)
added_by n c (asked.Replied r) = kept_by n c r
added_by n c asked.StillParked = tt
added_by n c asked.NoMemory = tt

-- an object that was asked has more entries
pub asked_more : (row : HallRow) (pred : StoreView) (more : List Entry) → pred.kind ≡ row.pred.kind → pred.opening ≡ row.pred.opening → pred.history ≡ row.pred.history ++ more
    → hall_object (record { name = row.name; pred = pred }) ≡ with_entries more (hall_object row)
asked_more row pred more k o h = rw (k, o, h) refl
