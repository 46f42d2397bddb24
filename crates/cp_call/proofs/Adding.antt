-- What a call adds for one engine: events that are added one after another, and that they agree with the run.
use Rattle.std.proofs.Common.{◌≡◌, ◌≢◌, inl, inr, ℕ, zero, suc, ◌+◌, ◌<◌, ◌==◌, List, [], ◌∷◌, ◌++◌, length, refl, sym, ◌∙◌, ap, subst, true, false, Bool, arith, Some, append_assoc}
use Rattle.std.specs.Prelude.{nat_lt, slice_get, MatchBool}
use Rattle.std.specs.List.{list_all}
use Rattle.std.proofs.lemmas.Bool.Decides.{eqb_tells}
use Rattle.std.proofs.lemmas.Bool.{and_from, lt-ltb}
use Rattle.std.proofs.lemmas.List.Folds.{list_all-append}
use Rattle.cp_list.specs.Lists.{IsPrefix}
use Rattle.cp_call.specs.declared.asked.Asked.TheVariants as asked
use Rattle.cp_call.specs.declared.call.Call.{Call}
use Rattle.cp_call.specs.declared.call.Reply.{Reply}
use Rattle.cp_call.specs.declared.call.Reply.TheVariants as reply
use Rattle.cp_call.specs.declared.call.Entry.{Entry}
use Rattle.cp_call.specs.declared.item.Item.{Item}
use Rattle.cp_call.specs.declared.item.Item.TheVariants as item
use Rattle.cp_call.specs.declared.item.PutReply.{PutReply}
use Rattle.cp_call.specs.declared.outcome.OutEntry.{OutEntry}
use Rattle.cp_call.specs.History.{Limit}
use Rattle.cp_call.specs.Asker.{entry_added, IsFullBy}
use Rattle.cp_call.specs.Sound.{Object, own_entries, entry_unless_full, asked_entries, wrote_entries, WasFull, IsRight, IsRightEvent, RightRefusals, AgreeOn, AgreeFrom, is_of_objects, Agrees}
use Rattle.cp_call.specs.Added.{WasFullSince, IsRightSince, IsRightEventSince, RightRefusalsSince, HasAdded, is_silent}
use Rattle.cp_call.proofs.Growing.{append_nil, asked_entries-append, wrote_entries-append, RightRefusals-longer}

-- a list begins with itself, and with what its beginning begins with
pub IsPrefix_refl : {X : Type 0} (xs : List X) → IsPrefix xs xs
IsPrefix_refl xs = ([], sym (append_nil xs))

pub IsPrefix_trans : {X : Type 0} (xs ys zs : List X) → IsPrefix xs ys → IsPrefix ys zs → IsPrefix xs zs
IsPrefix_trans xs ys zs a b = (a.0 ++ b.0, b.1 ∙ (ap (λ r. r ++ b.0) a.1 ∙ append_assoc xs a.0 b.0))

-- A refusal that was right since `seen` is right, where the caller's part of `seen` is what its earlier events tell.
WasFull-since : (o : Object) (seen now : List Entry) (n : ℕ) (before mine : List Entry) (c : Call) (limit : Limit)
    → own_entries n seen ≡ before
    → WasFullSince o seen now n mine c limit
    → WasFull o now n (before ++ mine) c limit
WasFull-since o seen now n before mine c limit own w = record {
  seen = w.found;
  later = w.ends.0;
  begins = w.ends.1;
  own = w.own ∙ ap (λ r. r ++ mine) own;
  reached = w.reached;
  awake = w.awake;
}

IsRight-since : (o : Object) (seen now : List Entry) (n : ℕ) (before mine : List Entry) (c : Call) (r : Reply)
    → own_entries n seen ≡ before
    → IsRightSince o seen now n mine c r
    → IsRight o now n (before ++ mine) c r
IsRight-since o seen now n before mine c (reply.Full by count) own w = WasFull-since o seen now n before mine c (record { by = by; count = count }) own w
IsRight-since o seen now n before mine c (reply.Added place woken) own w = tt
IsRight-since o seen now n before mine c (reply.Found place fact) own w = tt
IsRight-since o seen now n before mine c reply.NoMore own w = tt
IsRight-since o seen now n before mine c reply.Parked own w = tt
IsRight-since o seen now n before mine c (reply.Purged count) own w = tt
IsRight-since o seen now n before mine c (reply.Replaced place woken) own w = tt
IsRight-since o seen now n before mine c (reply.Closed woken) own w = tt
IsRight-since o seen now n before mine c reply.Reopened own w = tt
IsRight-since o seen now n before mine c reply.Left own w = tt
IsRight-since o seen now n before mine c reply.NotParked own w = tt

right_where : (b : Bool) (o : Object) (seen now : List Entry) (n : ℕ) (before mine : List Entry) (c : Call) (r : Reply)
    → own_entries n seen ≡ before
    → MatchBool b (IsRightSince o seen now n mine c r) (Unit {0})
    → MatchBool b (IsRight o now n (before ++ mine) c r) (Unit {0})
right_where true o seen now n before mine c r own w = IsRight-since o seen now n before mine c r own w
right_where false o seen now n before mine c r own w = tt

IsRightEvent-since : (o : Object) (p : ℕ) (seen now : List Entry) (n : ℕ) (items earlier : List Item) (i : Item)
    → own_entries n seen ≡ asked_entries n p items
    → IsRightEventSince o p seen now n earlier i
    → IsRightEvent o p now n (items ++ earlier) i
IsRightEvent-since o p seen now n items earlier (item.Asked object c r) own w =
    subst (λ mine. MatchBool (object == p) (IsRight o now n mine c r) (Unit {0})) (sym (asked_entries-append n p items earlier))
    (right_where (object == p) o seen now n (asked_entries n p items) (asked_entries n p earlier) c r own w)
IsRightEvent-since o p seen now n items earlier (item.Wrote bytes r) own w = tt
IsRightEvent-since o p seen now n items earlier (item.Remote c r) own w = tt
IsRightEvent-since o p seen now n items earlier (item.Given c) own w = tt
IsRightEvent-since o p seen now n items earlier (item.Answered r) own w = tt

RightRefusals-since : (o : Object) (p : ℕ) (seen now : List Entry) (n : ℕ) (items earlier added : List Item)
    → own_entries n seen ≡ asked_entries n p items
    → RightRefusalsSince o p seen now n earlier added
    → RightRefusals o p now n (items ++ earlier) added
RightRefusals-since o p seen now n items earlier [] own w = tt
RightRefusals-since o p seen now n items earlier (i ∷ added) own w = (
  IsRightEvent-since o p seen now n items earlier i own w.0,
  subst (λ e. RightRefusals o p now n e added) (sym (append_assoc items earlier (i ∷ []))) (RightRefusals-since o p seen now n items (earlier ++ i ∷ []) added own w.1),
)

RightRefusals-append : (o : Object) (p : ℕ) (history : List Entry) (n : ℕ) (earlier xs ys : List Item)
    → RightRefusals o p history n earlier xs
    → RightRefusals o p history n (earlier ++ xs) ys
    → RightRefusals o p history n earlier (xs ++ ys)
RightRefusals-append o p history n earlier [] ys a b = subst (λ e. RightRefusals o p history n e ys) (append_nil earlier) b
RightRefusals-append o p history n earlier (x ∷ xs) ys a b =
    (a.0, RightRefusals-append o p history n (earlier ++ x ∷ []) xs ys a.1 (subst (λ e. RightRefusals o p history n e ys) (sym (append_assoc earlier (x ∷ []) xs)) b))

AgreeOn-added : (o : Object) (p : ℕ) (seen now : List Entry) (n : ℕ) (items added : List Item)
    → IsPrefix seen now
    → own_entries n now ≡ own_entries n seen ++ asked_entries n p added
    → RightRefusalsSince o p seen now n [] added
    → AgreeOn o p seen n items
    → AgreeOn o p now n (items ++ added)
AgreeOn-added o p seen now n items added grows own right a = record {
  entries = own ∙ (ap (λ r. r ++ asked_entries n p added) a.entries ∙ sym (asked_entries-append n p items added));
  refusals = RightRefusals-append o p now n [] items added
      (subst (λ h. RightRefusals o p h n [] items) (sym grows.1) (RightRefusals-longer o p seen grows.0 n [] items a.refusals))
      (subst (λ e. RightRefusals o p now n e added) (append_nil items) (RightRefusals-since o p seen now n items [] added a.entries right));
}

shift : (p k : ℕ) → (p + 1) + k ≡ p + suc k
shift p k = omega arith

AgreeFrom-added : (os : List Object) (p : ℕ) (seen now : ℕ → List Entry) (n : ℕ) (items added : List Item)
    → ((q : ℕ) → IsPrefix (seen q) (now q))
    → ((q : ℕ) → own_entries n (now q) ≡ own_entries n (seen q) ++ asked_entries n q added)
    → ((k : ℕ) (o : Object) → slice_get os k ≡ Some o → RightRefusalsSince o (p + k) (seen (p + k)) (now (p + k)) n [] added)
    → AgreeFrom p os seen n items
    → AgreeFrom p os now n (items ++ added)
AgreeFrom-added [] p seen now n items added grows own right a = tt
AgreeFrom-added (o ∷ os) p seen now n items added grows own right a =
    let here : RightRefusalsSince o p (seen p) (now p) n [] added = subst (λ q. RightRefusalsSince o q (seen q) (now q) n [] added) (let z : p + 0 ≡ p = omega arith in z) (right zero o refl) in (
      AgreeOn-added o p (seen p) (now p) n items added (grows p) (own p) here a.0,
      AgreeFrom-added os (p + 1) seen now n items added grows own
          (λ k x e. subst (λ q. RightRefusalsSince x q (seen q) (now q) n [] added) (sym (shift p k)) (right (suc k) x e)) a.1,
    )

-- What an engine tells stays so with the events that a call has added.
pub Agrees-added : (os : List Object) (seen now : ℕ → List Entry) (wrote wrote_now : List OutEntry) (n : ℕ) (items added : List Item)
    → Agrees os seen wrote n items
    → HasAdded os seen now wrote wrote_now n added
    → Agrees os now wrote_now n (items ++ added)
Agrees-added os seen now wrote wrote_now n items added a h = record {
  known = list_all-append (is_of_objects (length os)) items added ∙ and_from (list_all (is_of_objects (length os)) items) (list_all (is_of_objects (length os)) added) a.known h.known;
  asked = AgreeFrom-added os 0 seen now n items added h.grows h.asked (λ k o e. subst (λ q. RightRefusalsSince o q (seen q) (now q) n [] added) (let z : k ≡ 0 + k = omega arith in z) (h.refusals k o e)) a.asked;
  wrote = h.writes ∙ (ap (λ r. r ++ wrote_entries n added) a.wrote ∙ sym (wrote_entries-append n items added));
}

-- A refusal that is right up to a moment is right up to every later one, and since every earlier one.
WasFullSince-between : (o : Object) (first seen now last : List Entry) (n : ℕ) (before mine : List Entry) (c : Call) (limit : Limit)
    → IsPrefix first seen
    → IsPrefix now last
    → own_entries n seen ≡ own_entries n first ++ before
    → WasFullSince o seen now n mine c limit
    → WasFullSince o first last n (before ++ mine) c limit
WasFullSince-between o first seen now last n before mine c limit begins ends own w = record {
  found = w.found;
  begins = IsPrefix_trans first seen w.found begins w.begins;
  ends = IsPrefix_trans w.found now last w.ends ends;
  own = w.own ∙ (ap (λ r. r ++ mine) own ∙ append_assoc (own_entries n first) before mine);
  reached = w.reached;
  awake = w.awake;
}

IsRightSince-between : (o : Object) (first seen now last : List Entry) (n : ℕ) (before mine : List Entry) (c : Call) (r : Reply)
    → IsPrefix first seen
    → IsPrefix now last
    → own_entries n seen ≡ own_entries n first ++ before
    → IsRightSince o seen now n mine c r
    → IsRightSince o first last n (before ++ mine) c r
IsRightSince-between o first seen now last n before mine c (reply.Full by count) begins ends own w =
    WasFullSince-between o first seen now last n before mine c (record { by = by; count = count }) begins ends own w
IsRightSince-between o first seen now last n before mine c (reply.Added place woken) begins ends own w = tt
IsRightSince-between o first seen now last n before mine c (reply.Found place fact) begins ends own w = tt
IsRightSince-between o first seen now last n before mine c reply.NoMore begins ends own w = tt
IsRightSince-between o first seen now last n before mine c reply.Parked begins ends own w = tt
IsRightSince-between o first seen now last n before mine c (reply.Purged count) begins ends own w = tt
IsRightSince-between o first seen now last n before mine c (reply.Replaced place woken) begins ends own w = tt
IsRightSince-between o first seen now last n before mine c (reply.Closed woken) begins ends own w = tt
IsRightSince-between o first seen now last n before mine c reply.Reopened begins ends own w = tt
IsRightSince-between o first seen now last n before mine c reply.Left begins ends own w = tt
IsRightSince-between o first seen now last n before mine c reply.NotParked begins ends own w = tt

right_between : (b : Bool) (o : Object) (first seen now last : List Entry) (n : ℕ) (before mine : List Entry) (c : Call) (r : Reply)
    → IsPrefix first seen
    → IsPrefix now last
    → own_entries n seen ≡ own_entries n first ++ before
    → MatchBool b (IsRightSince o seen now n mine c r) (Unit {0})
    → MatchBool b (IsRightSince o first last n (before ++ mine) c r) (Unit {0})
right_between true o first seen now last n before mine c r begins ends own w = IsRightSince-between o first seen now last n before mine c r begins ends own w
right_between false o first seen now last n before mine c r begins ends own w = tt

IsRightEventSince-between : (o : Object) (p : ℕ) (first seen now last : List Entry) (n : ℕ) (before earlier : List Item) (i : Item)
    → IsPrefix first seen
    → IsPrefix now last
    → own_entries n seen ≡ own_entries n first ++ asked_entries n p before
    → IsRightEventSince o p seen now n earlier i
    → IsRightEventSince o p first last n (before ++ earlier) i
IsRightEventSince-between o p first seen now last n before earlier (item.Asked object c r) begins ends own w =
    subst (λ mine. MatchBool (object == p) (IsRightSince o first last n mine c r) (Unit {0})) (sym (asked_entries-append n p before earlier))
    (right_between (object == p) o first seen now last n (asked_entries n p before) (asked_entries n p earlier) c r begins ends own w)
IsRightEventSince-between o p first seen now last n before earlier (item.Wrote bytes r) begins ends own w = tt
IsRightEventSince-between o p first seen now last n before earlier (item.Remote c r) begins ends own w = tt
IsRightEventSince-between o p first seen now last n before earlier (item.Given c) begins ends own w = tt
IsRightEventSince-between o p first seen now last n before earlier (item.Answered r) begins ends own w = tt

RightRefusalsSince-between : (o : Object) (p : ℕ) (first seen now last : List Entry) (n : ℕ) (before earlier added : List Item)
    → IsPrefix first seen
    → IsPrefix now last
    → own_entries n seen ≡ own_entries n first ++ asked_entries n p before
    → RightRefusalsSince o p seen now n earlier added
    → RightRefusalsSince o p first last n (before ++ earlier) added
RightRefusalsSince-between o p first seen now last n before earlier [] begins ends own w = tt
RightRefusalsSince-between o p first seen now last n before earlier (i ∷ added) begins ends own w = (
  IsRightEventSince-between o p first seen now last n before earlier i begins ends own w.0,
  subst (λ e. RightRefusalsSince o p first last n e added) (sym (append_assoc before earlier (i ∷ [])))
      (RightRefusalsSince-between o p first seen now last n before (earlier ++ i ∷ []) added begins ends own w.1),
)

RightRefusalsSince-append : (o : Object) (p : ℕ) (seen now : List Entry) (n : ℕ) (earlier xs ys : List Item)
    → RightRefusalsSince o p seen now n earlier xs
    → RightRefusalsSince o p seen now n (earlier ++ xs) ys
    → RightRefusalsSince o p seen now n earlier (xs ++ ys)
RightRefusalsSince-append o p seen now n earlier [] ys a b = subst (λ e. RightRefusalsSince o p seen now n e ys) (append_nil earlier) b
RightRefusalsSince-append o p seen now n earlier (x ∷ xs) ys a b =
    (a.0, RightRefusalsSince-append o p seen now n (earlier ++ x ∷ []) xs ys a.1 (subst (λ e. RightRefusalsSince o p seen now n e ys) (sym (append_assoc earlier (x ∷ []) xs)) b))

-- Nothing was added.
pub HasAdded-none : (os : List Object) (seen : ℕ → List Entry) (wrote : List OutEntry) (n : ℕ) → HasAdded os seen seen wrote wrote n []
HasAdded-none os seen wrote n = record {
  grows = λ p. IsPrefix_refl (seen p);
  known = refl;
  asked = λ p. sym (append_nil (own_entries n (seen p)));
  refusals = λ p o e. tt;
  writes = sym (append_nil wrote);
}

-- Events were added, and then others.
pub HasAdded-append : (os : List Object) (first seen now : ℕ → List Entry) (wrote wrote_then wrote_now : List OutEntry) (n : ℕ) (xs ys : List Item)
    → HasAdded os first seen wrote wrote_then n xs
    → HasAdded os seen now wrote_then wrote_now n ys
    → HasAdded os first now wrote wrote_now n (xs ++ ys)
HasAdded-append os first seen now wrote wrote_then wrote_now n xs ys a b = record {
  grows = λ p. IsPrefix_trans (first p) (seen p) (now p) (a.grows p) (b.grows p);
  known = list_all-append (is_of_objects (length os)) xs ys ∙ and_from (list_all (is_of_objects (length os)) xs) (list_all (is_of_objects (length os)) ys) a.known b.known;
  asked = λ p. b.asked p ∙ (ap (λ r. r ++ asked_entries n p ys) (a.asked p) ∙ (append_assoc (own_entries n (first p)) (asked_entries n p xs) (asked_entries n p ys) ∙ ap (λ r. own_entries n (first p) ++ r) (sym (asked_entries-append n p xs ys))));
  refusals = λ p o e. RightRefusalsSince-append o p (first p) (now p) n [] xs ys
      (RightRefusalsSince-between o p (first p) (first p) (seen p) (now p) n [] [] xs (IsPrefix_refl (first p)) (b.grows p) (sym (append_nil (own_entries n (first p)))) (a.refusals p o e))
      (subst (λ x. RightRefusalsSince o p (first p) (now p) n x ys) (append_nil xs)
      (RightRefusalsSince-between o p (first p) (seen p) (now p) (now p) n xs [] ys (a.grows p) (IsPrefix_refl (now p)) (a.asked p) (b.refusals p o e)));
  writes = b.writes ∙ (ap (λ r. r ++ wrote_entries n ys) a.writes ∙ (append_assoc wrote (wrote_entries n xs) (wrote_entries n ys) ∙ ap (λ r. wrote ++ r) (sym (wrote_entries-append n xs ys))));
}

-- what the asker vouches for at a refusal is that it is right
right_now : (o : Object) (seen now : List Entry) (n : ℕ) (c : Call) (r : Reply)
    → IsPrefix seen now
    → own_entries n now ≡ own_entries n seen ++ entry_unless_full n c r []
    → IsFullBy (Some o) now n c (asked.Replied r)
    → IsRightSince o seen now n [] c r
right_now o seen now n c (reply.Full by count) grows own f = record {
  found = now;
  begins = grows;
  ends = IsPrefix_refl now;
  own = own;
  reached = f.reached;
  awake = f.awake;
}
right_now o seen now n c (reply.Added place woken) grows own f = tt
right_now o seen now n c (reply.Found place fact) grows own f = tt
right_now o seen now n c reply.NoMore grows own f = tt
right_now o seen now n c reply.Parked grows own f = tt
right_now o seen now n c (reply.Purged count) grows own f = tt
right_now o seen now n c (reply.Replaced place woken) grows own f = tt
right_now o seen now n c (reply.Closed woken) grows own f = tt
right_now o seen now n c reply.Reopened grows own f = tt
right_now o seen now n c reply.Left grows own f = tt
right_now o seen now n c reply.NotParked grows own f = tt

-- A call of object p was replied: one event was added.
pub HasAdded-asked : (os : List Object) (seen now : ℕ → List Entry) (wrote : List OutEntry) (n p : ℕ) (c : Call) (r : Reply)
    → p < length os
    → ((q : ℕ) → IsPrefix (seen q) (now q))
    → own_entries n (now p) ≡ own_entries n (seen p) ++ entry_added n c (asked.Replied r)
    → ((q : ℕ) → p ≢ q → own_entries n (now q) ≡ own_entries n (seen q))
    → IsFullBy (slice_get os p) (now p) n c (asked.Replied r)
    → HasAdded os seen now wrote wrote n (item.Asked p c r ∷ [])
HasAdded-asked os seen now wrote n p c r inside grows mine others full = record {
  grows = grows;
  known = and_from (nat_lt p (length os)) true (lt-ltb p (length os) inside) refl;
  asked = own;
  refusals = λ q o e. (right q o e, tt);
  writes = sym (append_nil wrote);
}
  where
    own : (q : ℕ) → own_entries n (now q) ≡ own_entries n (seen q) ++ asked_entries n q (item.Asked p c r ∷ [])
    own q = elim (eqb_tells p q) [
      | inl s ↦ let g : own_entries n (now q) ≡ own_entries n (seen q) ++ entry_unless_full n c r [] = subst (λ x. own_entries n (now x) ≡ own_entries n (seen x) ++ entry_unless_full n c r []) s.1 mine in rw s.0 g
      | inr d ↦ rw d.0 (others q d.1 ∙ sym (append_nil (own_entries n (seen q))))
    ]

    right : (q : ℕ) (o : Object) → slice_get os q ≡ Some o → IsRightEventSince o q (seen q) (now q) n [] (item.Asked p c r)
    right q o e = elim (eqb_tells p q) [
      | inl s ↦ (let m : own_entries n (now q) ≡ own_entries n (seen q) ++ entry_unless_full n c r [] = subst (λ x. own_entries n (now x) ≡ own_entries n (seen x) ++ entry_unless_full n c r []) s.1 mine in
          let f : IsFullBy (slice_get os q) (now q) n c (asked.Replied r) = subst (λ x. IsFullBy (slice_get os x) (now x) n c (asked.Replied r)) s.1 full in
          let g : IsFullBy (Some o) (now q) n c (asked.Replied r) = subst (λ x. IsFullBy x (now q) n c (asked.Replied r)) e f in
          let z : IsRightSince o (seen q) (now q) n [] c r = right_now o (seen q) (now q) n c r (grows q) m g in
          rw s.0 z)
      | inr d ↦ rw d.0 tt
    ]

-- A call of object p was not replied: nothing was added, though more may have been seen.
pub HasAdded-unanswered : (os : List Object) (seen now : ℕ → List Entry) (wrote : List OutEntry) (n : ℕ)
    → ((q : ℕ) → IsPrefix (seen q) (now q))
    → ((q : ℕ) → own_entries n (now q) ≡ own_entries n (seen q))
    → HasAdded os seen now wrote wrote n []
HasAdded-unanswered os seen now wrote n grows own = record {
  grows = grows;
  known = refl;
  asked = λ q. own q ∙ sym (append_nil (own_entries n (seen q)));
  refusals = λ p o e. tt;
  writes = sym (append_nil wrote);
}

-- A write was answered: one event was added.
pub HasAdded-wrote : (os : List Object) (seen : ℕ → List Entry) (wrote : List OutEntry) (n : ℕ) (bytes : List ℕ) (r : PutReply)
    → HasAdded os seen seen wrote (wrote ++ record { engine = n; bytes = bytes; reply = r } ∷ []) n (item.Wrote bytes r ∷ [])
HasAdded-wrote os seen wrote n bytes r = record {
  grows = λ p. IsPrefix_refl (seen p);
  known = refl;
  asked = λ p. sym (append_nil (own_entries n (seen p)));
  refusals = λ p o e. (tt, tt);
  writes = refl;
}

-- An event that is neither a call of an object nor a write was added.
pub HasAdded-silent : (os : List Object) (seen : ℕ → List Entry) (wrote : List OutEntry) (n : ℕ) (i : Item)
    → is_silent i ≡ true
    → HasAdded os seen seen wrote wrote n (i ∷ [])
HasAdded-silent os seen wrote n (item.Asked object c r) e = absurd (let z : ⊥ = cc in z)
HasAdded-silent os seen wrote n (item.Wrote bytes r) e = absurd (let z : ⊥ = cc in z)
HasAdded-silent os seen wrote n (item.Remote c r) e = record { grows = λ p. IsPrefix_refl (seen p); known = refl; asked = λ p. sym (append_nil (own_entries n (seen p))); refusals = λ p o e. (tt, tt); writes = sym (append_nil wrote) }
HasAdded-silent os seen wrote n (item.Given c) e = record { grows = λ p. IsPrefix_refl (seen p); known = refl; asked = λ p. sym (append_nil (own_entries n (seen p))); refusals = λ p o e. (tt, tt); writes = sym (append_nil wrote) }
HasAdded-silent os seen wrote n (item.Answered r) e = record { grows = λ p. IsPrefix_refl (seen p); known = refl; asked = λ p. sym (append_nil (own_entries n (seen p))); refusals = λ p o e. (tt, tt); writes = sym (append_nil wrote) }
