-- What asking an object of a hall does to what the hall tells.
use Rattle.std.proofs.Common.{◌≡◌, ◌≢◌, ◌⊎◌, inl, inr, ℕ, zero, suc, ◌<◌, ◌==◌, List, [], ◌∷◌, ◌++◌, length, refl, sym, ◌∙◌, ap, subst, true, false, Bool, not, ◌&&◌, Option, Some, None, arith}
use Rattle.std.specs.Prelude.{map, slice_get, slice_set, Ok, Err}
use Rattle.std.proofs.lemmas.Bool.{and_parts}
use Rattle.std.proofs.lemmas.Bool.Decides.{eqb_tells}
use Rattle.cp_call.specs.declared.call.ObjectKind.{ObjectKind}
use Rattle.cp_call.specs.declared.call.ObjectKind.TheVariants as kind
use Rattle.cp_call.specs.declared.call.Call.{Call}
use Rattle.cp_call.specs.declared.call.Call.TheVariants as call
use Rattle.cp_call.specs.declared.call.FullBy.{FullBy}
use Rattle.cp_call.specs.declared.call.Entry.{Entry}
use Rattle.cp_call.specs.declared.asked.Asked.{Asked}
use Rattle.cp_call.specs.declared.asked.Asked.TheVariants as asked
use Rattle.std.proofs.lemmas.List.Elements.{filter-append}
use Rattle.cp_call.specs.declared.call.Reply.{Reply}
use Rattle.cp_call.specs.declared.call.Reply.TheVariants as reply
use Rattle.cp_call.specs.Object.{step, is_parked}
use Rattle.cp_call.specs.History.{Limit, Legal, full_at, is_leave}
use Rattle.cp_call.specs.Store.{StoreView, state_of, is_still_parked, limit_of}
use Rattle.cp_call.specs.Sound.{Object, own_entries, entry_unless_full}
use Rattle.cp_list.specs.Lists.{IsPrefix}
use Rattle.cp_call.specs.Asker.{IsFull, IsWaiting, entry_added}
use Rattle.cp_call.proofs.Growing.{Legal-push}
use Rattle.cp_call.proofs.Parking.{parked_ends}
use Rattle.cp_call.specs.declared.refused.Refused.TheVariants as refused
use Rattle.cp_call.specs.Refusals.{IsPrepared}
use Rattle.cp_hall.specs.declared.hall.HallRow.{HallRow}
use Rattle.cp_hall.specs.Hall.{HallObject, hall_object, objects_of, history_of, history_at, with_entries, with_more, IsAnswer}

still_from : (b : Bool) (l : Option Limit) → IsPrepared b l (Err refused.StillParked) → b ≡ true
still_from true l h = refl
still_from false (Some l) h = cc
still_from false None h = cc

-- what StillParked tells
pub still_waits : (v : StoreView) (n : ℕ) (c : Call) → Legal v.kind v.opening v.history → IsPrepared (is_still_parked v n c) (limit_of v c) (Err refused.StillParked)
    → (o : Object) → o.kind ≡ v.kind → o.opening ≡ v.opening → IsWaiting o v.history n c
still_waits v n c l h o ek eo =
    let b : is_still_parked v n c ≡ true = still_from (is_still_parked v n c) (limit_of v c) h in
    let parts : (is_parked (state_of v) n ≡ true) × (not (is_leave c) ≡ true) = and_parts (is_parked (state_of v) n) (not (is_leave c)) b in
    record {
      stays = λ e. (let z : false ≡ true = subst (λ x. not (is_leave x) ≡ true) e parts.1 in cc);
      parked = rw (ek, eo) parts.0;
      last = parked_ends v.kind v.opening v.history n l parts.0;
    }

full_from : (b : Bool) (l : Option Limit) (by : FullBy) (count : ℕ) → IsPrepared b l (Err (refused.Full by count)) → (b ≡ false) × (l ≡ Some (record { by = by; count = count }))
full_from true l by count h = cc
full_from false (Some l) by count h = let z : refused.Full by count ≡ refused.Full l.by l.count = cc in (refl, again l by count z)
  where
    again : (l : Limit) (by : FullBy) (count : ℕ) → refused.Full by count ≡ refused.Full l.by l.count → Some l ≡ Some (record { by = by; count = count })
    again l by count e = let x : by ≡ l.by = cc in let y : count ≡ l.count = cc in rw (x, y) refl
full_from false None by count h = cc

leave_never_full : (k : ObjectKind) (p e q : ℕ) → full_at k p e q call.Leave ≡ None
leave_never_full kind.Goals p e q = refl
leave_never_full kind.Ended p e q = refl
leave_never_full kind.Concurrent p e q = refl
leave_never_full kind.Plain p e q = refl

leave_is : (c : Call) → is_leave c ≡ true → c ≡ call.Leave
leave_is call.Leave h = refl
leave_is (call.AddFront fact) h = cc
leave_is (call.AddBack fact) h = cc
leave_is (call.Next pattern after) h = cc
leave_is (call.Take pattern after) h = cc
leave_is (call.NextNb pattern after) h = cc
leave_is (call.TakeNb pattern after) h = cc
leave_is (call.Purge pattern) h = cc
leave_is (call.Replace fact) h = cc
leave_is call.Close h = cc
leave_is call.Reopen h = cc

no_leave : (v : StoreView) (c : Call) (l : Limit) → limit_of v c ≡ Some l → is_leave c ≡ false
no_leave v c l h = by_test (is_leave c) refl
  where
    by_test : (b : Bool) → is_leave c ≡ b → b ≡ false
    by_test true e = let z : limit_of v c ≡ None = subst (λ x. limit_of v x ≡ None) (sym (leave_is c e)) (leave_never_full v.kind _ _ _) in absurd (let w : ⊥ = cc (z, h) in w)
    by_test false e = refl

awake_from : (p l : Bool) → p && not l ≡ false → l ≡ false → p ≡ false
awake_from true true h e = cc
awake_from true false h e = h
awake_from false l h e = refl

-- what Full tells
pub full_is : (v : StoreView) (n : ℕ) (c : Call) (by : FullBy) (count : ℕ) → IsPrepared (is_still_parked v n c) (limit_of v c) (Err (refused.Full by count))
    → (o : Object) → o.kind ≡ v.kind → o.opening ≡ v.opening → IsFull o v.history n c (record { by = by; count = count })
full_is v n c by count h o ek eo =
    let p : (is_still_parked v n c ≡ false) × (limit_of v c ≡ Some (record { by = by; count = count })) = full_from (is_still_parked v n c) (limit_of v c) by count h in
    record {
      reached = rw (ek, eo) p.1;
      awake = rw (ek, eo) (awake_from (is_parked (state_of v) n) (is_leave c) p.0 (no_leave v c (record { by = by; count = count }) p.1));
    }

-- what a call is answered
pub answer_still : (b : Bool) (l : Option Limit) (r : Reply) → IsPrepared b l (Err refused.StillParked) → IsAnswer b l r asked.StillParked
answer_still true l r h = refl
answer_still false (Some l) r h = cc
answer_still false None r h = cc

pub answer_full : (b : Bool) (l : Option Limit) (r : Reply) (by : FullBy) (count : ℕ) → IsPrepared b l (Err (refused.Full by count)) → IsAnswer b l r (asked.Replied (reply.Full by count))
answer_full true l r by count h = cc
answer_full false (Some l) r by count h = let x : by ≡ l.by = cc in let y : count ≡ l.count = cc in rw (x, y) refl
answer_full false None r by count h = cc

pub answer_memory : (b : Bool) (l : Option Limit) (r : Reply) → IsPrepared b l (Err refused.NoMemory) → IsAnswer b l r asked.NoMemory
answer_memory true l r h = cc
answer_memory false (Some l) r h = cc
answer_memory false None r h = inr refl

pub answer_reply : (b : Bool) (l : Option Limit) (r s : Reply) (u : Unit {0}) → IsPrepared b l (Ok u) → s ≡ r → IsAnswer b l r (asked.Replied s)
answer_reply true l r s u h e = cc
answer_reply false (Some l) r s u h e = cc
answer_reply false None r s u h e = inl (ap asked.Replied e)

-- one object of a hall has more entries
pub objects_more : (more : List Entry) (hall : List HallObject) (at : ℕ) → objects_of (with_more more hall at) ≡ objects_of hall
objects_more more [] at = refl
objects_more more (o ∷ hall) zero = refl
objects_more more (o ∷ hall) (suc at) = ap (λ os. o.object ∷ os) (objects_more more hall at)

append_nil : (xs : List Entry) → xs ++ [] ≡ xs
append_nil [] = refl
append_nil (x ∷ xs) = ap (λ r. x ∷ r) (append_nil xs)

pub history_more : (more : List Entry) (hall : List HallObject) (at p : ℕ) → IsPrefix (history_at hall p) (history_at (with_more more hall at) p)
history_more more [] at p = ([], sym (append_nil (history_at [] p)))
history_more more (o ∷ hall) zero zero = (more, refl)
history_more more (o ∷ hall) zero (suc p) = ([], sym (append_nil (history_at hall p)))
history_more more (o ∷ hall) (suc at) zero = ([], sym (append_nil o.history))
history_more more (o ∷ hall) (suc at) (suc p) = history_more more hall at p

pub history_here : (more : List Entry) (hall : List HallObject) (at : ℕ) → at < length hall → history_at (with_more more hall at) at ≡ history_at hall at ++ more
history_here more [] at h = absurd (let z : ⊥ = omega arith in z)
history_here more (o ∷ hall) zero h = refl
history_here more (o ∷ hall) (suc at) h = history_here more hall at (omega arith)

history_there : (more : List Entry) (hall : List HallObject) (at p : ℕ) → p ≢ at → history_at (with_more more hall at) p ≡ history_at hall p
history_there more [] at p d = refl
history_there more (o ∷ hall) zero zero d = absurd (d refl)
history_there more (o ∷ hall) zero (suc p) d = refl
history_there more (o ∷ hall) (suc at) zero d = refl
history_there more (o ∷ hall) (suc at) (suc p) d = history_there more hall at p (λ e. d (ap suc e))

-- a row of the hall is set
pub set_is : (rows : List HallRow) (at : ℕ) (old new : HallRow) (more : List Entry) → slice_get rows at ≡ Some old → hall_object new ≡ with_entries more (hall_object old)
    → map hall_object (slice_set rows at new) ≡ with_more more (map hall_object rows) at
set_is [] at old new more h e = refl
set_is (x ∷ rows) zero old new more h e = let z : x ≡ old = cc in ap (λ o. o ∷ map hall_object rows) (e ∙ ap (λ r. with_entries more (hall_object r)) (sym z))
set_is (x ∷ rows) (suc at) old new more h e = ap (λ os. hall_object x ∷ os) (set_is rows at old new more h e)

get_set_same : (rows : List HallRow) (at : ℕ) (r : HallRow) → at < length rows → slice_get (slice_set rows at r) at ≡ Some r
get_set_same [] at r h = absurd (let z : ⊥ = omega arith in z)
get_set_same (x ∷ rows) zero r h = refl
get_set_same (x ∷ rows) (suc at) r h = get_set_same rows at r (omega arith)

pub get_is : (rows : List HallRow) (at : ℕ) (r : HallRow) → slice_get rows at ≡ Some r → slice_get (map hall_object rows) at ≡ Some (hall_object r)
get_is [] at r h = cc
get_is (x ∷ rows) zero r h = let z : x ≡ r = cc in rw z refl
get_is (x ∷ rows) (suc at) r h = get_is rows at r h

pub history_set : (rows : List HallRow) (at : ℕ) (r : HallRow) → at < length rows → history_at (map hall_object (slice_set rows at r)) at ≡ r.pred.history
history_set rows at r h = ap history_of (get_is (slice_set rows at r) at r (get_set_same rows at r h))

pub object_is : (hall : List HallObject) (at : ℕ) (o : HallObject) → slice_get hall at ≡ Some o → slice_get (objects_of hall) at ≡ Some o.object
object_is [] at o h = cc
object_is (x ∷ hall) zero o h = let z : x ≡ o = cc in rw z refl
object_is (x ∷ hall) (suc at) o h = object_is hall at o h

pub length_is : (rows : List HallRow) → length (map hall_object rows) ≡ length rows
length_is [] = refl
length_is (x ∷ rows) = ap suc (length_is rows)

pub length_objects : (hall : List HallObject) → length (objects_of hall) ≡ length hall
length_objects [] = refl
length_objects (x ∷ hall) = ap suc (length_objects hall)

same : (n : ℕ) → (n == n) ≡ true
same n = elim (eqb_tells n n) [ inl s ↦ s.0 | inr d ↦ absurd (d.1 refl) ]

other : (n m : ℕ) → n ≢ m → (m == n) ≡ false
other n m d = elim (eqb_tells m n) [ inl s ↦ absurd (d (sym s.1)) | inr o ↦ o.0 ]

pub own_grows : (n : ℕ) (more : List Entry) (hall : List HallObject) (at : ℕ) → at < length hall → own_entries n more ≡ more
    → own_entries n (history_at (with_more more hall at) at) ≡ own_entries n (history_at hall at) ++ more
own_grows n more hall at h own = ap (own_entries n) (history_here more hall at h)
    ∙ (filter-append (λ (x : Entry). x.caller == n) (history_at hall at) more ∙ ap (λ m. own_entries n (history_at hall at) ++ m) own)

pub own_stays : (n m : ℕ) (more : List Entry) (hall : List HallObject) (at p : ℕ) → at < length hall → (n ≢ m → own_entries n more ≡ [])
    → (n ≢ m) ⊎ (p ≢ at) → own_entries n (history_at (with_more more hall at) p) ≡ own_entries n (history_at hall p)
own_stays n m more hall at p h none (inr d) = ap (own_entries n) (history_there more hall at p d)
own_stays n m more hall at p h none (inl d) = elim (eqb_tells at p) [
  | inl s ↦ (let z : own_entries n (history_at (with_more more hall at) at) ≡ own_entries n (history_at hall at) =
      ap (own_entries n) (history_here more hall at h)
      ∙ (filter-append (λ (x : Entry). x.caller == n) (history_at hall at) more
      ∙ (ap (λ x. own_entries n (history_at hall at) ++ x) (none d) ∙ append_nil (own_entries n (history_at hall at)))) in
      subst (λ q. own_entries n (history_at (with_more more hall at) q) ≡ own_entries n (history_at hall q)) s.1 z)
  | inr o ↦ ap (own_entries n) (history_there more hall at p (λ e. o.1 (sym e)))
]

-- the gained entries are all the caller's own
pub kept_own : (n : ℕ) (c : Call) (r : Reply) → own_entries n (entry_unless_full n c r []) ≡ entry_unless_full n c r []
kept_own n c (reply.Added place woken) = rw (same n) refl
kept_own n c (reply.Found place fact) = rw (same n) refl
kept_own n c reply.NoMore = rw (same n) refl
kept_own n c reply.Parked = rw (same n) refl
kept_own n c (reply.Purged count) = rw (same n) refl
kept_own n c (reply.Replaced place woken) = rw (same n) refl
kept_own n c (reply.Closed woken) = rw (same n) refl
kept_own n c reply.Reopened = rw (same n) refl
kept_own n c reply.Left = rw (same n) refl
kept_own n c reply.NotParked = rw (same n) refl
kept_own n c (reply.Full by count) = refl

pub kept_others : (n m : ℕ) (c : Call) (r : Reply) → n ≢ m → own_entries n (entry_unless_full m c r []) ≡ []
kept_others n m c (reply.Added place woken) d = rw (other n m d) refl
kept_others n m c (reply.Found place fact) d = rw (other n m d) refl
kept_others n m c reply.NoMore d = rw (other n m d) refl
kept_others n m c reply.Parked d = rw (other n m d) refl
kept_others n m c (reply.Purged count) d = rw (other n m d) refl
kept_others n m c (reply.Replaced place woken) d = rw (other n m d) refl
kept_others n m c (reply.Closed woken) d = rw (other n m d) refl
kept_others n m c reply.Reopened d = rw (other n m d) refl
kept_others n m c reply.Left d = rw (other n m d) refl
kept_others n m c reply.NotParked d = rw (other n m d) refl
kept_others n m c (reply.Full by count) d = refl

pub gained_own : (n : ℕ) (c : Call) (a : Asked) → own_entries n (entry_added n c a) ≡ entry_added n c a
gained_own n c (asked.Replied r) = kept_own n c r
gained_own n c asked.StillParked = refl
gained_own n c asked.NoMemory = refl

pub gained_others : (n m : ℕ) (c : Call) (a : Asked) → n ≢ m → own_entries n (entry_added m c a) ≡ []
gained_others n m c (asked.Replied r) d = kept_others n m c r d
gained_others n m c asked.StillParked d = refl
gained_others n m c asked.NoMemory d = refl

prepared_awake : (b : Bool) (l : Option Limit) (u : Unit {0}) → IsPrepared b l (Ok u) → b ≡ false
prepared_awake true l u h = cc
prepared_awake false l u h = refl

prepared_room : (b : Bool) (l : Option Limit) (u : Unit {0}) → IsPrepared b l (Ok u) → l ≡ None
prepared_room true l u h = cc
prepared_room false (Some l) u h = cc
prepared_room false None u h = refl

-- the history stays legal by a call that was prepared
pub legal_made : (v : StoreView) (n : ℕ) (c : Call) (r : Reply) (u : Unit {0}) → Legal v.kind v.opening v.history → IsPrepared (is_still_parked v n c) (limit_of v c) (Ok u) → r ≡ (step (state_of v) n c).reply
    → Legal v.kind v.opening (v.history ++ record { caller = n; call = c; reply = r } ∷ [])
legal_made v n c r u l h e = Legal-push v.kind v.opening v.history (record { caller = n; call = c; reply = r }) l (record {
  replied = e;
  awake = prepared_awake (is_still_parked v n c) (limit_of v c) u h;
  room = prepared_room (is_still_parked v n c) (limit_of v c) u h;
})
