-- One event of a worker keeps all that holds of a run at every moment.
use Rattle.std.proofs.Common.{◌≡◌, ◌≢◌, inl, inr, ℕ, zero, suc, ◌+◌, ◌<◌, ◌≤◌, ◌==◌, List, [], ◌∷◌, ◌++◌, length, refl, sym, ◌∙◌, ap, subst, true, false, Bool, ◌&&◌, arith, Some}
use Rattle.std.specs.Prelude.{map, slice_get, slice_set, nat_le}
use Rattle.std.specs.List.{list_all, list_any}
use Rattle.std.proofs.lemmas.Bool.Decides.{eqb_tells}
use Rattle.std.proofs.lemmas.Bool.{and_parts, and_from, le-leb}
use Rattle.std.proofs.lemmas.Option.{slice_get_within}
use Rattle.std.proofs.lemmas.List.Elements.{filter-append}
use Rattle.std.proofs.lemmas.List.Folds.{list_all-append}
use Rattle.cp_list.specs.Lists.{IsPrefix}
use Rattle.cp_call.specs.declared.asked.Asked.TheVariants as asked
use Rattle.cp_call.specs.declared.call.Call.{Call}
use Rattle.cp_call.specs.declared.call.Reply.{Reply}
use Rattle.cp_call.specs.declared.call.Reply.TheVariants as reply
use Rattle.cp_call.specs.declared.call.Entry.{Entry}
use Rattle.cp_call.specs.declared.call.FullBy.{FullBy}
use Rattle.cp_call.specs.declared.item.Item.{Item}
use Rattle.cp_call.specs.declared.item.Item.TheVariants as item
use Rattle.cp_call.specs.declared.item.PutReply.{PutReply}
use Rattle.cp_call.specs.declared.item.RemoteCall.{RemoteCall}
use Rattle.cp_call.specs.declared.item.RemoteReply.{RemoteReply}
use Rattle.cp_call.specs.declared.outcome.Stand.{Stand}
use Rattle.cp_call.specs.declared.outcome.Stand.TheVariants as stand
use Rattle.cp_call.specs.declared.outcome.EngineEnd.{EngineEnd}
use Rattle.cp_call.specs.declared.outcome.PredEnd.{PredEnd}
use Rattle.cp_call.specs.declared.outcome.OutEntry.{OutEntry}
use Rattle.cp_call.specs.declared.outcome.Outcome.{Outcome}
use Rattle.cp_call.specs.Object.{State, step}
use Rattle.cp_call.specs.History.{MayFollow, state_after, Limit}
use Rattle.cp_call.specs.Asker.{IsFull, IsFullBy}
use Rattle.cp_call.specs.Life.{IsWorkersLife, IsRequest, pending_request}
use Rattle.cp_call.specs.Sound.{Object, Setup, own_entries, own_writes, entry_unless_full, Agrees, AgreeFrom, IsLife, IsTied, AreTied, IsKept, AreKept, Going, history_in, history_at, is_engine, has_callers, is_lane, has_failed, stays_failed}
use Rattle.cp_call.specs.Added.{HasAdded}
use Rattle.cp_call.specs.Progress.{with_event, with_entry, IsCalled, IsRefused, IsReplied, IsAnswered, GoesOn, GoesOnBy, Pick, new_engines, new_object, beginning}
use Rattle.cp_call.proofs.Growing.{append_nil, Legal-push, state_after-push, IsWorkersLife-push}
use Rattle.cp_call.proofs.Calmness.{Calm-state_after}
use Rattle.cp_call.proofs.Event.{Agrees-others}
use Rattle.cp_call.proofs.Adding.{IsPrefix_refl, Agrees-added, HasAdded-asked, HasAdded-wrote, HasAdded-silent}
use Rattle.cp_call.proofs.Parking.{entry_unless_full-step, step-not_full}
use Rattle.cp_call.proofs.Running.{stays_failed-push, IsLife-worker}

workers_life : (s : Setup) (stand : Stand) (items : List Item) → is_lane stand ≡ false → IsLife s stand items → IsWorkersLife s.rule items
workers_life s (stand.Parked object) items e life = life
workers_life s stand.Left items e life = absurd (let z : ⊥ = cc in z)

shift : (n k : ℕ) → (n + 1) + k ≡ n + suc k
shift n k = omega arith

-- the objects, where one of them has changed
AreKept-set : (os : List Object) (preds : List PredEnd) (p : ℕ) (o : Object) (pred : PredEnd) → slice_get os p ≡ Some o → IsKept o pred → AreKept os preds → AreKept os (slice_set preds p pred)
AreKept-set [] [] p o pred at kept all = tt
AreKept-set [] (x ∷ preds) p o pred at kept all = absurd all
AreKept-set (y ∷ os) [] p o pred at kept all = absurd all
AreKept-set (y ∷ os) (x ∷ preds) zero o pred at kept all = let e : y ≡ o = cc in (subst (λ z. IsKept z pred) (sym e) kept, all.1)
AreKept-set (y ∷ os) (x ∷ preds) (suc p) o pred at kept all = (all.0, AreKept-set os preds p o pred at kept all.1)

AreKept-at : (os : List Object) (preds : List PredEnd) (p : ℕ) (o : Object) (pred : PredEnd) → slice_get os p ≡ Some o → slice_get preds p ≡ Some pred → AreKept os preds → IsKept o pred
AreKept-at [] preds p o pred at there all = cc
AreKept-at (y ∷ os) [] p o pred at there all = cc
AreKept-at (y ∷ os) (x ∷ preds) zero o pred at there all = let e : y ≡ o = cc in let f : x ≡ pred = cc in subst (λ z. IsKept z pred) e (subst (IsKept y) f all.0)
AreKept-at (y ∷ os) (x ∷ preds) (suc p) o pred at there all = AreKept-at os preds p o pred at there all.1

-- one more entry that may follow keeps an object
IsKept-entry : (o : Object) (pred : PredEnd) (e : Entry) → IsKept o pred → MayFollow o.kind o.opening pred.history e → IsKept o (with_entry o pred e)
IsKept-entry o pred e k f =
    let now : State = (step (state_after o.kind o.opening pred.history) e.caller e.call).state in
    let same : state_after o.kind o.opening (pred.history ++ e ∷ []) ≡ now = state_after-push o.kind o.opening pred.history e in
    record {
      name = k.name;
      opening = k.opening;
      legal = Legal-push o.kind o.opening pred.history e k.legal f;
      facts = ap (λ (s : State). s.facts) (sym same);
      is_open = ap (λ (s : State). s.is_open) (sym same);
      parked = ap (λ (s : State). s.parked) (sym same);
      calm = Calm-state_after o.kind o.opening (pred.history ++ e ∷ []);
    }

-- the history of an object that has changed, and of another
history_at-set_same : (preds : List PredEnd) (p : ℕ) (old pred : PredEnd) → slice_get preds p ≡ Some old → history_at (slice_set preds p pred) p ≡ pred.history
history_at-set_same [] p old pred at = cc
history_at-set_same (x ∷ preds) zero old pred at = refl
history_at-set_same (x ∷ preds) (suc p) old pred at = history_at-set_same preds p old pred at

history_at-set_other : (preds : List PredEnd) (p q : ℕ) (pred : PredEnd) → p ≢ q → history_at (slice_set preds p pred) q ≡ history_at preds q
history_at-set_other [] p q pred d = refl
history_at-set_other (x ∷ preds) zero zero pred d = absurd (d refl)
history_at-set_other (x ∷ preds) zero (suc q) pred d = refl
history_at-set_other (x ∷ preds) (suc p) zero pred d = refl
history_at-set_other (x ∷ preds) (suc p) (suc q) pred d = history_at-set_other preds p q pred (λ e. d (ap suc e))

-- the engine at a place, and all engines where that one has changed
AreTied-at : (s : Setup) (preds : List PredEnd) (port : List OutEntry) (n k : ℕ) (engines : List EngineEnd) (e : EngineEnd) → slice_get engines k ≡ Some e → AreTied s preds port n engines → IsTied s preds port (n + k) e
AreTied-at s preds port n k [] e at all = cc
AreTied-at s preds port n zero (x ∷ engines) e at all = let same : x ≡ e = cc in let z : n ≡ n + 0 = omega arith in subst (λ m. IsTied s preds port m e) z (subst (IsTied s preds port n) same all.0)
AreTied-at s preds port n (suc k) (x ∷ engines) e at all = subst (λ m. IsTied s preds port m e) (shift n k) (AreTied-at s preds port (n + 1) k engines e at all.1)

-- What an event of engine m leaves of the others: their part of the histories, which may have grown, and of the port.
record LeavesOthers (preds preds_now : List PredEnd) (port port_now : List OutEntry) (m : ℕ) : Type 0 where
  grows : (q : ℕ) → IsPrefix (history_at preds q) (history_at preds_now q)
  own : (n q : ℕ) → n ≢ m → own_entries n (history_at preds_now q) ≡ own_entries n (history_at preds q)
  writes : (n : ℕ) → n ≢ m → own_writes n port_now ≡ own_writes n port

IsTied-others : (s : Setup) (preds preds_now : List PredEnd) (port port_now : List OutEntry) (m n : ℕ) (e : EngineEnd) → LeavesOthers preds preds_now port port_now m → n ≢ m → IsTied s preds port n e → IsTied s preds_now port_now n e
IsTied-others s preds preds_now port port_now m n e l d t = record {
  number = t.number;
  life = t.life;
  agrees = subst (λ w. Agrees s.objects (history_at preds_now) w n e.items) (sym (l.writes n d))
      (Agrees-others s.objects (history_at preds) (history_at preds_now) (own_writes n port) n e.items l.grows (λ q. l.own n q d) t.agrees);
}

AreTied-others : (s : Setup) (preds preds_now : List PredEnd) (port port_now : List OutEntry) (m n : ℕ) (engines : List EngineEnd) → LeavesOthers preds preds_now port port_now m → m < n → AreTied s preds port n engines → AreTied s preds_now port_now n engines
AreTied-others s preds preds_now port port_now m n [] l below all = tt
AreTied-others s preds preds_now port port_now m n (e ∷ engines) l below all = (
  IsTied-others s preds preds_now port port_now m n e l (let z : n ≢ m = omega arith in z) all.0,
  AreTied-others s preds preds_now port port_now m (n + 1) engines l (let z : m < n + 1 = omega arith in z) all.1,
)

AreTied-set : (s : Setup) (preds preds_now : List PredEnd) (port port_now : List OutEntry) (n k : ℕ) (engines : List EngineEnd) (e : EngineEnd)
    → LeavesOthers preds preds_now port port_now (n + k)
    → IsTied s preds_now port_now (n + k) e
    → AreTied s preds port n engines
    → AreTied s preds_now port_now n (slice_set engines k e)
AreTied-set s preds preds_now port port_now n k [] e l t all = tt
AreTied-set s preds preds_now port port_now n zero (x ∷ engines) e l t all =
    let z : n + 0 ≡ n = omega arith in (
      subst (λ m. IsTied s preds_now port_now m e) z t,
      AreTied-others s preds preds_now port port_now n (n + 1) engines (subst (LeavesOthers preds preds_now port port_now) z l) (let b : n < n + 1 = omega arith in b) all.1,
    )
AreTied-set s preds preds_now port port_now n (suc k) (x ∷ engines) e l t all =
    let z : n + suc k ≡ (n + 1) + k = sym (shift n k) in (
      IsTied-others s preds preds_now port port_now (n + suc k) n x l (let d : n ≢ n + suc k = omega arith in d) all.0,
      AreTied-set s preds preds_now port port_now (n + 1) k engines e (subst (LeavesOthers preds preds_now port port_now) z l) (subst (λ m. IsTied s preds_now port_now m e) z t) all.1,
    )

-- The engines of two parts that are numbered on are tied together.
pub AreTied-append : (s : Setup) (preds : List PredEnd) (port : List OutEntry) (n : ℕ) (xs ys : List EngineEnd)
    → AreTied s preds port n xs
    → AreTied s preds port (n + length xs) ys
    → AreTied s preds port n (xs ++ ys)
AreTied-append s preds port n [] ys a b = subst (λ m. AreTied s preds port m ys) (let z : n + 0 ≡ n = omega arith in z) b
AreTied-append s preds port n (x ∷ xs) ys a b =
    (a.0, AreTied-append s preds port (n + 1) xs ys a.1 (subst (λ m. AreTied s preds port m ys) (sym (shift n (length xs))) b))

length-set : {X : Type 0} (xs : List X) (k : ℕ) (x : X) → length (slice_set xs k x) ≡ length xs
length-set [] k x = refl
length-set (y ∷ xs) zero x = refl
length-set (y ∷ xs) (suc k) x = ap suc (length-set xs k x)

all-set : {X : Type 0} (f : X → Bool) (xs : List X) (k : ℕ) (x : X) → f x ≡ true → list_all f xs ≡ true → list_all f (slice_set xs k x) ≡ true
all-set f [] k x h all = refl
all-set f (y ∷ xs) zero x h all = and_from (f x) (list_all f xs) h (and_parts (f y) (list_all f xs) all).1
all-set f (y ∷ xs) (suc k) x h all = and_from (f y) (list_all f (slice_set xs k x)) (and_parts (f y) (list_all f xs) all).0 (all-set f xs k x h (and_parts (f y) (list_all f xs) all).1)

all-at : {X : Type 0} (f : X → Bool) (xs : List X) (k : ℕ) (x : X) → slice_get xs k ≡ Some x → list_all f xs ≡ true → f x ≡ true
all-at f [] k x at all = cc
all-at f (y ∷ xs) zero x at all = let e : y ≡ x = cc in subst (λ z. f z ≡ true) e (and_parts (f y) (list_all f xs) all).0
all-at f (y ∷ xs) (suc k) x at all = all-at f xs k x at (and_parts (f y) (list_all f xs) all).1

-- What an event of engine m makes of objects and port, and what of it the engine may tell.
record IsMove (s : Setup) (count : ℕ) (preds preds_now : List PredEnd) (port port_now : List OutEntry) (m : ℕ) (i : Item) : Type 0 where
  kept : AreKept s.objects preds_now
  others : LeavesOthers preds preds_now port port_now m
  added : HasAdded s.objects (history_at preds) (history_at preds_now) (own_writes m port) (own_writes m port_now) m (i ∷ [])
  callers : list_all (has_callers count) preds_now ≡ true
  writers : list_all (λ (w : OutEntry). is_engine count w.engine) port_now ≡ true
  failed : stays_failed port_now ≡ true

is_engine-place : (count k : ℕ) → k < count → is_engine count (k + 1) ≡ true
is_engine-place count k h = and_from (nat_le 1 (k + 1)) (nat_le (k + 1) count) (le-leb 1 (k + 1) (let z : 1 ≤ k + 1 = omega arith in z)) (le-leb (k + 1) count (let z : k + 1 ≤ count = omega arith in z))

-- the rest is as before, where an event has changed objects and port so
Going-move : (s : Setup) (before after : Outcome) (k : ℕ) (i : Item) (e : EngineEnd)
    → slice_get before.engines k ≡ Some e
    → is_lane e.stand ≡ false
    → IsRequest (pending_request s.rule e.items) i
    → after.engines ≡ slice_set before.engines k (with_event e i)
    → IsMove s (length before.engines) before.preds after.preds before.port after.port (k + 1) i
    → Going s before
    → Going s after
Going-move s before after k i e at worker due engines m g = record {
  objects = m.kept;
  tied = record {
    engines = subst (AreTied s after.preds after.port 1) (sym engines)
        (AreTied-set s before.preds after.preds before.port after.port 1 k before.engines (with_event e i)
        (subst (LeavesOthers before.preds after.preds before.port after.port) place m.others)
        (subst (λ n. IsTied s after.preds after.port n (with_event e i)) place now)
        g.tied.engines);
    callers = subst (λ n. list_all (has_callers n) after.preds ≡ true) (sym same_count) m.callers;
    writers = subst (λ n. list_all (λ (w : OutEntry). is_engine n w.engine) after.port ≡ true) (sym same_count) m.writers;
    failed = m.failed;
  };
}
  where
    place : k + 1 ≡ 1 + k
    place = omega arith

    same_count : length after.engines ≡ length before.engines
    same_count = ap length engines ∙ length-set before.engines k (with_event e i)

    was : IsTied s before.preds before.port (k + 1) e
    was = subst (λ n. IsTied s before.preds before.port n e) (sym place) (AreTied-at s before.preds before.port 1 k before.engines e at g.tied.engines)

    now : IsTied s after.preds after.port (k + 1) (with_event e i)
    now = record {
      number = was.number;
      life = IsLife-worker s e.stand (e.items ++ i ∷ []) worker (IsWorkersLife-push s.rule e.items i (workers_life s e.stand e.items worker was.life) due);
      agrees = Agrees-added s.objects (history_at before.preds) (history_at after.preds) (own_writes (k + 1) before.port) (own_writes (k + 1) after.port) (k + 1) e.items (i ∷ []) was.agrees m.added;
    }

-- an object's call that another caller has made is not one's own
own_entries-other : (n m : ℕ) (history : List Entry) (c : Call) (r : Reply) → n ≢ m → own_entries n (history ++ record { caller = m; call = c; reply = r } ∷ []) ≡ own_entries n history
own_entries-other n m history c r d = filter-append (λ (e : Entry). e.caller == n) history (record { caller = m; call = c; reply = r } ∷ []) ∙ elim (eqb_tells m n) [
  | inl same ↦ absurd (d (sym same.1))
  | inr other ↦ rw other.0 (append_nil (own_entries n history))
]

own_entries-same : (m : ℕ) (history : List Entry) (c : Call) (r : Reply) → own_entries m (history ++ record { caller = m; call = c; reply = r } ∷ []) ≡ own_entries m history ++ record { caller = m; call = c; reply = r } ∷ []
own_entries-same m history c r = filter-append (λ (e : Entry). e.caller == m) history (record { caller = m; call = c; reply = r } ∷ []) ∙ elim (eqb_tells m m) [
  | inl same ↦ rw same.0 refl
  | inr other ↦ absurd (other.1 refl)
]

own_writes-other : (n : ℕ) (port : List OutEntry) (w : OutEntry) → n ≢ w.engine → own_writes n (port ++ w ∷ []) ≡ own_writes n port
own_writes-other n port w d = filter-append (λ (x : OutEntry). x.engine == n) port (w ∷ []) ∙ elim (eqb_tells w.engine n) [
  | inl same ↦ absurd (d (sym same.1))
  | inr other ↦ rw other.0 (append_nil (own_writes n port))
]

own_writes-same : (port : List OutEntry) (w : OutEntry) → own_writes w.engine (port ++ w ∷ []) ≡ own_writes w.engine port ++ w ∷ []
own_writes-same port w = filter-append (λ (x : OutEntry). x.engine == w.engine) port (w ∷ []) ∙ elim (eqb_tells w.engine w.engine) [
  | inl same ↦ rw same.0 refl
  | inr other ↦ absurd (other.1 refl)
]

-- a reply that is no refusal needs no limit
no_refusal : (o : Object) (seen : List Entry) (n : ℕ) (c : Call) (r : Reply) → ((by : FullBy) (count : ℕ) → r ≡ reply.Full by count → ⊥) → IsFullBy (Some o) seen n c (asked.Replied r)
no_refusal o seen n c (reply.Full by count) h = absurd (h by count refl)
no_refusal o seen n c (reply.Added place woken) h = tt
no_refusal o seen n c (reply.Found place fact) h = tt
no_refusal o seen n c reply.NoMore h = tt
no_refusal o seen n c reply.Parked h = tt
no_refusal o seen n c (reply.Purged count) h = tt
no_refusal o seen n c (reply.Replaced place woken) h = tt
no_refusal o seen n c (reply.Closed woken) h = tt
no_refusal o seen n c reply.Reopened h = tt
no_refusal o seen n c reply.Left h = tt
no_refusal o seen n c reply.NotParked h = tt

-- what stays where no object has changed
LeavesOthers-port : (preds : List PredEnd) (port port_now : List OutEntry) (m : ℕ) → ((n : ℕ) → n ≢ m → own_writes n port_now ≡ own_writes n port) → LeavesOthers preds preds port port_now m
LeavesOthers-port preds port port_now m h = record { grows = λ q. IsPrefix_refl (history_at preds q); own = λ n q d. refl; writes = h }

-- An object was called and replied.
IsMove-called : (s : Setup) (count : ℕ) (preds : List PredEnd) (port : List OutEntry) (m p : ℕ) (c : Call) (r : Reply) (o : Object) (pred : PredEnd)
    → slice_get s.objects p ≡ Some o
    → slice_get preds p ≡ Some pred
    → MayFollow o.kind o.opening pred.history (record { caller = m; call = c; reply = r })
    → is_engine count m ≡ true
    → AreKept s.objects preds
    → list_all (has_callers count) preds ≡ true
    → list_all (λ (w : OutEntry). is_engine count w.engine) port ≡ true
    → stays_failed port ≡ true
    → IsMove s count preds (slice_set preds p (with_entry o pred (record { caller = m; call = c; reply = r }))) port port m (item.Asked p c r)
IsMove-called s count preds port m p c r o pred o_at pred_at follows engine kept callers writers failed = record {
  kept = AreKept-set s.objects preds p o now o_at (IsKept-entry o pred e (AreKept-at s.objects preds p o pred o_at pred_at kept) follows) kept;
  others = record { grows = grows; own = own; writes = λ n d. refl };
  added = HasAdded-asked s.objects (history_at preds) (history_at preds_now) (own_writes m port) m p c r (slice_get_within s.objects p o o_at) grows mine others
      (subst (λ x. IsFullBy x (history_at preds_now p) m c (asked.Replied r)) (sym o_at) (no_refusal o (history_at preds_now p) m c r not_full));
  callers = all-set (has_callers count) preds p now
      (list_all-append (λ (x : Entry). is_engine count x.caller) pred.history (e ∷ [])
      ∙ and_from (list_all (λ (x : Entry). is_engine count x.caller) pred.history) (is_engine count m && true) (all-at (has_callers count) preds p pred pred_at callers) (and_from (is_engine count m) true engine refl))
      callers;
  writers = writers;
  failed = failed;
}
  where
    e : Entry
    e = record { caller = m; call = c; reply = r }

    now : PredEnd
    now = with_entry o pred e

    preds_now : List PredEnd
    preds_now = slice_set preds p now

    was_here : history_at preds p ≡ pred.history
    was_here = ap history_in pred_at

    here : history_at preds_now p ≡ pred.history ++ e ∷ []
    here = history_at-set_same preds p pred now pred_at

    elsewhere : (q : ℕ) → p ≢ q → history_at preds_now q ≡ history_at preds q
    elsewhere q d = history_at-set_other preds p q now d

    grows : (q : ℕ) → IsPrefix (history_at preds q) (history_at preds_now q)
    grows q = elim (eqb_tells p q) [
      | inl same ↦ subst (λ x. IsPrefix (history_at preds x) (history_at preds_now x)) same.1 (e ∷ [], here ∙ ap (λ h. h ++ e ∷ []) (sym was_here))
      | inr other ↦ subst (λ h. IsPrefix (history_at preds q) h) (sym (elsewhere q other.1)) (IsPrefix_refl (history_at preds q))
    ]

    own : (n q : ℕ) → n ≢ m → own_entries n (history_at preds_now q) ≡ own_entries n (history_at preds q)
    own n q d = elim (eqb_tells p q) [
      | inl same ↦ subst (λ x. own_entries n (history_at preds_now x) ≡ own_entries n (history_at preds x)) same.1
          (ap (own_entries n) here ∙ (own_entries-other n m pred.history c r d ∙ ap (own_entries n) (sym was_here)))
      | inr other ↦ ap (own_entries n) (elsewhere q other.1)
    ]

    not_full : (by : FullBy) (count' : ℕ) → r ≡ reply.Full by count' → ⊥
    not_full by count' h = step-not_full (state_after o.kind o.opening pred.history) m c by count' (sym follows.replied ∙ h)

    entry : entry_unless_full m c r [] ≡ e ∷ []
    entry = subst (λ x. entry_unless_full m c x [] ≡ record { caller = m; call = c; reply = x } ∷ []) (sym follows.replied) (entry_unless_full-step m c (state_after o.kind o.opening pred.history) m c)

    mine : own_entries m (history_at preds_now p) ≡ own_entries m (history_at preds p) ++ entry_unless_full m c r []
    mine = ap (own_entries m) here ∙ (own_entries-same m pred.history c r ∙ (ap (λ h. own_entries m h ++ e ∷ []) (sym was_here) ∙ ap (λ x. own_entries m (history_at preds p) ++ x) (sym entry)))

    others : (q : ℕ) → p ≢ q → own_entries m (history_at preds_now q) ≡ own_entries m (history_at preds q)
    others q d = ap (own_entries m) (elsewhere q d)

-- A call was refused for want of room.
IsMove-refused : (s : Setup) (count : ℕ) (preds : List PredEnd) (port : List OutEntry) (m p : ℕ) (c : Call) (limit : Limit) (o : Object) (pred : PredEnd)
    → slice_get s.objects p ≡ Some o
    → slice_get preds p ≡ Some pred
    → IsFull o pred.history m c limit
    → AreKept s.objects preds
    → list_all (has_callers count) preds ≡ true
    → list_all (λ (w : OutEntry). is_engine count w.engine) port ≡ true
    → stays_failed port ≡ true
    → IsMove s count preds preds port port m (item.Asked p c (reply.Full limit.by limit.count))
IsMove-refused s count preds port m p c limit o pred o_at pred_at full kept callers writers failed = record {
  kept = kept;
  others = LeavesOthers-port preds port port m (λ n d. refl);
  added = HasAdded-asked s.objects (history_at preds) (history_at preds) (own_writes m port) m p c (reply.Full limit.by limit.count) (slice_get_within s.objects p o o_at)
      (λ q. IsPrefix_refl (history_at preds q)) (sym (append_nil (own_entries m (history_at preds p)))) (λ q d. refl)
      (subst (λ x. IsFullBy x (history_at preds p) m c (asked.Replied (reply.Full limit.by limit.count))) (sym o_at)
      (subst (λ h. IsFull o h m c limit) (sym (ap history_in pred_at)) full));
  callers = callers;
  writers = writers;
  failed = failed;
}

-- The port was written on.
IsMove-written : (s : Setup) (count : ℕ) (preds : List PredEnd) (port : List OutEntry) (m : ℕ) (bytes : List ℕ) (r : PutReply)
    → (list_any has_failed port ≡ true → has_failed (record { engine = m; bytes = bytes; reply = r }) ≡ true)
    → is_engine count m ≡ true
    → AreKept s.objects preds
    → list_all (has_callers count) preds ≡ true
    → list_all (λ (w : OutEntry). is_engine count w.engine) port ≡ true
    → stays_failed port ≡ true
    → IsMove s count preds preds port (port ++ record { engine = m; bytes = bytes; reply = r } ∷ []) m (item.Wrote bytes r)
IsMove-written s count preds port m bytes r fails engine kept callers writers failed =
    let w : OutEntry = record { engine = m; bytes = bytes; reply = r } in
    record {
      kept = kept;
      others = LeavesOthers-port preds port (port ++ w ∷ []) m (λ n d. own_writes-other n port w d);
      added = subst (λ x. HasAdded s.objects (history_at preds) (history_at preds) (own_writes m port) x m (item.Wrote bytes r ∷ [])) (sym (own_writes-same port w))
          (HasAdded-wrote s.objects (history_at preds) (own_writes m port) m bytes r);
      callers = callers;
      writers = list_all-append (λ (x : OutEntry). is_engine count x.engine) port (w ∷ [])
          ∙ and_from (list_all (λ (x : OutEntry). is_engine count x.engine) port) (is_engine count m && true) writers (and_from (is_engine count m) true engine refl);
      failed = stays_failed-push port w failed fails;
    }

-- Neither object nor port has changed.
IsMove-elsewhere : (s : Setup) (count : ℕ) (preds : List PredEnd) (port : List OutEntry) (m : ℕ) (c : RemoteCall) (r : RemoteReply)
    → AreKept s.objects preds
    → list_all (has_callers count) preds ≡ true
    → list_all (λ (w : OutEntry). is_engine count w.engine) port ≡ true
    → stays_failed port ≡ true
    → IsMove s count preds preds port port m (item.Remote c r)
IsMove-elsewhere s count preds port m c r kept callers writers failed = record {
  kept = kept;
  others = LeavesOthers-port preds port port m (λ n d. refl);
  added = HasAdded-silent s.objects (history_at preds) (own_writes m port) m (item.Remote c r) refl;
  callers = callers;
  writers = writers;
  failed = failed;
}

-- what an event makes of objects and port, by what it is
IsMove-replied : (s : Setup) (before after : Outcome) (m p : ℕ) (c : Call) (r : Reply) → is_engine (length before.engines) m ≡ true → Going s before → IsReplied s before m p c r after → IsMove s (length before.engines) before.preds after.preds before.port after.port m (item.Asked p c r)
IsMove-replied s before after m p c r engine g a = by_reply r a
  where
    called : (r : Reply) → IsCalled s before m p c r after → IsMove s (length before.engines) before.preds after.preds before.port after.port m (item.Asked p c r)
    called r a =
        subst (λ x. IsMove s (length before.engines) before.preds x before.port after.port m (item.Asked p c r)) (sym a.preds)
        (subst (λ x. IsMove s (length before.engines) before.preds (slice_set before.preds p (with_entry a.object a.pred (record { caller = m; call = c; reply = r }))) before.port x m (item.Asked p c r)) (sym a.port)
        (IsMove-called s (length before.engines) before.preds before.port m p c r a.object a.pred a.object_at a.pred_at a.follows engine g.objects g.tied.callers g.tied.writers g.tied.failed))

    refused : (limit : Limit) → IsRefused s before m p c limit after → IsMove s (length before.engines) before.preds after.preds before.port after.port m (item.Asked p c (reply.Full limit.by limit.count))
    refused limit a =
        subst (λ x. IsMove s (length before.engines) before.preds x before.port after.port m (item.Asked p c (reply.Full limit.by limit.count))) (sym a.preds)
        (subst (λ x. IsMove s (length before.engines) before.preds before.preds before.port x m (item.Asked p c (reply.Full limit.by limit.count))) (sym a.port)
        (IsMove-refused s (length before.engines) before.preds before.port m p c limit a.object a.pred a.object_at a.pred_at a.full g.objects g.tied.callers g.tied.writers g.tied.failed))

    by_reply : (r : Reply) → IsReplied s before m p c r after → IsMove s (length before.engines) before.preds after.preds before.port after.port m (item.Asked p c r)
    by_reply (reply.Full by count) a = refused (record { by = by; count = count }) a
    by_reply (reply.Added place woken) a = called (reply.Added place woken) a
    by_reply (reply.Found place fact) a = called (reply.Found place fact) a
    by_reply reply.NoMore a = called reply.NoMore a
    by_reply reply.Parked a = called reply.Parked a
    by_reply (reply.Purged count) a = called (reply.Purged count) a
    by_reply (reply.Replaced place woken) a = called (reply.Replaced place woken) a
    by_reply (reply.Closed woken) a = called (reply.Closed woken) a
    by_reply reply.Reopened a = called reply.Reopened a
    by_reply reply.Left a = called reply.Left a
    by_reply reply.NotParked a = called reply.NotParked a

IsMove-answered : (s : Setup) (before after : Outcome) (m : ℕ) (i : Item) → is_engine (length before.engines) m ≡ true → Going s before → IsAnswered s before m i after → IsMove s (length before.engines) before.preds after.preds before.port after.port m i
IsMove-answered s before after m (item.Asked p c r) engine g a = IsMove-replied s before after m p c r engine g a
IsMove-answered s before after m (item.Wrote bytes r) engine g a =
    subst (λ x. IsMove s (length before.engines) before.preds x before.port after.port m (item.Wrote bytes r)) (sym a.preds)
    (subst (λ x. IsMove s (length before.engines) before.preds before.preds before.port x m (item.Wrote bytes r)) (sym a.port)
    (IsMove-written s (length before.engines) before.preds before.port m bytes r a.failed engine g.objects g.tied.callers g.tied.writers g.tied.failed))
IsMove-answered s before after m (item.Remote c r) engine g a =
    subst (λ x. IsMove s (length before.engines) before.preds x before.port after.port m (item.Remote c r)) (sym a.preds)
    (subst (λ x. IsMove s (length before.engines) before.preds before.preds before.port x m (item.Remote c r)) (sym a.port)
    (IsMove-elsewhere s (length before.engines) before.preds before.port m c r g.objects g.tied.callers g.tied.writers g.tied.failed))
IsMove-answered s before after m (item.Given c) engine g a = absurd a
IsMove-answered s before after m (item.Answered r) engine g a = absurd a

-- One event of a worker keeps all that holds of a run at every moment.
pub Going-event : (s : Setup) (before : Outcome) (k : ℕ) (i : Item) (after : Outcome) → Going s before → GoesOn s before k i after → Going s after
Going-event s before k i after g e =
    Going-move s before after k i e.engine e.engine_at e.worker e.due e.engines
    (IsMove-answered s before after (k + 1) i (is_engine-place (length before.engines) k (slice_get_within before.engines k e.engine e.engine_at)) g e.answered) g

-- A list of events keeps it too, whichever worker each of them is of.
pub Going-events : (s : Setup) (before : Outcome) (picks : List Pick) (after : Outcome) → Going s before → GoesOnBy s before picks after → Going s after
Going-events s before [] after g e = subst (Going s) e g
Going-events s before (p ∷ picks) after g e = Going-events s e.0 picks after (Going-event s before p.place p.event e.0 g e.1.0) e.1.1

AreKept-new : (os : List Object) → AreKept os (map new_object os)
AreKept-new [] = tt
AreKept-new (o ∷ os) = (record { name = refl; opening = refl; legal = tt; facts = refl; is_open = refl; parked = refl; calm = Calm-state_after o.kind o.opening [] }, AreKept-new os)

history_at-new : (os : List Object) (p : ℕ) → history_at (map new_object os) p ≡ []
history_at-new [] p = refl
history_at-new (o ∷ os) zero = refl
history_at-new (o ∷ os) (suc p) = history_at-new os p

AgreeFrom-new : (p : ℕ) (os : List Object) (history : ℕ → List Entry) (n : ℕ) → ((q : ℕ) → history q ≡ []) → AgreeFrom p os history n []
AgreeFrom-new p [] history n none = tt
AgreeFrom-new p (o ∷ os) history n none = (record { entries = ap (own_entries n) (none p); refusals = tt }, AgreeFrom-new (p + 1) os history n none)

AreTied-new : (s : Setup) (n count : ℕ) → AreTied s (map new_object s.objects) [] n (new_engines n count)
AreTied-new s n zero = tt
AreTied-new s n (suc count) = (
  record {
    number = refl;
    life = tt;
    agrees = record { known = refl; asked = AgreeFrom-new 0 s.objects (history_at (map new_object s.objects)) n (history_at-new s.objects); wrote = refl };
  },
  AreTied-new s (n + 1) count,
)

callers-new : (count : ℕ) (os : List Object) → list_all (has_callers count) (map new_object os) ≡ true
callers-new count [] = refl
callers-new count (o ∷ os) = callers-new count os

-- A run that begins is going.
pub Going-beginning : (s : Setup) (steps workers : ℕ) → Going s (beginning s steps workers)
Going-beginning s steps workers = record {
  objects = AreKept-new s.objects;
  tied = record { engines = AreTied-new s 1 workers; callers = callers-new (length (new_engines 1 workers)) s.objects; writers = refl; failed = refl };
}
