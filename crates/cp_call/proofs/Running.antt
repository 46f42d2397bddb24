-- The workers of a run while it goes on: each event keeps what holds of all of them, and at the end they are tied to the run.
use Rattle.std.proofs.Common.{◌≡◌, ◌≢◌, inl, inr, ℕ, zero, suc, ◌+◌, ◌<◌, ◌==◌, List, [], ◌∷◌, ◌++◌, length, refl, sym, ◌∙◌, ap, subst, true, false, Bool, ◌&&◌, ◌||◌, arith, Some}
use Rattle.std.specs.Prelude.{slice_get, slice_set, replicate}
use Rattle.std.specs.List.{list_all, list_any}
use Rattle.std.proofs.lemmas.Bool.Decides.{eqb_tells}
use Rattle.std.proofs.lemmas.Bool.{and_from}
use Rattle.std.proofs.lemmas.Option.{slice_get_within}
use Rattle.std.proofs.lemmas.List.Elements.{filter-append}
use Rattle.std.proofs.lemmas.List.Folds.{list_all-append}
use Rattle.cp_list.specs.Lists.{IsPrefix}
use Rattle.cp_call.specs.declared.asked.Asked.TheVariants as asked
use Rattle.cp_call.specs.declared.call.Call.{Call}
use Rattle.cp_call.specs.declared.call.Reply.{Reply}
use Rattle.cp_call.specs.declared.call.Entry.{Entry}
use Rattle.cp_call.specs.declared.item.Next.TheVariants as next
use Rattle.cp_call.specs.declared.item.Item.{Item}
use Rattle.cp_call.specs.declared.item.Item.TheVariants as item
use Rattle.cp_call.specs.declared.item.PutReply.{PutReply}
use Rattle.cp_call.specs.declared.item.PutReply.TheVariants as put
use Rattle.cp_call.specs.declared.item.RemoteCall.{RemoteCall}
use Rattle.cp_call.specs.declared.item.RemoteReply.{RemoteReply}
use Rattle.cp_call.specs.declared.outcome.Stand.{Stand}
use Rattle.cp_call.specs.declared.outcome.Stand.TheVariants as stand
use Rattle.cp_call.specs.declared.outcome.EngineEnd.{EngineEnd}
use Rattle.cp_call.specs.declared.outcome.PredEnd.{PredEnd}
use Rattle.cp_call.specs.declared.outcome.OutEntry.{OutEntry}
use Rattle.cp_call.specs.Asker.{entry_added, IsFullBy}
use Rattle.cp_call.specs.Life.{Rule, IsWorkersLife, pending_request}
use Rattle.cp_call.specs.Sound.{Object, Setup, own_entries, own_writes, Agrees, AgreeFrom, IsLife, AreTied, history_at, is_engine, is_lane, has_failed, stays_failed}
use Rattle.cp_call.specs.Added.{HasAdded, AsksForOne, WritesForOne}
use Rattle.cp_call.specs.Running.{IsRunning, AreRunning, AreWorkerEnds}
use Rattle.cp_call.proofs.Growing.{IsWorkersLife-push}
use Rattle.cp_call.proofs.Event.{Agrees-others}
use Rattle.cp_call.proofs.Adding.{Agrees-added, HasAdded-asked, HasAdded-wrote, HasAdded-silent}
use Rattle.cp_call.proofs.Resting.{own_head}

-- Events that a call has added for the engine, and that go on its life, keep it running.
pub IsRunning-added : (rule : Rule) (os : List Object) (seen now : ℕ → List Entry) (wrote wrote_now : List OutEntry) (n : ℕ) (items added : List Item)
    → IsRunning rule os seen wrote n items
    → HasAdded os seen now wrote wrote_now n added
    → IsWorkersLife rule (items ++ added)
    → IsRunning rule os now wrote_now n (items ++ added)
IsRunning-added rule os seen now wrote wrote_now n items added r h life = record {
  life = life;
  agrees = Agrees-added os seen now wrote wrote_now n items added r.agrees h;
}

-- The engine's call was replied.
pub IsRunning-asked : (rule : Rule) (os : List Object) (seen now : ℕ → List Entry) (wrote : List OutEntry) (n : ℕ) (items : List Item) (p : ℕ) (c : Call) (r : Reply)
    → IsRunning rule os seen wrote n items
    → pending_request rule items ≡ next.Ask p c
    → p < length os
    → ((q : ℕ) → IsPrefix (seen q) (now q))
    → own_entries n (now p) ≡ own_entries n (seen p) ++ entry_added n c (asked.Replied r)
    → ((q : ℕ) → p ≢ q → own_entries n (now q) ≡ own_entries n (seen q))
    → IsFullBy (slice_get os p) (now p) n c (asked.Replied r)
    → IsRunning rule os now wrote n (items ++ item.Asked p c r ∷ [])
IsRunning-asked rule os seen now wrote n items p c r run pending inside grows mine others full =
    IsRunning-added rule os seen now wrote wrote n items (item.Asked p c r ∷ []) run
    (HasAdded-asked os seen now wrote n p c r inside grows mine others full)
    (IsWorkersLife-push rule items (item.Asked p c r) run.life pending)

-- The engine's write was answered.
pub IsRunning-wrote : (rule : Rule) (os : List Object) (seen : ℕ → List Entry) (wrote : List OutEntry) (n : ℕ) (items : List Item) (bytes : List ℕ) (r : PutReply)
    → IsRunning rule os seen wrote n items
    → pending_request rule items ≡ next.Put bytes
    → IsRunning rule os seen (wrote ++ record { engine = n; bytes = bytes; reply = r } ∷ []) n (items ++ item.Wrote bytes r ∷ [])
IsRunning-wrote rule os seen wrote n items bytes r run pending =
    IsRunning-added rule os seen seen wrote (wrote ++ record { engine = n; bytes = bytes; reply = r } ∷ []) n items (item.Wrote bytes r ∷ []) run
    (HasAdded-wrote os seen wrote n bytes r)
    (IsWorkersLife-push rule items (item.Wrote bytes r) run.life pending)

-- The engine's remote call was replied.
pub IsRunning-remote : (rule : Rule) (os : List Object) (seen : ℕ → List Entry) (wrote : List OutEntry) (n : ℕ) (items : List Item) (c : RemoteCall) (r : RemoteReply)
    → IsRunning rule os seen wrote n items
    → pending_request rule items ≡ next.Remote c
    → IsRunning rule os seen wrote n (items ++ item.Remote c r ∷ [])
IsRunning-remote rule os seen wrote n items c r run pending =
    IsRunning-added rule os seen seen wrote wrote n items (item.Remote c r ∷ []) run
    (HasAdded-silent os seen wrote n (item.Remote c r) refl)
    (IsWorkersLife-push rule items (item.Remote c r) run.life pending)

-- Events of others keep it running.
pub IsRunning-others : (rule : Rule) (os : List Object) (seen now : ℕ → List Entry) (wrote wrote_now : List OutEntry) (n : ℕ) (items : List Item)
    → IsRunning rule os seen wrote n items
    → ((q : ℕ) → IsPrefix (seen q) (now q))
    → ((q : ℕ) → own_entries n (now q) ≡ own_entries n (seen q))
    → wrote_now ≡ wrote
    → IsRunning rule os now wrote_now n items
IsRunning-others rule os seen now wrote wrote_now n items run grows own same = record {
  life = run.life;
  agrees = subst (λ w. Agrees os now w n items) (sym same) (Agrees-others os seen now wrote n items grows own run.agrees);
}

AgreeFrom-none : (p : ℕ) (os : List Object) (seen : ℕ → List Entry) (n : ℕ) → ((q : ℕ) → own_entries n (seen q) ≡ []) → AgreeFrom p os seen n []
AgreeFrom-none p [] seen n none = tt
AgreeFrom-none p (o ∷ os) seen n none = (record { entries = none p; refusals = tt }, AgreeFrom-none (p + 1) os seen n none)

-- Workers that have done nothing yet are running.
pub AreRunning-new : (rule : Rule) (os : List Object) (seen : ℕ → ℕ → List Entry) (wrote : ℕ → List OutEntry) (n count : ℕ)
    → ((m p : ℕ) → own_entries m (seen m p) ≡ [])
    → ((m : ℕ) → wrote m ≡ [])
    → AreRunning rule os seen wrote n (replicate count [])
AreRunning-new rule os seen wrote n zero none unwritten = tt
AreRunning-new rule os seen wrote n (suc count) none unwritten = (
  record { life = tt; agrees = record { known = refl; asked = AgreeFrom-none 0 os (seen n) n (none n); wrote = unwritten n } },
  AreRunning-new rule os seen wrote (n + 1) count none unwritten,
)

shift : (n k : ℕ) → (n + 1) + k ≡ n + suc k
shift n k = omega arith

-- every engine numbered from n on is another than this one
AreRunning-others : (rule : Rule) (os : List Object) (seen now : ℕ → ℕ → List Entry) (wrote wrote_now : ℕ → List OutEntry) (n m : ℕ) (engines : List (List Item))
    → m < n
    → ((k q : ℕ) → k ≢ m → IsPrefix (seen k q) (now k q))
    → ((k q : ℕ) → k ≢ m → own_entries k (now k q) ≡ own_entries k (seen k q))
    → ((k : ℕ) → k ≢ m → wrote_now k ≡ wrote k)
    → AreRunning rule os seen wrote n engines
    → AreRunning rule os now wrote_now n engines
AreRunning-others rule os seen now wrote wrote_now n m [] below grows own same run = tt
AreRunning-others rule os seen now wrote wrote_now n m (items ∷ engines) below grows own same run =
    let other : n ≢ m = omega arith in (
      IsRunning-others rule os (seen n) (now n) (wrote n) (wrote_now n) n items run.0 (λ q. grows n q other) (λ q. own n q other) (same n other),
      AreRunning-others rule os seen now wrote wrote_now (n + 1) m engines (let z : m < n + 1 = omega arith in z) grows own same run.1,
    )

-- One engine has gone on, and nothing of the others has changed: all of them run on.
pub AreRunning-one : (rule : Rule) (os : List Object) (seen now : ℕ → ℕ → List Entry) (wrote wrote_now : ℕ → List OutEntry) (n k : ℕ) (engines : List (List Item)) (items : List Item)
    → k < length engines
    → IsRunning rule os (now (n + k)) (wrote_now (n + k)) (n + k) items
    → ((m q : ℕ) → m ≢ n + k → IsPrefix (seen m q) (now m q))
    → ((m q : ℕ) → m ≢ n + k → own_entries m (now m q) ≡ own_entries m (seen m q))
    → ((m : ℕ) → m ≢ n + k → wrote_now m ≡ wrote m)
    → AreRunning rule os seen wrote n engines
    → AreRunning rule os now wrote_now n (slice_set engines k items)
AreRunning-one rule os seen now wrote wrote_now n k [] items inside here grows own same run = tt
AreRunning-one rule os seen now wrote wrote_now n zero (old ∷ engines) items inside here grows own same run =
    let e : n + 0 ≡ n = omega arith in (
      subst (λ m. IsRunning rule os (now m) (wrote_now m) m items) e here,
      AreRunning-others rule os seen now wrote wrote_now (n + 1) n engines (let z : n < n + 1 = omega arith in z)
          (λ m q d. grows m q (subst (λ x. m ≢ x) (sym e) d)) (λ m q d. own m q (subst (λ x. m ≢ x) (sym e) d)) (λ m d. same m (subst (λ x. m ≢ x) (sym e) d)) run.1,
    )
AreRunning-one rule os seen now wrote wrote_now n (suc k) (old ∷ engines) items inside here grows own same run =
    let other : n ≢ n + suc k = omega arith in
    let e : (n + 1) + k ≡ n + suc k = shift n k in (
      IsRunning-others rule os (seen n) (now n) (wrote n) (wrote_now n) n old run.0 (λ q. grows n q other) (λ q. own n q other) (same n other),
      AreRunning-one rule os seen now wrote wrote_now (n + 1) k engines items (let z : k < length engines = omega arith in z)
          (subst (λ m. IsRunning rule os (now m) (wrote_now m) m items) (sym e) here)
          (λ m q d. grows m q (subst (λ x. m ≢ x) e d)) (λ m q d. own m q (subst (λ x. m ≢ x) e d)) (λ m d. same m (subst (λ x. m ≢ x) e d)) run.1,
    )

running_at : (rule : Rule) (os : List Object) (seen : ℕ → ℕ → List Entry) (wrote : ℕ → List OutEntry) (n k : ℕ) (engines : List (List Item)) (items : List Item)
    → slice_get engines k ≡ Some items
    → AreRunning rule os seen wrote n engines
    → IsRunning rule os (seen (n + k)) (wrote (n + k)) (n + k) items
running_at rule os seen wrote n k [] items at run = cc
running_at rule os seen wrote n zero (x ∷ engines) items at run =
    let same : x ≡ items = cc in
    let z : n ≡ n + 0 = omega arith in
    subst (λ m. IsRunning rule os (seen m) (wrote m) m items) z (subst (IsRunning rule os (seen n) (wrote n) n) same run.0)
running_at rule os seen wrote n (suc k) (x ∷ engines) items at run =
    subst (λ m. IsRunning rule os (seen m) (wrote m) m items) (shift n k) (running_at rule os seen wrote (n + 1) k engines items at run.1)

-- A call has worked for the engine at place k, and has added events to it that go on its life: all engines run on.
pub AreRunning-added : (rule : Rule) (os os_now : List Object) (serves serves_now : ℕ → Bool) (seen now : ℕ → ℕ → List Entry) (looked looked_now : ℕ → ℕ → ℕ) (writes writes_now : ℕ → Bool) (wrote wrote_now : ℕ → List OutEntry) (n k : ℕ) (engines : List (List Item)) (items added : List Item)
    → AreRunning rule os seen wrote n engines
    → slice_get engines k ≡ Some items
    → HasAdded os (seen (n + k)) (now (n + k)) (wrote (n + k)) (wrote_now (n + k)) (n + k) added
    → IsWorkersLife rule (items ++ added)
    → AsksForOne (n + k) os os_now serves serves_now seen now looked looked_now
    → WritesForOne (n + k) writes writes_now wrote wrote_now
    → AreRunning rule os now wrote_now n (slice_set engines k (items ++ added))
AreRunning-added rule os os_now serves serves_now seen now looked looked_now writes writes_now wrote wrote_now n k engines items added run at h life asks puts =
    AreRunning-one rule os seen now wrote wrote_now n k engines (items ++ added) (slice_get_within engines k items at)
    (IsRunning-added rule os (seen (n + k)) (now (n + k)) (wrote (n + k)) (wrote_now (n + k)) (n + k) items added (running_at rule os seen wrote n k engines items at run) h life)
    (λ m q d. asks.seen_grows m q) (λ m q d. asks.own_stay m q d) (λ m d. puts.wrote_stays m d) run

pub IsLife-worker : (s : Setup) (stand : Stand) (items : List Item) → is_lane stand ≡ false → IsWorkersLife s.rule items → IsLife s stand items
IsLife-worker s (stand.Parked object) items e life = life
IsLife-worker s stand.Left items e life = absurd (let z : ⊥ = cc in z)

-- At the end the workers are tied to the run, where the histories are what was seen last, with nothing of the workers' own
-- behind it, and the port is what was written.
pub AreTied-running : (s : Setup) (preds : List PredEnd) (port : List OutEntry) (seen : ℕ → ℕ → List Entry) (wrote : ℕ → List OutEntry) (n : ℕ) (lives : List (List Item)) (engines : List EngineEnd)
    → AreRunning s.rule s.objects seen wrote n lives
    → AreWorkerEnds n lives engines
    → ((m q : ℕ) → IsPrefix (seen m q) (history_at preds q))
    → ((m q : ℕ) → own_entries m (history_at preds q) ≡ own_entries m (seen m q))
    → ((m : ℕ) → own_writes m port ≡ wrote m)
    → AreTied s preds port n engines
AreTied-running s preds port seen wrote n [] [] run ends grows own same = tt
AreTied-running s preds port seen wrote n [] (e ∷ engines) run ends grows own same = absurd ends
AreTied-running s preds port seen wrote n (items ∷ lives) [] run ends grows own same = absurd ends
AreTied-running s preds port seen wrote n (items ∷ lives) (e ∷ engines) run ends grows own same =
    let now : IsRunning s.rule s.objects (history_at preds) (own_writes n port) n items
    = IsRunning-others s.rule s.objects (seen n) (history_at preds) (wrote n) (own_writes n port) n items run.0 (grows n) (own n) (same n) in (
      record {
        number = ends.0.number;
        life = IsLife-worker s e.stand e.items ends.0.stand (subst (λ x. IsWorkersLife s.rule x) (sym ends.0.events) now.life);
        agrees = subst (λ x. Agrees s.objects (history_at preds) (own_writes n port) n x) (sym ends.0.events) now.agrees;
      },
      AreTied-running s preds port seen wrote (n + 1) lives engines run.1 ends.1 grows own same,
    )

append_same : (xs ys : List Entry) → xs ++ ys ≡ xs → ys ≡ []
append_same [] ys h = h
append_same (x ∷ xs) ys h = let z : xs ++ ys ≡ xs = cc in append_same xs ys z

-- entries of which none is another caller's are all of this one
only_callers : (count n : ℕ) (more : List Entry) → ((m : ℕ) → m ≢ n → own_entries m more ≡ []) → is_engine count n ≡ true → list_all (λ (e : Entry). is_engine count e.caller) more ≡ true
only_callers count n [] own h = refl
only_callers count n (e ∷ more) own h = and_from (is_engine count e.caller) (list_all (λ (x : Entry). is_engine count x.caller) more)
    (elim (eqb_tells e.caller n) [
      | inl s ↦ subst (λ m. is_engine count m ≡ true) (sym s.1) h
      | inr d ↦ absurd (let g : ((e.caller == e.caller) ≡ false) × (own_entries e.caller more ≡ []) = own_head e.caller e more (own e.caller d.1) in not_itself e.caller g.0)
    ])
    (only_callers count n more (λ m d. (own_head m e more (own m d)).1) h)
  where
    not_itself : (m : ℕ) → (m == m) ≡ false → ⊥
    not_itself m f = elim (eqb_tells m m) [
      | inl s ↦ (let z : ⊥ = cc (s.0, f) in z)
      | inr d ↦ d.1 refl
    ]

-- A history that has grown by an engine's own entries alone has engines as its callers, if it had before.
pub callers-grown : (count n : ℕ) (history now : List Entry)
    → IsPrefix history now
    → ((m : ℕ) → m ≢ n → own_entries m now ≡ own_entries m history)
    → is_engine count n ≡ true
    → list_all (λ (e : Entry). is_engine count e.caller) history ≡ true
    → list_all (λ (e : Entry). is_engine count e.caller) now ≡ true
callers-grown count n history now grows own h before =
    subst (λ x. list_all (λ (e : Entry). is_engine count e.caller) x ≡ true) (sym grows.1)
    (list_all-append (λ (e : Entry). is_engine count e.caller) history grows.0
    ∙ and_from (list_all (λ (e : Entry). is_engine count e.caller) history) (list_all (λ (e : Entry). is_engine count e.caller) grows.0) before
    (only_callers count n grows.0 none h))
  where
    none : (m : ℕ) → m ≢ n → own_entries m grows.0 ≡ []
    none m d = append_same (own_entries m history) (own_entries m grows.0)
        (sym (filter-append (λ (e : Entry). e.caller == m) history grows.0) ∙ (ap (own_entries m) (sym grows.1) ∙ own m d))

-- Once a write has failed every later one fails: this stays so with one more write, which fails if an earlier one has.
pub stays_failed-push : (port : List OutEntry) (w : OutEntry)
    → stays_failed port ≡ true
    → (list_any has_failed port ≡ true → has_failed w ≡ true)
    → stays_failed (port ++ w ∷ []) ≡ true
stays_failed-push [] w h f = elim w.reply as (λ r. elim r [ put.Wrote ↦ true | put.Failed ↦ true ] ≡ true) [ put.Wrote ↦ refl | put.Failed ↦ refl ]
stays_failed-push (x ∷ port) w h f = elim x.reply as (λ r.
    elim r [ put.Wrote ↦ stays_failed port | put.Failed ↦ list_all has_failed port ] ≡ true
    → (elim r [ put.Wrote ↦ false | put.Failed ↦ true ] || list_any has_failed port ≡ true → has_failed w ≡ true)
    → elim r [ put.Wrote ↦ stays_failed (port ++ w ∷ []) | put.Failed ↦ list_all has_failed (port ++ w ∷ []) ] ≡ true) [
      | put.Wrote ↦ λ g k. stays_failed-push port w g k
      | put.Failed ↦ λ g k. list_all-append has_failed port (w ∷ []) ∙ and_from (list_all has_failed port) (has_failed w && true) g (and_from (has_failed w) true (k refl) refl)
    ] h f
