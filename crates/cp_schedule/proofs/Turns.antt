-- A turn of one shell comes later, and later moments of later moments are later.
use Rattle.std.proofs.Common.{◌≡◌, ◌≢◌, ◌⊎◌, inl, inr, ℕ, ◌+◌, List, [], ◌∷◌, ◌++◌, length, refl, sym, ◌∙◌, ap, subst, Bool, true, Some, arith}
use Rattle.std.specs.Prelude.{map, slice_get, slice_set, Result, Ok, Err, MatchResult}
use Rattle.std.proofs.lemmas.Bool.Decides.{eqb_tells}
use Rattle.cp_list.specs.Lists.{IsPrefix}
use Rattle.cp_call.specs.declared.call.Entry.{Entry}
use Rattle.cp_call.specs.declared.item.Item.{Item}
use Rattle.cp_call.specs.declared.outcome.OutEntry.{OutEntry}
use Rattle.cp_call.specs.Added.{HasAdded}
use Rattle.cp_call.specs.Life as life
use Rattle.cp_call.specs.Progress.{GoesOnBy, Pick}
use Rattle.cp_call.specs.Running.{IsRunning}
use Rattle.cp_call.specs.Sound.{Object, Going, own_entries, own_writes, asked_entries, wrote_entries, stays_failed}
use Rattle.cp_call.proofs.Adding.{IsPrefix_refl, IsPrefix_trans}
use Rattle.cp_call.proofs.Going.{Going-events}
use Rattle.cp_call.proofs.Running.{IsRunning-others}
use Rattle.cp_shell.specs.Parked.{HasMade, HasMadeAtMost}
use Rattle.cp_shell.specs.Shell.{ShellView, HasTakenTurn}
use Rattle.cp_shell.proofs.Resting.{runs_on}
use Rattle.cp_hall.specs.Hall.{HallObject, objects_of, history_at, AreLegal}
use Rattle.cp_schedule.specs.Record.{engine_now, pred_now, record_now, workers_setup, AreDriven, IsReady, IsLater}
use Rattle.cp_schedule.proofs.Lists.{append_nil, cancel, get_map, map_set, get_set, get_set_other, set_same, length_set, only_mine}
use Rattle.cp_schedule.proofs.Histories.{same_hall}
use Rattle.cp_schedule.specs.Turns.{pick_at}
use Rattle.cp_schedule.proofs.GoingOn.{grows_by, with_events, turn_goes_on, goes_on-on}

pub later_here : {M Code : Type 0} (code : M → Code) (asks : Code → life.Rule) (shells : List (ShellView M)) (hall : List HallObject) (port : List OutEntry) → IsLater code asks shells shells hall hall port port
later_here code asks shells hall port = record {
  count = refl;
  objects = refl;
  grows = λ q. IsPrefix_refl (history_at hall q);
  port_grows = IsPrefix_refl port;
  driven = λ k d. d;
  goes_on = λ k steps d. ([], refl);
}

pub later_on : {M Code : Type 0} (code : M → Code) (asks : Code → life.Rule) (s1 s2 s3 : List (ShellView M)) (h1 h2 h3 : List HallObject) (p1 p2 p3 : List OutEntry)
    → IsLater code asks s1 s2 h1 h2 p1 p2 → IsLater code asks s2 s3 h2 h3 p2 p3 → IsLater code asks s1 s3 h1 h3 p1 p3
later_on {M} {Code} code asks s1 s2 s3 h1 h2 h3 p1 p2 p3 a b = record {
  count = b.count ∙ a.count;
  objects = b.objects ∙ a.objects;
  grows = λ q. IsPrefix_trans (history_at h1 q) (history_at h2 q) (history_at h3 q) (a.grows q) (b.grows q);
  port_grows = IsPrefix_trans p1 p2 p3 a.port_grows b.port_grows;
  driven = λ k d. subst (λ os. AreDriven code asks k os s3 h3 p3) a.objects (b.driven k (between k d));
  goes_on = λ k steps d.
      let first = a.goes_on k steps d in
      let second = b.goes_on k steps (between k d) in (
        first.0 ++ second.0,
        goes_on-on (workers_setup (asks k) (objects_of h1)) (record_now steps s1 h1 p1) (record_now steps s2 h2 p2) (record_now steps s3 h3 p3) first.0 second.0 first.1
            (subst (λ os. GoesOnBy (workers_setup (asks k) os) (record_now steps s2 h2 p2) second.0 (record_now steps s3 h3 p3)) a.objects second.1),
      );
}
  where
    between : (k : Code) → AreDriven code asks k (objects_of h1) s1 h1 p1 → AreDriven code asks k (objects_of h2) s2 h2 p2
    between k d = subst (λ os. AreDriven code asks k os s2 h2 p2) (sym a.objects) (a.driven k d)

-- What a turn of worker n has done.
pub record TurnFacts (n : ℕ) (hall now : List HallObject) (port port_now : List OutEntry) (items items_now : List Item) : Type 0 where
  pub added : List Item
  pub is : items_now ≡ items ++ added
  pub has : HasAdded (objects_of hall) (history_at hall) (history_at now) (own_writes n port) (own_writes n port_now) n added
  pub objects : objects_of now ≡ objects_of hall
  pub others : (m q : ℕ) → m ≢ n → own_entries m (history_at now q) ≡ own_entries m (history_at hall q)
  pub port_grows : IsPrefix port port_now
  pub writers : (m : ℕ) → m ≢ n → own_writes m port_now ≡ own_writes m port
  pub once : HasMadeAtMost items items_now

-- which shell it is, where one is set
set_case : {A : Type 0} (xs : List A) (i j : ℕ) (x y z : A) → slice_get xs i ≡ Some x → slice_get (slice_set xs i y) j ≡ Some z → ((j ≡ i) × (z ≡ y)) ⊎ ((j ≢ i) × (slice_get xs j ≡ Some z))
set_case xs i j x y z there h = elim (eqb_tells j i) [
  | inl s ↦ inl (s.1, (let same : slice_get (slice_set xs i y) i ≡ Some z = subst (λ k. slice_get (slice_set xs i y) k ≡ Some z) s.1 h in let w : z ≡ y = cc (same, get_set xs i x y there) in w))
  | inr d ↦ inr (d.1, sym (get_set_other xs i j y d.1) ∙ h)
]

suc_apart : (j i : ℕ) → j ≢ i → j + 1 ≢ i + 1
suc_apart j i d e = d (omega (arith, e))

driven_on : {M Code : Type 0} (code : M → Code) (asks : Code → life.Rule) (k : Code) (os : List Object) (shells : List (ShellView M)) (i : ℕ) (v w : ShellView M) (hall now : List HallObject) (port port_now : List OutEntry)
    → slice_get shells i ≡ Some v → w.number ≡ v.number → code w.machine ≡ code v.machine → (life.IsWorkersLife (asks (code v.machine)) v.items → life.IsWorkersLife (asks (code v.machine)) w.items)
    → os ≡ objects_of hall → TurnFacts (i + 1) hall now port port_now v.items w.items
    → AreDriven code asks k os shells hall port → AreDriven code asks k os (slice_set shells i w) now port_now
driven_on {M} {Code} code asks k os shells i v w hall now port port_now there number same lives objects t d = record {
  numbers = λ j s h. elim (set_case shells i j v w s there h) [
    | inl e ↦ ap (λ (x : ShellView M). x.number) e.1 ∙ (number ∙ (d.numbers i v there ∙ ap (λ m. m + 1) (sym e.0)))
    | inr e ↦ d.numbers j s e.1
  ];
  codes = λ j s h. elim (set_case shells i j v w s there h) [
    | inl e ↦ ap (λ (x : ShellView M). code x.machine) e.1 ∙ (same ∙ d.codes i v there)
    | inr e ↦ d.codes j s e.1
  ];
  objects_are = t.objects ∙ sym objects;
  running = λ j s h. elim (set_case shells i j v w s there h) [
    | inl e ↦ subst (λ m. IsRunning (asks k) os (history_at now) (own_writes (m + 1) port_now) (m + 1) s.items) (sym e.0)
        (subst (λ (x : ShellView M). IsRunning (asks k) os (history_at now) (own_writes (i + 1) port_now) (i + 1) x.items) (sym e.1) here)
    | inr e ↦ IsRunning-others (asks k) os (history_at hall) (history_at now) (own_writes (j + 1) port) (own_writes (j + 1) port_now) (j + 1) s.items (d.running j s e.1)
        t.has.grows (λ q. t.others (j + 1) q (suc_apart j i e.0)) (t.writers (j + 1) (suc_apart j i e.0))
  ];
}
  where
    here : IsRunning (asks k) os (history_at now) (own_writes (i + 1) port_now) (i + 1) w.items
    here = runs_on (asks k) os (history_at hall) (history_at now) (own_writes (i + 1) port) (own_writes (i + 1) port_now) (i + 1) v.items w.items t.added (d.running i v there)
        (subst (λ c. life.IsWorkersLife (asks c) v.items → life.IsWorkersLife (asks c) w.items) (d.codes i v there) lives) t.is
        (subst (λ x. HasAdded x (history_at hall) (history_at now) (own_writes (i + 1) port) (own_writes (i + 1) port_now) (i + 1) t.added) (sym objects) t.has)

-- where nothing was done no object has changed
pub hall_kept : (i : ℕ) (hall now : List HallObject) (port port_now : List OutEntry) (items items_now : List Item) → items_now ≡ items → TurnFacts (i + 1) hall now port port_now items items_now → now ≡ hall
hall_kept i hall now port port_now items items_now same t =
    let none : [] ≡ t.added = cancel items [] t.added (append_nil items ∙ (sym same ∙ t.is)) in
    let asked : (q : ℕ) → asked_entries (i + 1) q t.added ≡ [] = λ q. ap (asked_entries (i + 1) q) (sym none) in
    same_hall hall now t.objects (λ q. only_mine (λ (e : Entry). e.caller) (i + 1) (history_at hall q) (history_at now q) [] (t.has.grows q) (λ m d. t.others m q d)
    (t.has.asked q ∙ ap (λ r. own_entries (i + 1) (history_at hall q) ++ r) (asked q)) ∙ append_nil (history_at hall q))

-- nothing was done
idle_on : {M : Type 0} (steps : ℕ) (shells : List (ShellView M)) (i : ℕ) (v w : ShellView M) (hall now : List HallObject) (port port_now : List OutEntry)
    → slice_get shells i ≡ Some v → w.number ≡ v.number → w.items ≡ v.items → TurnFacts (i + 1) hall now port port_now v.items w.items
    → record_now steps shells hall port ≡ record_now steps (slice_set shells i w) now port_now
idle_on {M} steps shells i v w hall now port port_now there number same t =
    let none : [] ≡ t.added = cancel v.items [] t.added (append_nil v.items ∙ (sym same ∙ t.is)) in
    let kept : now ≡ hall = hall_kept i hall now port port_now v.items w.items same t in
    let port_kept : port_now ≡ port = only_mine (λ (x : OutEntry). x.engine) (i + 1) port port_now [] t.port_grows t.writers
    (t.has.writes ∙ ap (λ r. own_writes (i + 1) port ++ r) (ap (wrote_entries (i + 1)) (sym none))) ∙ append_nil port in
    let engine : engine_now w ≡ engine_now v = ap (λ n. record { number = n; items = w.items; stand = (engine_now v).stand }) number ∙ ap (λ xs. record { number = v.number; items = xs; stand = (engine_now v).stand }) same in
    let engines : map engine_now shells ≡ map engine_now (slice_set shells i w) =
    sym (map_set engine_now shells i w ∙ (ap (slice_set (map engine_now shells) i) engine ∙ set_same (map engine_now shells) i (engine_now v) (get_map engine_now shells i v there))) in
    ap (λ es. record { steps = steps; engines = es; preds = map pred_now hall; port = port }) engines
    ∙ (ap (λ h. record { steps = steps; engines = map engine_now (slice_set shells i w); preds = map pred_now h; port = port }) (sym kept)
    ∙ ap (λ p. record { steps = steps; engines = map engine_now (slice_set shells i w); preds = map pred_now now; port = p }) (sym port_kept))

pub made_on : {M : Type 0} (rule : life.Rule) (steps : ℕ) (shells : List (ShellView M)) (i : ℕ) (v w : ShellView M) (hall now : List HallObject) (port port_now : List OutEntry)
    → slice_get shells i ≡ Some v → w.number ≡ v.number → life.IsWorkersLife rule w.items → (made : HasMade v.items w.items) → TurnFacts (i + 1) hall now port port_now v.items w.items → AreLegal now → stays_failed port_now ≡ true
    → GoesOnBy (workers_setup rule (objects_of hall)) (record_now steps shells hall port) (map (pick_at i) (made.event ∷ made.calls)) (record_now steps (slice_set shells i w) now port_now)
made_on {M} rule steps shells i v w hall now port port_now there number lives made t legal failed =
    let added : made.event ∷ made.calls ≡ t.added = cancel v.items (made.event ∷ made.calls) t.added (sym made.added ∙ t.is) in
    let has = subst (λ xs. HasAdded (objects_of hall) (history_at hall) (history_at now) (own_writes (i + 1) port) (own_writes (i + 1) port_now) (i + 1) xs) (sym added) t.has in
    let g = grows_by (i + 1) hall now port port_now made.event made.calls t.objects has t.others t.port_grows t.writers made.remote failed legal in
    let engine : with_events (engine_now v) (made.event ∷ made.calls) ≡ engine_now w =
    ap (λ n. record { number = n; items = v.items ++ made.event ∷ made.calls; stand = (engine_now v).stand }) (sym number) ∙ ap (λ xs. record { number = w.number; items = xs; stand = (engine_now v).stand }) (sym made.added) in
    let engines : slice_set (map engine_now shells) i (with_events (engine_now v) (made.event ∷ made.calls)) ≡ map engine_now (slice_set shells i w) =
    ap (slice_set (map engine_now shells) i) engine ∙ sym (map_set engine_now shells i w) in
    subst (λ es. GoesOnBy (workers_setup rule (objects_of hall)) (record_now steps shells hall port) (map (pick_at i) (made.event ∷ made.calls)) (record { steps = steps; engines = es; preds = map pred_now now; port = port_now })) engines
    (turn_goes_on (workers_setup rule (objects_of hall)) steps (map engine_now shells) i (engine_now v) made.event made.calls hall now port port_now refl (get_map engine_now shells i v there) refl
    (subst (λ xs. life.IsWorkersLife rule xs) made.added lives) made.remote g)

turned_on : {M : Type 0} (rule : life.Rule) (steps : ℕ) (shells : List (ShellView M)) (i : ℕ) (v w : ShellView M) (hall now : List HallObject) (port port_now : List OutEntry)
    → slice_get shells i ≡ Some v → w.number ≡ v.number → life.IsWorkersLife rule w.items → HasMadeAtMost v.items w.items → TurnFacts (i + 1) hall now port port_now v.items w.items → AreLegal now → stays_failed port_now ≡ true
    → (picks : List Pick) × GoesOnBy (workers_setup rule (objects_of hall)) (record_now steps shells hall port) picks (record_now steps (slice_set shells i w) now port_now)
turned_on rule steps shells i v w hall now port port_now there number lives (inl same) t legal failed = ([], idle_on steps shells i v w hall now port port_now there number same t)
turned_on rule steps shells i v w hall now port port_now there number lives (inr made) t legal failed = (map (pick_at i) (made.event ∷ made.calls), made_on rule steps shells i v w hall now port port_now there number lives made t legal failed)

-- a turn of the shell at a place comes later
pub turn_later : {M Code : Type 0} (code : M → Code) (asks : Code → life.Rule) (shells : List (ShellView M)) (i : ℕ) (v w : ShellView M) (hall now : List HallObject) (port port_now : List OutEntry)
    → slice_get shells i ≡ Some v → v.number ≡ i + 1 → w.number ≡ v.number → code w.machine ≡ code v.machine → (life.IsWorkersLife (asks (code v.machine)) v.items → life.IsWorkersLife (asks (code v.machine)) w.items)
    → TurnFacts v.number hall now port port_now v.items w.items → AreLegal now → stays_failed port_now ≡ true
    → IsLater code asks shells (slice_set shells i w) hall now port port_now
turn_later {M} {Code} code asks shells i v w hall now port port_now there place number same lives facts legal failed = record {
  count = length_set shells i w;
  objects = t.objects;
  grows = t.has.grows;
  port_grows = t.port_grows;
  driven = λ k d. driven_on code asks k (objects_of hall) shells i v w hall now port port_now there number same lives refl t d;
  goes_on = λ k steps d. turned_on (asks k) steps shells i v w hall now port port_now there number
      (subst (λ c. life.IsWorkersLife (asks c) v.items → life.IsWorkersLife (asks c) w.items) (d.codes i v there) lives (d.running i v there).life) t.once t legal failed;
}
  where
    t : TurnFacts (i + 1) hall now port port_now v.items w.items
    t = subst (λ n. TurnFacts n hall now port port_now v.items w.items) place facts

-- a turn makes one event at most, also where memory stops it
pub once_of : {E : Type 0} (r : Result Bool E) (objects : List Object) (seen : ℕ → List Entry) (n : ℕ) (before now : List Item)
    → MatchResult r (λ b. HasTakenTurn objects seen n before now) (λ e. HasMadeAtMost before now) → HasMadeAtMost before now
once_of (Ok b) objects seen n before now (inl made) = inr made
once_of (Ok b) objects seen n before now (inr still) = inl still.2
once_of (Err e) objects seen n before now h = h

-- shells that are driven stay so
pub ready_on : {M Code : Type 0} (code : M → Code) (asks : Code → life.Rule) (count : Code → ℕ) (s1 s2 : List (ShellView M)) (h1 h2 : List HallObject) (p1 p2 : List OutEntry)
    → IsReady code asks count s1 h1 p1 → IsLater code asks s1 s2 h1 h2 p1 p2 → IsReady code asks count s2 h2 p2
ready_on code asks count s1 s2 h1 h2 p1 p2 r later = record {
  code_is = r.code_is;
  driven = subst (λ os. AreDriven code asks r.code_is os s2 h2 p2) (sym later.objects) (later.driven r.code_is r.driven);
  counts = r.counts ∙ ap (λ os. length os) (sym later.objects);
}

-- a record that is going stays so later
pub going_later : {M Code : Type 0} (code : M → Code) (asks : Code → life.Rule) (s1 s2 : List (ShellView M)) (h1 h2 : List HallObject) (p1 p2 : List OutEntry) → IsLater code asks s1 s2 h1 h2 p1 p2
    → (k : Code) (steps : ℕ) → AreDriven code asks k (objects_of h1) s1 h1 p1
    → Going (workers_setup (asks k) (objects_of h1)) (record_now steps s1 h1 p1) → Going (workers_setup (asks k) (objects_of h1)) (record_now steps s2 h2 p2)
going_later code asks s1 s2 h1 h2 p1 p2 later k steps d going =
    let on = later.goes_on k steps d in
    Going-events (workers_setup (asks k) (objects_of h1)) (record_now steps s1 h1 p1) on.0 (record_now steps s2 h2 p2) going on.1
