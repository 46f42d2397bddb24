-- A turn of the worker at a place, in the record of a run, and what picks of workers come to.
use Rattle.std.proofs.Common.{◌≡◌, inl, inr, ℕ, zero, suc, ◌+◌, ◌-◌, ◌<◌, List, [], ◌∷◌, ◌++◌, length, refl, sym, ◌∙◌, ap, subst, Bool, true, false, None, Some, arith}
use Rattle.std.specs.Prelude.{map, slice_get, slice_set, take, not, MatchBool}
use Rattle.std.specs.List.{list_all}
use Rattle.std.proofs.lemmas.Bool.{and_from}
use Rattle.cp_call.specs.declared.item.Item.{Item}
use Rattle.cp_call.specs.declared.item.Item.TheVariants as item
use Rattle.cp_call.specs.declared.item.RemoteCall.{RemoteCall}
use Rattle.cp_call.specs.declared.item.RemoteReply.{RemoteReply}
use Rattle.cp_call.specs.declared.item.RemoteReply.TheVariants as remote
use Rattle.cp_call.specs.declared.outcome.EngineEnd.{EngineEnd}
use Rattle.cp_call.specs.declared.outcome.OutEntry.{OutEntry}
use Rattle.cp_call.specs.declared.outcome.Outcome.{Outcome}
use Rattle.cp_call.specs.Added.{Leads}
use Rattle.cp_call.specs.Life as life
use Rattle.cp_call.specs.Sound.{Setup, stays_failed}
use Rattle.cp_shell.specs.Parked.{is_remote_request}
use Rattle.cp_shell.specs.Shell.{ShellView, HasTakenTurn}
use Rattle.cp_hall.specs.Hall.{HallObject, objects_of, history_at, AreLegal}
use Rattle.cp_schedule.specs.Awake.{is_parked_now, is_parked_place}
use Rattle.cp_schedule.specs.Record.{AreDriven, IsLater, RecordLeads, engine_now, pred_now, record_now, workers_setup}
use Rattle.cp_schedule.specs.Picked.{StopsAt}
use Rattle.cp_schedule.specs.Turns.{is_no_dialer, is_undialled, is_parked_somewhere, is_awake_engine, is_awake, names_awake, HasDriven, RunsBy, TakesTurn, TakesPick, TakesPicks}
use Rattle.cp_shell.specs.Asked.{StillWaits}
use Rattle.cp_schedule.proofs.Lists.{cancel, get_map, get_set}
use Rattle.cp_schedule.proofs.Standing.{awake_same, waits_somewhere}
use Rattle.cp_schedule.proofs.Turns.{TurnFacts, hall_kept, made_on}

-- where every remote call was replied that there is nobody to dial, none was dialled
pub leads_undialled : {C : Type 0} (went : C → RemoteCall → RemoteReply → C → Type 0) (a b : C) (items : List Item)
    → ((x : C) (c : RemoteCall) (r : RemoteReply) (y : C) → went x c r y → r ≡ remote.NoDialer) → Leads went a items b → list_all is_undialled items ≡ true
leads_undialled went a b [] says h = refl
leads_undialled went a b (item.Asked p c r ∷ items) says h = leads_undialled went a b items says h
leads_undialled went a b (item.Wrote bytes r ∷ items) says h = leads_undialled went a b items says h
leads_undialled went a b (item.Remote c r ∷ items) says h =
    and_from (is_no_dialer r) (list_all is_undialled items) (ap is_no_dialer (says a c r h.0 h.1.0)) (leads_undialled went h.0 b items says h.1.1)
leads_undialled went a b (item.Given c ∷ items) says h = leads_undialled went a b items says h
leads_undialled went a b (item.Answered r ∷ items) says h = leads_undialled went a b items says h

awake_parked : (b : Bool) → not b ≡ true → b ≡ true → ⊥
awake_parked true h k = cc
awake_parked false h k = cc

-- What a turn of the shell at a place has done besides.
pub record HasPicked {M Code : Type 0} (code : M → Code) (asks : Code → life.Rule) (i : ℕ) (v w : ShellView M) (hall now : List HallObject) (port port_now : List OutEntry) : Type 0 where
  pub place : v.number ≡ i + 1
  pub number : w.number ≡ v.number
  pub lives : life.IsWorkersLife (asks (code v.machine)) v.items → life.IsWorkersLife (asks (code v.machine)) w.items
  pub facts : TurnFacts v.number hall now port port_now v.items w.items
  pub legal : AreLegal now
  pub failed : stays_failed port_now ≡ true
  pub taken : HasTakenTurn (objects_of hall) (history_at now) v.number v.items w.items
  pub undialled : list_all is_undialled facts.added ≡ true
  pub settled : is_remote_request (life.pending_request (asks (code v.machine)) w.items) ≡ false

-- a turn of a worker that is not parked is one of the record
pub turn_takes : {M Code : Type 0} (code : M → Code) (asks : Code → life.Rule) (shells : List (ShellView M)) (i : ℕ) (v w : ShellView M) (hall now : List HallObject) (port port_now : List OutEntry) (k : Code) (steps : ℕ)
    → slice_get shells i ≡ Some v → HasPicked code asks i v w hall now port port_now → AreDriven code asks k (objects_of hall) shells hall port → is_awake (record_now steps shells hall port) i ≡ true
    → TakesTurn (workers_setup (asks k) (objects_of hall)) (record_now steps shells hall port) i (record_now steps (slice_set shells i w) now port_now)
turn_takes {M} {Code} code asks shells i v w hall now port port_now k steps there has d awake = elim has.taken [
  | inl made ↦ record {
    event = made.event;
    calls = made.calls;
    goes_on = made_on (asks k) steps shells i v w hall now port port_now there has.number
        (subst (λ c. life.IsWorkersLife (asks c) v.items → life.IsWorkersLife (asks c) w.items) (d.codes i v there) has.lives (d.running i v there).life) made t has.legal has.failed;
    remote = made.remote;
    undialled = subst (λ xs. list_all is_undialled xs ≡ true) (sym (cancel v.items (made.event ∷ made.calls) has.facts.added (sym made.added ∙ has.facts.is))) has.undialled;
    settled = λ e h. settled e (sym h ∙ get_map engine_now (slice_set shells i w) i w (get_set shells i v w there));
    steps = refl;
  }
  | inr still ↦ absurd (awake_parked (is_parked_somewhere (map pred_now hall) v.number)
      (subst (λ x. is_awake_engine (map pred_now hall) x ≡ true) (get_map engine_now shells i v there) awake)
      (waits_somewhere hall still.0 v.number still.1 (subst (λ h. StillWaits (slice_get (objects_of hall) still.0) (history_at h still.0) v.number still.1) (hall_kept i hall now port port_now v.items w.items still.2 t) still.3)))
]
  where
    t : TurnFacts (i + 1) hall now port port_now v.items w.items
    t = subst (λ n. TurnFacts n hall now port port_now v.items w.items) has.place has.facts

    settled : (e : EngineEnd) → Some e ≡ Some (engine_now w) → is_remote_request (life.pending_request (asks k) e.items) ≡ false
    settled e h =
        let same : engine_now w ≡ e = cc in
        subst (λ (x : EngineEnd). is_remote_request (life.pending_request (asks k) x.items) ≡ false) same
        (subst (λ c. is_remote_request (life.pending_request (asks c) w.items) ≡ false) (d.codes i v there) has.settled)

-- a pick that names no worker that is awake changes nothing
unnamed_pick : (s : Setup) (o : Outcome) (n : ℕ) → names_awake o n ≡ false → HasDriven s o n false o
unnamed_pick s o zero h = (h, refl)
unnamed_pick s o (suc place) h = (h, subst (λ b. MatchBool b (TakesTurn s o place o) (o ≡ o)) (sym h) refl)

-- as one that names none
pub zero_pick : (s : Setup) (o : Outcome) (n : ℕ) → n ≡ 0 → HasDriven s o n false o
zero_pick s o n z = unnamed_pick s o n (ap (names_awake o) z)

get_beyond : {A : Type 0} (xs : List A) (k : ℕ) → length xs < suc k → slice_get xs k ≡ None
get_beyond [] k h = refl
get_beyond (x ∷ xs) zero h = absurd (let w : ⊥ = omega (arith, h) in w)
get_beyond (x ∷ xs) (suc k) h = get_beyond xs k (omega (arith, h))

length_map : {A B : Type 0} (f : A → B) (xs : List A) → length (map f xs) ≡ length xs
length_map f [] = refl
length_map f (x ∷ xs) = ap suc (length_map f xs)

beyond_named : {M : Type 0} (steps : ℕ) (shells : List (ShellView M)) (hall : List HallObject) (port : List OutEntry) (n : ℕ) → length shells < n → names_awake (record_now steps shells hall port) n ≡ false
beyond_named steps shells hall port zero h = refl
beyond_named steps shells hall port (suc place) h =
    ap (is_awake_engine (map pred_now hall)) (get_beyond (map engine_now shells) place (subst (λ m. m < suc place) (sym (length_map engine_now shells)) h))

pub beyond_pick : {M : Type 0} (s : Setup) (steps : ℕ) (shells : List (ShellView M)) (hall : List HallObject) (port : List OutEntry) (n : ℕ) → length shells < n
    → HasDriven s (record_now steps shells hall port) n false (record_now steps shells hall port)
beyond_pick {M} s steps shells hall port n h = unnamed_pick s (record_now steps shells hall port) n (beyond_named steps shells hall port n h)

below_one : (place : ℕ) → suc place - 1 ≡ place
below_one place = omega arith

named_as : {M Code : Type 0} (code : M → Code) (asks : Code → life.Rule) (k : Code) (shells : List (ShellView M)) (hall : List HallObject) (port : List OutEntry) (steps place : ℕ) (v : ShellView M) (b : Bool)
    → AreDriven code asks k (objects_of hall) shells hall port → AreLegal hall → slice_get shells (suc place - 1) ≡ Some v → is_parked_now hall v.number v.items ≡ b
    → is_awake (record_now steps shells hall port) place ≡ not b
named_as code asks k shells hall port steps place v b d legal there parked =
    let here : slice_get shells place ≡ Some v = subst (λ i. slice_get shells i ≡ Some v) (below_one place) there in
    awake_same code asks k shells hall port d legal steps place ∙ (ap (λ o. not (is_parked_place hall o)) here ∙ ap not parked)

parked_named : {M Code : Type 0} (code : M → Code) (asks : Code → life.Rule) (k : Code) (shells : List (ShellView M)) (hall : List HallObject) (port : List OutEntry) (steps n : ℕ) (v : ShellView M)
    → AreDriven code asks k (objects_of hall) shells hall port → AreLegal hall → slice_get shells (n - 1) ≡ Some v → is_parked_now hall v.number v.items ≡ true
    → names_awake (record_now steps shells hall port) n ≡ false
parked_named code asks k shells hall port steps zero v d legal there parked = refl
parked_named code asks k shells hall port steps (suc place) v d legal there parked = named_as code asks k shells hall port steps place v true d legal there parked

-- or one that is parked
pub parked_pick : {M Code : Type 0} (code : M → Code) (asks : Code → life.Rule) (k : Code) (shells : List (ShellView M)) (hall : List HallObject) (port : List OutEntry) (steps n : ℕ) (v : ShellView M)
    → AreDriven code asks k (objects_of hall) shells hall port → AreLegal hall → slice_get shells (n - 1) ≡ Some v → is_parked_now hall v.number v.items ≡ true
    → HasDriven (workers_setup (asks k) (objects_of hall)) (record_now steps shells hall port) n false (record_now steps shells hall port)
parked_pick {M} code asks k shells hall port steps n v d legal there parked =
    unnamed_pick (workers_setup (asks k) (objects_of hall)) (record_now steps shells hall port) n (parked_named code asks k shells hall port steps n v d legal there parked)

-- a pick of a worker that is not parked is a turn of it
pub awake_pick : {M Code : Type 0} (code : M → Code) (asks : Code → life.Rule) (k : Code) (shells : List (ShellView M)) (hall : List HallObject) (port : List OutEntry) (steps n : ℕ) (v : ShellView M) (after : Outcome)
    → AreDriven code asks k (objects_of hall) shells hall port → AreLegal hall → 0 < n → slice_get shells (n - 1) ≡ Some v → is_parked_now hall v.number v.items ≡ false
    → (is_awake (record_now steps shells hall port) (n - 1) ≡ true → TakesTurn (workers_setup (asks k) (objects_of hall)) (record_now steps shells hall port) (n - 1) after)
    → HasDriven (workers_setup (asks k) (objects_of hall)) (record_now steps shells hall port) n true after
awake_pick code asks k shells hall port steps zero v after d legal some there awake turn = absurd (let w : ⊥ = omega (arith, some) in w)
awake_pick {M} code asks k shells hall port steps (suc place) v after d legal some there awake turn =
    let not_parked : is_awake (record_now steps shells hall port) place ≡ true = named_as code asks k shells hall port steps place v false d legal there awake in
    let taken : TakesTurn (workers_setup (asks k) (objects_of hall)) (record_now steps shells hall port) place after =
    subst (λ i. TakesTurn (workers_setup (asks k) (objects_of hall)) (record_now steps shells hall port) i after) (below_one place) (turn (subst (λ i. is_awake (record_now steps shells hall port) i ≡ true) (sym (below_one place)) not_parked)) in
    (not_parked, subst (λ b. MatchBool b (TakesTurn (workers_setup (asks k) (objects_of hall)) (record_now steps shells hall port) place after) (record_now steps shells hall port ≡ after)) (sym not_parked) taken)

-- one pick more behind others
pub picks_on : (s : Setup) (before between after : Outcome) (picks : List ℕ) (n : ℕ) → TakesPicks s before picks between → TakesPick s between n after → TakesPicks s before (picks ++ n ∷ []) after
picks_on s before between after [] n a b = (after, (subst (λ x. TakesPick s x n after) (sym a) b, refl))
picks_on s before between after (m ∷ picks) n a b = (a.0, (a.1.0, picks_on s a.0 between after picks n a.1.1 b))

-- what leads on from a later moment does so in the run that has come to it
pub leads_from : {M Code : Type 0} (code : M → Code) (asks : Code → life.Rule) (s1 s2 s3 : List (ShellView M)) (h1 h2 h3 : List HallObject) (p1 p2 p3 : List OutEntry) (leads : Setup → Outcome → Outcome → Type 0)
    → IsLater code asks s1 s2 h1 h2 p1 p2 → RecordLeads code asks s2 s3 h2 h3 p2 p3 leads
    → (k : Code) (steps : ℕ) → AreDriven code asks k (objects_of h1) s1 h1 p1 → leads (workers_setup (asks k) (objects_of h1)) (record_now steps s2 h2 p2) (record_now steps s3 h3 p3)
leads_from code asks s1 s2 s3 h1 h2 h3 p1 p2 p3 leads later from k steps d =
    subst (λ os. leads (workers_setup (asks k) os) (record_now steps s2 h2 p2) (record_now steps s3 h3 p3)) later.objects
    (from k steps (subst (λ os. AreDriven code asks k os s2 h2 p2) (sym later.objects) (later.driven k d)))

-- the picks of a loop
pub picks_later : {M Code : Type 0} (code : M → Code) (asks : Code → life.Rule) (s1 s2 s3 : List (ShellView M)) (h1 h2 h3 : List HallObject) (p1 p2 p3 : List OutEntry) (picks : List ℕ) (n : ℕ)
    → IsLater code asks s1 s2 h1 h2 p1 p2 → RecordLeads code asks s1 s2 h1 h2 p1 p2 (λ s before after. TakesPicks s before picks after)
    → {driven : Bool} → RecordLeads code asks s2 s3 h2 h3 p2 p3 (λ s before after. HasDriven s before n driven after) → RecordLeads code asks s1 s3 h1 h3 p1 p3 (λ s before after. TakesPicks s before (picks ++ n ∷ []) after)
picks_later code asks s1 s2 s3 h1 h2 h3 p1 p2 p3 picks n later first {driven} next k steps d =
    picks_on (workers_setup (asks k) (objects_of h1)) (record_now steps s1 h1 p1) (record_now steps s2 h2 p2) (record_now steps s3 h3 p3) picks n (first k steps d)
    (leads_from code asks s1 s2 s3 h1 h2 h3 p1 p2 p3 (λ s before after. HasDriven s before n driven after) later next k steps d).1

-- one pick more, of a worker that is not parked
runs_on : (s : Setup) (before between after : Outcome) (picks : List ℕ) (n : ℕ) → RunsBy s before picks between → HasDriven s between n true after → RunsBy s before (picks ++ n ∷ []) after
runs_on s before between after [] n a b = subst (λ x. (names_awake x n ≡ true) × ((between : Outcome) × (TakesPick s x n between × (between ≡ after)))) (sym a) (b.0, (after, (b.1, refl)))
runs_on s before between after (m ∷ picks) n a b = (a.0, (a.1.0, (a.1.1.0, runs_on s a.1.0 between after picks n a.1.1.1 b)))

pub runs_later : {M Code : Type 0} (code : M → Code) (asks : Code → life.Rule) (s1 s2 s3 : List (ShellView M)) (h1 h2 h3 : List HallObject) (p1 p2 p3 : List OutEntry) (picks : List ℕ) (n : ℕ) (driven : Bool)
    → IsLater code asks s1 s2 h1 h2 p1 p2 → RecordLeads code asks s1 s2 h1 h2 p1 p2 (λ s before after. RunsBy s before picks after) → driven ≡ true
    → RecordLeads code asks s2 s3 h2 h3 p2 p3 (λ s before after. HasDriven s before n driven after) → RecordLeads code asks s1 s3 h1 h3 p1 p3 (λ s before after. RunsBy s before (picks ++ n ∷ []) after)
runs_later code asks s1 s2 s3 h1 h2 h3 p1 p2 p3 picks n driven later first did next k steps d =
    runs_on (workers_setup (asks k) (objects_of h1)) (record_now steps s1 h1 p1) (record_now steps s2 h2 p2) (record_now steps s3 h3 p3) picks n (first k steps d)
    (subst (λ b. HasDriven (workers_setup (asks k) (objects_of h1)) (record_now steps s2 h2 p2) n b (record_now steps s3 h3 p3)) did
    (leads_from code asks s1 s2 s3 h1 h2 h3 p1 p2 p3 (λ s before after. HasDriven s before n driven after) later next k steps d))

-- a pick that names no worker that is not parked stops them there
stops_same : (s : Setup) (before now after : Outcome) (picks : List ℕ) (place n : ℕ) → RunsBy s before (take place picks) now → slice_get picks place ≡ Some n → HasDriven s now n false after → StopsAt s before picks place after
stops_same s before now after picks place n runs there idle =
    let same : now ≡ after = unmoved s now after n idle.0 idle.1 in
    record { pick = n; there = there; runs = subst (λ o. RunsBy s before (take place picks) o) same runs; bad = subst (λ o. names_awake o n ≡ false) same idle.0 }
  where
    unmoved : (s : Setup) (now after : Outcome) (n : ℕ) → names_awake now n ≡ false → TakesPick s now n after → now ≡ after
    unmoved s now after zero none h = h
    unmoved s now after (suc place) none h = subst (λ b. MatchBool b (TakesTurn s now place after) (now ≡ after)) none h

pub stops_later : {M Code : Type 0} (code : M → Code) (asks : Code → life.Rule) (s1 s2 s3 : List (ShellView M)) (h1 h2 h3 : List HallObject) (p1 p2 p3 : List OutEntry) (picks : List ℕ) (place n : ℕ) (driven : Bool)
    → IsLater code asks s1 s2 h1 h2 p1 p2 → RecordLeads code asks s1 s2 h1 h2 p1 p2 (λ s before after. RunsBy s before (take place picks) after) → slice_get picks place ≡ Some n → driven ≡ false
    → RecordLeads code asks s2 s3 h2 h3 p2 p3 (λ s before after. HasDriven s before n driven after) → RecordLeads code asks s1 s3 h1 h3 p1 p3 (λ s before after. StopsAt s before picks place after)
stops_later code asks s1 s2 s3 h1 h2 h3 p1 p2 p3 picks place n driven later first there idle next k steps d =
    stops_same (workers_setup (asks k) (objects_of h1)) (record_now steps s1 h1 p1) (record_now steps s2 h2 p2) (record_now steps s3 h3 p3) picks place n (first k steps d) there
    (subst (λ b. HasDriven (workers_setup (asks k) (objects_of h1)) (record_now steps s2 h2 p2) n b (record_now steps s3 h3 p3)) idle
    (leads_from code asks s1 s2 s3 h1 h2 h3 p1 p2 p3 (λ s before after. HasDriven s before n driven after) later next k steps d))
