-- A worker that is driven, one turn after another.
use Rattle.std.proofs.Common.{◌≡◌, ◌≢◌, ◌⊎◌, inl, inr, ℕ, List, [], ◌∷◌, ◌++◌, length, refl, sym, ◌∙◌, ap, subst, Bool, true, false, cond, Option, Some, None, append_assoc}
use Rattle.std.specs.Prelude.{MatchOption, slice_get, is_some, is_none}
use Rattle.std.specs.List.{list_all}
use Rattle.std.proofs.lemmas.Bool.{and_from, and_parts}
use Rattle.std.proofs.lemmas.List.Folds.{list_all-append}
use Rattle.cp_call.specs.declared.call.Call.{Call}
use Rattle.cp_call.specs.declared.call.Reply.{Reply}
use Rattle.cp_call.specs.declared.call.Reply.TheVariants as reply
use Rattle.cp_call.specs.declared.call.Entry.{Entry}
use Rattle.cp_call.specs.declared.item.Item.{Item}
use Rattle.cp_call.specs.declared.item.Item.TheVariants as item
use Rattle.cp_call.specs.declared.item.RemoteCall.{RemoteCall}
use Rattle.cp_call.specs.declared.item.RemoteReply.{RemoteReply}
use Rattle.cp_call.specs.declared.outcome.OutEntry.{OutEntry}
use Rattle.cp_call.specs.Added.{HasAdded, AsksForOne, WritesForOne, Leads}
use Rattle.cp_call.specs.Life as life
use Rattle.cp_call.specs.Running.{IsRunning}
use Rattle.cp_call.specs.Sound.{Object, EndsParkedOn}
use Rattle.cp_call.proofs.Adding.{HasAdded-none, HasAdded-append, IsPrefix_trans}
use Rattle.cp_call.proofs.Growing.{append_nil}
use Rattle.cp_shell.specs.Asked.{StillWaits}
use Rattle.cp_shell.specs.Parked.{is_parking, is_remote, leaves_awake, parked_by, parked_after, parked_object, HasMade}
use Rattle.cp_shell.specs.declared.driven.Driven.{Driven}
use Rattle.cp_shell.specs.declared.driven.Driven.TheVariants as driven
use Rattle.cp_shell.specs.Shell.{ShellView, HasTakenTurn, HasEnded, IfParked, IsDrivenTo, IsParkedOn}
use Rattle.cp_shell.proofs.Calling.{cancel, leads_on}
use Rattle.cp_shell.proofs.Turning.{parking_is}
use Rattle.cp_shell.proofs.Resting.{IsAtWork, parked_after-append, parked_rests, runs_on, still_rests}

-- remote calls leave the worker awake
remote_awake : (calls : List Item) → list_all is_remote calls ≡ true → list_all leaves_awake calls ≡ true
remote_awake [] h = refl
remote_awake (item.Asked p c r ∷ calls) h = let w : ⊥ = cc in absurd w
remote_awake (item.Wrote bytes r ∷ calls) h = let w : ⊥ = cc in absurd w
remote_awake (item.Remote c r ∷ calls) h = remote_awake calls h
remote_awake (item.Given c ∷ calls) h = let w : ⊥ = cc in absurd w
remote_awake (item.Answered r ∷ calls) h = let w : ⊥ = cc in absurd w

none_of : (o : Option ℕ) → is_none o ≡ true → o ≡ None
none_of None h = refl
none_of (Some p) h = let w : ⊥ = cc in absurd w

some_of : (o : Option ℕ) → is_some o ≡ false → o ≡ None
some_of None h = refl
some_of (Some p) h = let w : ⊥ = cc in absurd w

-- events that leave it awake, if there are any, leave it parked nowhere
awake_after : (was : Option ℕ) (i : Item) (items : List Item) → list_all leaves_awake (i ∷ items) ≡ true → parked_after was (i ∷ items) ≡ None
awake_after was i [] h = none_of (parked_by i) (and_parts (leaves_awake i) true h).0
awake_after was i (j ∷ items) h = awake_after (parked_by i) j items (and_parts (leaves_awake i) (list_all leaves_awake (j ∷ items)) h).1

-- so where it was parked before events that leave it awake, there was none
none_awake : (before items : List Item) (p : ℕ) → list_all leaves_awake items ≡ true → parked_object (before ++ items) ≡ Some p → items ≡ []
none_awake before [] p h parked = refl
none_awake before (i ∷ items) p h parked =
    let none : None ≡ Some p = sym (parked_after-append None before (i ∷ items) ∙ awake_after (parked_after None before) i items h) ∙ parked in
    let w : ⊥ = cc in absurd w

-- the events of a turn that leaves the worker awake
pub turn_awake : (rule : life.Rule) (objects : List Object) (seen : ℕ → List Entry) (wrote : List OutEntry) (n : ℕ) (before now added : List Item)
    → now ≡ before ++ added → HasTakenTurn objects seen n before now → IsRunning rule objects seen wrote n now → is_some (parked_object now) ≡ false → list_all leaves_awake added ≡ true
turn_awake rule objects seen wrote n before now added is (inl made) running none =
    subst (λ xs. list_all leaves_awake xs ≡ true) (cancel before (made.event ∷ made.calls) added (sym made.added ∙ is))
    (and_from (leaves_awake made.event) (list_all leaves_awake made.calls) (ap is_none (elim made.awake [
      | inl awake ↦ awake
      | inr last ↦ event last
    ])) (remote_awake made.calls made.remote))
  where
    event : made.calls ≡ [] → parked_by made.event ≡ None
    event last = sym (ap parked_object made.added ∙ (parked_after-append None before (made.event ∷ made.calls) ∙ ap (λ calls. parked_after (parked_by made.event) calls) last))
        ∙ some_of (parked_object now) none
turn_awake rule objects seen wrote n before now added is (inr still) running none =
    let parked : parked_object now ≡ Some still.0 = parked_rests still.0 now (still_rests rule objects seen wrote n now still.0 still.1 (slice_get objects still.0) refl still.3 running) in
    let w : ⊥ = cc (parked, some_of (parked_object now) none) in absurd w

parking_event : (i : Item) (p : ℕ) → parked_by i ≡ Some p → (c : Call) × (i ≡ item.Asked p c reply.Parked)
parking_event (item.Asked q c r) p h = at (is_parking r) refl h
  where
    at : (b : Bool) → is_parking r ≡ b → cond (is_parking r) (Some q) None ≡ Some p → (k : Call) × (item.Asked q c r ≡ item.Asked p k reply.Parked)
    at true e k =
        let same : q ≡ p = cc in
        (c, ap (λ x. item.Asked q c x) (parking_is r e) ∙ ap (λ x. item.Asked x c reply.Parked) same)
    at false e k = let w : ⊥ = cc in absurd w
parking_event (item.Wrote bytes r) p h = let w : ⊥ = cc in absurd w
parking_event (item.Remote c r) p h = let w : ⊥ = cc in absurd w
parking_event (item.Given c) p h = let w : ⊥ = cc in absurd w
parking_event (item.Answered r) p h = let w : ⊥ = cc in absurd w

-- a turn that leaves the worker parked ends a drive there, whose earlier events left it awake
pub turn_parks : (rule : life.Rule) (objects : List Object) (seen : ℕ → List Entry) (wrote : List OutEntry) (n : ℕ) (first before now earlier : List Item) (p : ℕ)
    → before ≡ first ++ earlier → list_all leaves_awake earlier ≡ true → HasTakenTurn objects seen n before now → IsRunning rule objects seen wrote n now → parked_object now ≡ Some p
    → IsDrivenTo objects seen n first now p
turn_parks rule objects seen wrote n first before now earlier p is awake (inl made) running parked = elim made.awake [
  | inl none ↦ (
      let w : ⊥ = cc (there (after_remote made.calls made.remote (parked_by made.event) none), parked) in absurd w)
  | inr last ↦ (
      let ends : parked_by made.event ≡ Some p = sym (there (ap (λ calls. parked_after (parked_by made.event) calls) last)) ∙ parked in
      let event = parking_event made.event p ends in
      record {
        call = event.0;
        cause = inl (earlier, made.added ∙ (ap (λ xs. before ++ made.event ∷ xs) last ∙ (ap (λ i. before ++ i ∷ []) event.1 ∙ (ap (λ xs. xs ++ item.Asked p event.0 reply.Parked ∷ []) is ∙ append_assoc first earlier (item.Asked p event.0 reply.Parked ∷ [])))), awake);
      })
]
  where
    there : {o : Option ℕ} → parked_after (parked_by made.event) made.calls ≡ o → parked_object now ≡ o
    there e = ap parked_object made.added ∙ (parked_after-append None before (made.event ∷ made.calls) ∙ e)

    after_remote : (calls : List Item) → list_all is_remote calls ≡ true → (was : Option ℕ) → was ≡ None → parked_after was calls ≡ None
    after_remote [] h was none = none
    after_remote (item.Asked q c r ∷ calls) h was none = let w : ⊥ = cc in absurd w
    after_remote (item.Wrote bytes r ∷ calls) h was none = let w : ⊥ = cc in absurd w
    after_remote (item.Remote c r ∷ calls) h was none = after_remote calls h None refl
    after_remote (item.Given c ∷ calls) h was none = let w : ⊥ = cc in absurd w
    after_remote (item.Answered r ∷ calls) h was none = let w : ⊥ = cc in absurd w
turn_parks rule objects seen wrote n first before now earlier p is awake (inr still) running parked =
    let waits : parked_object now ≡ Some still.0 = parked_rests still.0 now (still_rests rule objects seen wrote n now still.0 still.1 (slice_get objects still.0) refl still.3 running) in
    let same : still.0 ≡ p = cc (waits, parked) in
    let none : earlier ≡ [] = none_awake first earlier p awake (ap parked_object (sym is) ∙ (ap parked_object (sym still.2) ∙ parked)) in
    record {
      call = still.1;
      cause = inr (still.2 ∙ (is ∙ (ap (λ xs. first ++ xs) none ∙ append_nil first)), subst (λ q. StillWaits (slice_get objects q) (seen q) n still.1) same still.3);
    }

-- What worker n has been driven to: its events are added, none of them has left it parked, and the remote calls among them
-- lead the caller on.
pub record HasDrivenOn {C : Type 0} (went : C → RemoteCall → RemoteReply → C → Type 0) (objects : List Object) (seen seen_now : ℕ → ℕ → List Entry) (wrote wrote_now : ℕ → List OutEntry) (from to : C) (n : ℕ) (items now : List Item) : Type 0 where
  pub added : List Item
  pub is : now ≡ items ++ added
  pub has : HasAdded objects (seen n) (seen_now n) (wrote n) (wrote_now n) n added
  pub leads : Leads went from added to
  pub awake : list_all leaves_awake added ≡ true

pub drives_here : {C : Type 0} (went : C → RemoteCall → RemoteReply → C → Type 0) (objects : List Object) (seen : ℕ → ℕ → List Entry) (wrote : ℕ → List OutEntry) (from : C) (n : ℕ) (items : List Item)
    → HasDrivenOn went objects seen seen wrote wrote from from n items items
drives_here went objects seen wrote from n items = record { added = []; is = sym (append_nil items); has = HasAdded-none objects (seen n) (wrote n) n; leads = refl; awake = refl }

-- the events of one turn more, of the same worker over the same objects
added_on : {C : Type 0} (went : C → RemoteCall → RemoteReply → C → Type 0) (objects o2 : List Object) (seen seen_then seen_now : ℕ → ℕ → List Entry) (wrote wrote_then wrote_now : ℕ → List OutEntry) (from between : C) (n m : ℕ) (items then now added : List Item)
    → o2 ≡ objects → m ≡ n → HasDrivenOn went objects seen seen_then wrote wrote_then from between n items then → now ≡ then ++ added → HasAdded o2 (seen_then m) (seen_now m) (wrote_then m) (wrote_now m) m added
    → (d : List Item) × ((now ≡ items ++ d) × HasAdded objects (seen n) (seen_now n) (wrote n) (wrote_now n) n d)
added_on {C} went objects o2 seen seen_then seen_now wrote wrote_then wrote_now from between n m items then now added same me d is has = (
  d.added ++ added,
  (
    is ∙ (ap (λ xs. xs ++ added) d.is ∙ append_assoc items d.added added),
    HasAdded-append objects (seen n) (seen_then n) (seen_now n) (wrote n) (wrote_then n) (wrote_now n) n d.added added d.has
        (subst (λ os. HasAdded os (seen_then n) (seen_now n) (wrote_then n) (wrote_now n) n added) same (subst (λ k. HasAdded o2 (seen_then k) (seen_now k) (wrote_then k) (wrote_now k) k added) me has)),
  ),
)

pub stops_on : {C : Type 0} (went : C → RemoteCall → RemoteReply → C → Type 0) (objects o2 : List Object) (seen seen_then seen_now : ℕ → ℕ → List Entry) (wrote wrote_then wrote_now : ℕ → List OutEntry) (from between : C) (n m : ℕ) (items then now added : List Item)
    → o2 ≡ objects → m ≡ n → HasDrivenOn went objects seen seen_then wrote wrote_then from between n items then → now ≡ then ++ added → HasAdded o2 (seen_then m) (seen_now m) (wrote_then m) (wrote_now m) m added
    → (d : List Item) × (now ≡ items ++ d) × HasAdded objects (seen n) (seen_now n) (wrote n) (wrote_now n) n d × Unit {0}
stops_on {C} went objects o2 seen seen_then seen_now wrote wrote_then wrote_now from between n m items then now added same me d is has =
    let all = added_on went objects o2 seen seen_then seen_now wrote wrote_then wrote_now from between n m items then now added same me d is has in
    (all.0, all.1.0, all.1.1, tt)

if_parked : (d : Driven) {holds : Type 0} → holds → IfParked d holds
if_parked (driven.Parked p) h = h
if_parked driven.Stopped h = tt

pub parks_on : {C : Type 0} (went : C → RemoteCall → RemoteReply → C → Type 0) (objects o2 : List Object) (seen seen_then seen_now : ℕ → ℕ → List Entry) (wrote wrote_then wrote_now : ℕ → List OutEntry) (from between to : C) (n m : ℕ) (items then now added : List Item) (parked : Driven)
    → o2 ≡ objects → m ≡ n → HasDrivenOn went objects seen seen_then wrote wrote_then from between n items then → now ≡ then ++ added → HasAdded o2 (seen_then m) (seen_now m) (wrote_then m) (wrote_now m) m added → Leads went between added to
    → (d : List Item) × (now ≡ items ++ d) × HasAdded objects (seen n) (seen_now n) (wrote n) (wrote_now n) n d × IfParked parked (Leads went from d to)
unfolding added_on
parks_on {C} went objects o2 seen seen_then seen_now wrote wrote_then wrote_now from between to n m items then now added parked same me d is has leads =
    let all = added_on went objects o2 seen seen_then seen_now wrote wrote_then wrote_now from between n m items then now added same me d is has in
    (all.0, all.1.0, all.1.1, if_parked parked (leads_on went from d.added added between to d.leads leads))

pub drives_on : {C : Type 0} (went : C → RemoteCall → RemoteReply → C → Type 0) (objects o2 : List Object) (seen seen_then seen_now : ℕ → ℕ → List Entry) (wrote wrote_then wrote_now : ℕ → List OutEntry) (from between to : C) (n m : ℕ) (items then now added : List Item)
    → o2 ≡ objects → m ≡ n → HasDrivenOn went objects seen seen_then wrote wrote_then from between n items then → now ≡ then ++ added → HasAdded o2 (seen_then m) (seen_now m) (wrote_then m) (wrote_now m) m added → Leads went between added to → list_all leaves_awake added ≡ true
    → HasDrivenOn went objects seen seen_now wrote wrote_now from to n items now
unfolding added_on
drives_on {C} went objects o2 seen seen_then seen_now wrote wrote_then wrote_now from between to n m items then now added same me d is has leads awake =
    let all = added_on went objects o2 seen seen_then seen_now wrote wrote_then wrote_now from between n m items then now added same me d is has in
    record {
      added = all.0;
      is = all.1.0;
      has = all.1.1;
      leads = leads_on went from d.added added between to d.leads leads;
      awake = list_all-append leaves_awake d.added added ∙ and_from (list_all leaves_awake d.added) (list_all leaves_awake added) d.awake awake;
    }

-- what was left as it was for everybody else stays so
pub asks_on : (n m : ℕ) (o1 o2 o3 : List Object) (s1 s2 s3 : ℕ → Bool) (e1 e2 e3 : ℕ → ℕ → List Entry) (l1 l2 l3 : ℕ → ℕ → ℕ) → m ≡ n → AsksForOne n o1 o2 s1 s2 e1 e2 l1 l2 → AsksForOne m o2 o3 s2 s3 e2 e3 l2 l3
    → AsksForOne n o1 o3 s1 s3 e1 e3 l1 l3
asks_on n m o1 o2 o3 s1 s2 s3 e1 e2 e3 l1 l2 l3 me a b = record {
  objects_stay = b.objects_stay ∙ a.objects_stay;
  serves_stay = λ x. b.serves_stay x ∙ a.serves_stay x;
  seen_grows = λ x p. IsPrefix_trans (e1 x p) (e2 x p) (e3 x p) (a.seen_grows x p) (b.seen_grows x p);
  own_stay = λ x p d. b.own_stay x p (subst (λ k. x ≢ k) (sym me) d) ∙ a.own_stay x p d;
  looked_stays = λ x p d. b.looked_stays x p (subst (λ k. x ≢ k) (sym me) d) ∙ a.looked_stays x p d;
}

pub writes_on : (n m : ℕ) (s1 s2 s3 : ℕ → Bool) (w1 w2 w3 : ℕ → List OutEntry) → m ≡ n → WritesForOne n s1 s2 w1 w2 → WritesForOne m s2 s3 w2 w3 → WritesForOne n s1 s3 w1 w3
writes_on n m s1 s2 s3 w1 w2 w3 me a b = record { serves_stay = λ x. b.serves_stay x ∙ a.serves_stay x; wrote_stays = λ x d. b.wrote_stays x (subst (λ k. x ≢ k) (sym me) d) ∙ a.wrote_stays x d }

pub works : (b : Bool) → (b ≡ true → false ≡ true) → b ≡ false
works true h = sym (h refl)
works false h = refl

pub never : {X : Type 0} → false ≡ true → X
never h = let w : ⊥ = cc in absurd w

-- a worker that ran before a turn runs after it
pub runs_after : {M : Type 0} (rule : M → life.Rule) (objects : List Object) (seen now : ℕ → ℕ → List Entry) (wrote wrote_now : ℕ → List OutEntry) (v w : ShellView M) (added : List Item)
    → IsAtWork rule objects seen wrote v → v.is_stopped ≡ false → (life.IsWorkersLife (rule v.machine) v.items → life.IsWorkersLife (rule v.machine) w.items) → w.items ≡ v.items ++ added
    → HasAdded objects (seen v.number) (now v.number) (wrote v.number) (wrote_now v.number) v.number added
    → IsRunning (rule v.machine) objects (now v.number) (wrote_now v.number) v.number w.items
runs_after rule objects seen now wrote wrote_now v w added work on lives is has =
    runs_on (rule v.machine) objects (seen v.number) (now v.number) (wrote v.number) (wrote_now v.number) v.number v.items w.items added (work on) lives is has

pub works_on : {M : Type 0} (rule : M → life.Rule) (objects objects_now : List Object) (seen : ℕ → ℕ → List Entry) (wrote : ℕ → List OutEntry) (v w : ShellView M)
    → w.number ≡ v.number → rule w.machine ≡ rule v.machine → objects_now ≡ objects → IsRunning (rule v.machine) objects (seen v.number) (wrote v.number) v.number w.items
    → IsAtWork rule objects_now seen wrote w
works_on rule objects objects_now seen wrote v w number code same running on =
    subst (λ n. IsRunning (rule w.machine) objects_now (seen n) (wrote n) n w.items) (sym number)
    (subst (λ r. IsRunning r objects_now (seen v.number) (wrote v.number) v.number w.items) (sym code)
    (subst (λ os. IsRunning (rule v.machine) os (seen v.number) (wrote v.number) v.number w.items) (sym same) running))

-- what it is parked on
pub ends_on : (objects o2 : List Object) (seen : ℕ → ℕ → List Entry) (n m : ℕ) (first now : List Item) (stopped : Bool) (parked : Option ℕ) (d : Driven)
    → o2 ≡ objects → m ≡ n → IsParkedOn parked d → stopped ≡ false → ((p : ℕ) → parked ≡ Some p → IsDrivenTo o2 (seen m) m first now p) → HasEnded objects (seen n) n first now stopped d
ends_on objects o2 seen n m first now stopped parked (driven.Parked p) same me on going to =
    (going, subst (λ os. IsDrivenTo os (seen n) n first now p) same (subst (λ k. IsDrivenTo o2 (seen k) k first now p) me (to p on)))
ends_on objects o2 seen n m first now stopped parked driven.Stopped same me on going to = absurd on

-- a life goes on after what it went on before
pub life_on : {Code : Type 0} (asks : Code → life.Rule) (k k0 : Code) (first before now : List Item) → k ≡ k0
    → (life.IsWorkersLife (asks k0) first → life.IsWorkersLife (asks k0) before) → (life.IsWorkersLife (asks k) before → life.IsWorkersLife (asks k) now) → life.IsWorkersLife (asks k0) first → life.IsWorkersLife (asks k0) now
life_on asks k k0 first before now e earlier later l = subst (λ x. life.IsWorkersLife (asks x) before → life.IsWorkersLife (asks x) now) e later (earlier l)

-- a shell that was stopped before is given up as it is
pub stopped_same : {M : Type 0} (v w : ShellView M) → v ≡ w → w.is_stopped ≡ true → record { number = v.number; machine = v.machine; items = v.items; is_stopped = true } ≡ w
stopped_same {M} v w same stopped = ap (λ (x : ShellView M). record { number = x.number; machine = x.machine; items = x.items; is_stopped = true }) same ∙ ap (λ b. record { number = w.number; machine = w.machine; items = w.items; is_stopped = b }) (sym stopped)
