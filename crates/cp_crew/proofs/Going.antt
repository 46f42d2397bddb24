-- One round after another, to the end.
use Rattle.std.proofs.Common.{◌≡◌, ◌≢◌, ℕ, suc, ◌+◌, ◌<◌, ◌≤◌, List, [], ◌∷◌, ◌++◌, append-nil, append_assoc, length, refl, sym, ◌∙◌, ap, subst, Bool, true, false, Option, Some, None, arith}
use Rattle.std.specs.Prelude.{All, map, IfSome, ◌&&◌, ◌==◌, nat_le}
use Rattle.std.proofs.lemmas.Bool.{le-leb}
use Rattle.std.proofs.lemmas.List.{length-map}
use Rattle.cp_call.specs.declared.item.RemoteCall.{RemoteCall}
use Rattle.cp_call.specs.declared.item.RemoteReply.{RemoteReply}
use Rattle.cp_call.specs.declared.outcome.OutEntry.{OutEntry}
use Rattle.cp_call.specs.Life.{Rule}
use Rattle.cp_call.specs.Sound.{Object, Going, Sound, is_engine, own_entries, own_writes}
use Rattle.cp_shell.specs.Shell.{ShellView}
use Rattle.cp_shell.proofs.Calling.{leads_on}
use Rattle.std.proofs.lemmas.List.Elements.{filter-append, All-nil, All-cons, All-head, All-tail}
use Rattle.cp_hall.specs.declared.hall.HallRow.{HallRow}
use Rattle.cp_hall.specs.Hall.{HallObject, AreLegal, objects_of, history_at}
use Rattle.cp_out.specs.Port.{PortView, GoesOn, goes_on-here, goes_on-on}
use Rattle.cp_schedule.specs.Awake.{AllKnow, AllParked}
use Rattle.cp_schedule.specs.Record.{AreDriven, workers_setup}
use Rattle.cp_schedule.specs.Ended.{IsFresh, record_ended}
use Rattle.cp_schedule.proofs.Starting.{starts_ready}
use Rattle.cp_turn.specs.Passes.{PassView, TurnstileView, IsOutside, AreFresh, fresh}
use Rattle.cp_turn_hall.specs.Behind.{HallPassView, IsPassOf, AreNew, hall_at_start, new_pass, seen_at}
use Rattle.cp_crew.specs.Crew.{IsLaterShell, AreLater, NoneStopped, MayBegin, IsFurther, HasGoneOn, GoesIfDriven, IsSoundIfParked}
use Rattle.cp_crew.specs.Staff.{SeatedView, IsSeated, AllWorked, HaveWorked, IsOut, IsPortOut, all_seated, hall_pass}
use Rattle.cp_crew.proofs.Gathering.{seated_length}
use Rattle.cp_crew.proofs.Numbered.{Each, each_of, each_at, each_index, nobody_has}
use Rattle.cp_crew.proofs.Working.{Drives, SeesAll, IsBack, are_seated, are_back, passes_back, writers_back, hall_numbers, port_numbers, drive_on, are_later, worked_length}

awake_before : (b now : Bool) → (b ≡ true → now ≡ true) → now ≡ false → b ≡ false
awake_before true now stops is = let w : ⊥ = cc (stops refl, is) in absurd w
awake_before false now stops is = refl

module _ {M C Code : Type 0} (code : M → Code) (went : C → RemoteCall → RemoteReply → C → Type 0) where
  pub later_here : (ss : List (ShellView M)) (cs : List C) → length cs ≡ length ss → AreLater code went ss ss cs cs
  later_here [] [] long = tt
  later_here [] (c ∷ cs) long = absurd (let z : ⊥ = omega arith in z)
  later_here (s ∷ ss) [] long = absurd (let z : ⊥ = omega arith in z)
  later_here (s ∷ ss) (c ∷ cs) long = (
    record { number = refl; code_is = refl; added = []; items = sym (append-nil s.items); stops = λ h. h; calls = λ h. refl },
    later_here ss cs (omega arith),
  )

  later_one : (r s t : ShellView M) (a b c : C) → IsLaterShell code went r s a b → IsLaterShell code went s t b c → IsLaterShell code went r t a c
  later_one r s t a b c x y = record {
    number = y.number ∙ x.number;
    code_is = y.code_is ∙ x.code_is;
    added = x.added ++ y.added;
    items = y.items ∙ (ap (λ xs. xs ++ y.added) x.items ∙ append_assoc r.items x.added y.added);
    stops = λ h. y.stops (x.stops h);
    calls = λ h. leads_on went a x.added y.added b c (x.calls (awake_before s.is_stopped t.is_stopped y.stops h)) (y.calls h);
  }

  pub later_on : (rs ss ts : List (ShellView M)) (az bs cs : List C) → AreLater code went rs ss az bs → AreLater code went ss ts bs cs → AreLater code went rs ts az cs
  later_on [] [] [] [] [] [] x y = tt
  later_on (r ∷ rs) (s ∷ ss) (t ∷ ts) (a ∷ az) (b ∷ bs) (c ∷ cs) x y = (later_one r s t a b c x.0 y.0, later_on rs ss ts az bs cs x.1 y.1)
  later_on [] [] [] [] [] (c ∷ cs) x y = absurd y
  later_on [] [] [] [] (b ∷ bs) cs x y = absurd x
  later_on [] [] [] (a ∷ az) bs cs x y = absurd x
  later_on [] [] (t ∷ ts) az [] cs x y = absurd y
  later_on [] [] (t ∷ ts) [] (b ∷ bs) cs x y = absurd x
  later_on [] [] (t ∷ ts) (a ∷ az) (b ∷ bs) cs x y = absurd x
  later_on [] (s ∷ ss) ts az bs cs x y = absurd x
  later_on (r ∷ rs) [] ts az bs cs x y = absurd x
  later_on (r ∷ rs) (s ∷ ss) ts [] bs cs x y = absurd x
  later_on (r ∷ rs) (s ∷ ss) ts (a ∷ az) [] cs x y = absurd x
  later_on (r ∷ rs) (s ∷ ss) [] (a ∷ az) (b ∷ bs) cs x y = absurd y
  later_on (r ∷ rs) (s ∷ ss) (t ∷ ts) (a ∷ az) (b ∷ bs) [] x y = absurd y

  pub later_count : (ss ts : List (ShellView M)) (bs cs : List C) → AreLater code went ss ts bs cs → (length ts ≡ length ss) × (length cs ≡ length bs)
  later_count [] [] [] [] x = (refl, refl)
  later_count (s ∷ ss) (t ∷ ts) (b ∷ bs) (c ∷ cs) x = let r = later_count ss ts bs cs x.1 in (ap suc r.0, ap suc r.1)
  later_count [] [] [] (c ∷ cs) x = absurd x
  later_count [] [] (b ∷ bs) cs x = absurd x
  later_count [] (t ∷ ts) bs cs x = absurd x
  later_count (s ∷ ss) [] bs cs x = absurd x
  later_count (s ∷ ss) (t ∷ ts) [] cs x = absurd x
  later_count (s ∷ ss) (t ∷ ts) (b ∷ bs) [] x = absurd x

pub if_some : {X : Type 0} {P Q : X → Type 0} (o : Option X) → IfSome o P → ((x : X) → o ≡ Some x → P x → Q x) → IfSome o Q
if_some None h f = tt
if_some (Some x) h f = f x refl h

both : {X : Type 0} (P Q : X → Type 0) (o : Option X) → IfSome o P → IfSome o Q → IfSome o (λ x. P x × Q x)
both P Q None p q = tt
both P Q (Some x) p q = (p, q)

module _ {M S C Code : Type 0} (code : M → Code) (asks : Code → Rule) (count : Code → ℕ) (went : C → RemoteCall → RemoteReply → C → Type 0) where
  -- a crew whose round was refused has gone on by nothing
  pub stays_as_is : (ss : List (ShellView M)) (hall : List HallObject) (port : PortView S) (cs : List C)
      → MayBegin code asks count ss hall port.entries cs → AreLegal hall → HasGoneOn code asks went ss ss hall (Some hall) port port cs cs true
  stays_as_is ss hall port cs may legal = record {
    later = later_here code went ss cs may.callers_are;
    goes_on = goes_on-here port;
    further = record { objects = refl; driven = λ k d. d; only = may.only; legal = legal };
    missing = λ h. refl;
    works = λ h. let w : ⊥ = cc in absurd w;
  }

  -- one whose objects are lost
  pub stays_without : (ss : List (ShellView M)) (hall : List HallObject) (port port' : PortView S) (cs : List C)
      → length cs ≡ length ss → GoesOn port port' → HasGoneOn code asks went ss ss hall None port port' cs cs true
  stays_without ss hall port port' cs long on = record {
    later = later_here code went ss cs long;
    goes_on = on;
    further = tt;
    missing = λ h. refl;
    works = λ h. let w : ⊥ = cc in absurd w;
  }

  -- a round may begin after a round
  pub may_go_on : (ss ts : List (ShellView M)) (hall hall' : List HallObject) (port port' : PortView S) (bs cs : List C)
      → MayBegin code asks count ss hall port.entries bs → AreLater code went ss ts bs cs → IsFurther code asks ss ts hall hall' port.entries port'.entries
      → MayBegin code asks count ts hall' port'.entries cs
  may_go_on ss ts hall hall' port port' bs cs may later f =
      let l = later_count code went ss ts bs cs later in
      record {
        some = subst (λ n. 0 < n) (sym l.0) may.some;
        callers_are = l.1 ∙ may.callers_are ∙ sym l.0;
        ready = record {
          code_is = may.ready.code_is;
          driven = subst (λ os. AreDriven code asks may.ready.code_is os ts hall' port'.entries) (sym f.objects) (f.driven may.ready.code_is may.ready.driven);
          counts = may.ready.counts ∙ ap length (sym f.objects);
        };
        only = f.only;
      }

  -- what two rounds leave
  pub goes_further : (rs ss ts : List (ShellView M)) (hall hall' : List HallObject) (hall'' : Option (List HallObject)) (port port' port'' : PortView S) (az bs cs : List C) (memory : Bool)
      → AreLater code went rs ss az bs → GoesOn port port' → IsFurther code asks rs ss hall hall' port.entries port'.entries
      → HasGoneOn code asks went ss ts hall' hall'' port' port'' bs cs memory → HasGoneOn code asks went rs ts hall hall'' port port'' az cs memory
  goes_further rs ss ts hall hall' hall'' port port' port'' az bs cs memory later on f g = record {
    later = later_on code went rs ss ts az bs cs later g.later;
    goes_on = goes_on-on port port' port'' on g.goes_on;
    further = if_some hall'' g.further (λ h is n. record {
      objects = n.objects ∙ f.objects;
      driven = λ k d. subst (λ os. AreDriven code asks k os ts h port''.entries) f.objects
          (n.driven k (subst (λ os. AreDriven code asks k os ss hall' port'.entries) (sym f.objects) (f.driven k d)));
      only = n.only;
      legal = n.legal;
    });
    missing = g.missing;
    works = g.works;
  }

-- the workers name only objects that there are
pub all_know : {M C Code : Type 0} (code : M → Code) (asks : Code → Rule) (count : Code → ℕ) (ss : List (ShellView M)) (hall : List HallObject) (port : List OutEntry) (cs : List C) → MayBegin code asks count ss hall port cs → AllKnow (length (objects_of hall)) ss
all_know code asks count ss hall port cs may i s at = (may.ready.driven.running i s at).agrees.known

-- new shells may begin
pub begins : {M C Code : Type 0} (code : M → Code) (asks : Code → Rule) (count : Code → ℕ) (ss : List (ShellView M)) (hall : List HallObject) (port : List OutEntry) (cs : List C) → 0 < length ss → IsFresh code count ss hall → length cs ≡ length ss → port ≡ [] → MayBegin code asks count ss hall port cs
begins code asks count ss hall port cs some new long empty = record {
  some = some;
  callers_are = long;
  ready = starts_ready code asks count ss hall port new empty;
  only = record {
    callers = λ n p out. ap (own_entries n) (new.unasked p);
    writers = λ n out. ap (own_writes n) empty;
  };
}

-- an engine has its number
is_in : (n m : ℕ) → 1 ≤ m → m ≤ n → is_engine n m ≡ true
is_in n m low high = ap (λ b. b && nat_le m n) (le-leb 1 m low) ∙ le-leb m n high

not_in : (n q : ℕ) → is_engine n q ≡ false → (m : ℕ) → 1 ≤ m → m < 1 + n → m ≢ q
not_in n q out m low high e = let z : ⊥ = cc (ap (is_engine n) (sym e) ∙ is_in n m low (omega arith), out) in z

module _ {M Code : Type 0} (code : M → Code) (asks : Code → Rule) (k : Code) where
  -- drivers, by their numbers
  pub driven_each : (objects : List Object) (ss : List (ShellView M)) (hall : List HallObject) (port : List OutEntry) → AreDriven code asks k objects ss hall port → Each (Drives code asks k objects hall port) 1 ss
  driven_each objects ss hall port d = each_of (Drives code asks k objects hall port) 1 ss (λ i s at. record { number = d.numbers i s at; code_is = d.codes i s at; running = d.running i s at })

  pub each_driven : (objects : List Object) (ss : List (ShellView M)) (hall : List HallObject) (port : List OutEntry) → objects_of hall ≡ objects → Each (Drives code asks k objects hall port) 1 ss → AreDriven code asks k objects ss hall port
  each_driven objects ss hall port same each = record {
    numbers = λ i s at. (each_at (Drives code asks k objects hall port) 1 ss each i s at).number;
    codes = λ i s at. (each_at (Drives code asks k objects hall port) 1 ss each i s at).code_is;
    objects_are = same;
    running = λ i s at. (each_at (Drives code asks k objects hall port) 1 ss each i s at).running;
  }

abbrev pub SeesHistories : List (TurnstileView HallRow) → List HallObject → HallPassView → Type 0
SeesHistories ts hall h = (p : ℕ) → seen_at ts h.places p ≡ history_at hall p

sees_each : (ts : List (TurnstileView HallRow)) (hall : List HallObject) (n : ℕ) (hs : List HallPassView) → Each (λ m h. h ≡ new_pass ts m) n hs → All (IsPassOf ts) hs → All (SeesHistories ts hall) hs → Each (SeesAll ts hall) n hs
sees_each ts hall n [] new of seen = tt
sees_each ts hall n (h ∷ hs) new of seen = (
  record { number = ap (λ (x : HallPassView). x.number) new.0; of_hall = All-head (IsPassOf ts) h hs of; seen = All-head (SeesHistories ts hall) h hs seen },
  sees_each ts hall (n + 1) hs new.1 (All-tail (IsPassOf ts) h hs of) (All-tail (SeesHistories ts hall) h hs seen),
)

pub each_map : {X : Type 0} {P Q : ℕ → X → Type 0} (n : ℕ) (xs : List X) → ((m : ℕ) (x : X) → P m x → Q m x) → Each P n xs → Each Q n xs
each_map n [] f each = tt
each_map n (x ∷ xs) f each = (f n x each.0, each_map (n + 1) xs f each.1)

-- A round that begins: what it is made of.
pub record HasBegun {M S C Code : Type 0} (code : M → Code) (asks : Code → Rule) (count : Code → ℕ) (ss : List (ShellView M)) (hall : List HallObject) (port : PortView S) (cs : List C)
    (ts : List (TurnstileView HallRow)) (g : TurnstileView (PortView S)) (hs : List HallPassView) (ps : List (PassView OutEntry (PortView S))) : Type 0 where
  pub may : MayBegin code asks count ss hall port.entries cs
  pub start : hall_at_start ts ≡ hall
  pub base : g.base ≡ port
  pub callers : g.callers ≡ length ss
  pub hall_callers : All (λ (t : TurnstileView HallRow). t.callers ≡ length ss) ts
  pub hall_count : length hs ≡ length ss
  pub port_count : length ps ≡ length ss
  pub sees : Each (SeesAll ts hall) 1 hs
  pub fresh_passes : Each (λ m p. p ≡ fresh g m) 1 ps

module _ {M S C Code : Type 0} (code : M → Code) (asks : Code → Rule) (count : Code → ℕ) (went : C → RemoteCall → RemoteReply → C → Type 0)
    (ss : List (ShellView M)) (hall : List HallObject) (port : PortView S) (cs : List C) (ts : List (TurnstileView HallRow)) (g : TurnstileView (PortView S)) (hs : List HallPassView) (ps : List (PassView OutEntry (PortView S))) where
  pub has_begun : MayBegin code asks count ss hall port.entries cs → hall_at_start ts ≡ hall → g.base ≡ port → g.callers ≡ length ss → All (λ (t : TurnstileView HallRow). t.callers ≡ length ss) ts → length hs ≡ length ss
      → AreNew ts hs → All (IsPassOf ts) hs → All (SeesHistories ts hall) hs → AreFresh g ps
      → HasBegun code asks count ss hall port cs ts g hs ps
  has_begun may start base callers hall_callers hall_count new of seen fresh_ps = record {
    may = may;
    start = start;
    base = base;
    callers = callers;
    hall_callers = hall_callers;
    hall_count = hall_count;
    port_count = fresh_ps.0 ∙ callers;
    sees = sees_each ts hall 1 hs (each_index (new_pass ts) 1 hs new) of seen;
    fresh_passes = each_index (fresh g) 1 ps (λ i d h. fresh_ps.1 i d (omega (arith, fresh_ps.0)));
  }

  pub begun_by : (n : ℕ) → n ≡ length ss → MayBegin code asks count ss hall port.entries cs → hall_at_start ts ≡ hall → (g.callers ≡ n) × (g.base ≡ port) × AreFresh g ps
      → All (λ (t : TurnstileView HallRow). t.callers ≡ n) ts × (length hs ≡ n) → AreNew ts hs → All (IsPassOf ts) hs → All (SeesHistories ts hall) hs → HasBegun code asks count ss hall port cs ts g hs ps
  begun_by n long may start made counts new of seen =
      has_begun may start made.1 (made.0 ∙ long) (subst (λ m. All (λ (t : TurnstileView HallRow). t.callers ≡ m) ts) long counts.0) (counts.1 ∙ long) new of seen made.2

  module _ (b : HasBegun code asks count ss hall port cs ts g hs ps) where
    pub begun_seated : All (IsSeated code asks count) (all_seated ts g ss hs ps cs)
    begun_seated = are_seated code asks count b.may.ready.code_is hall port ts g b.start b.base b.may.ready.counts 1 ss hs ps cs
        (driven_each code asks b.may.ready.code_is (objects_of hall) ss hall port.entries b.may.ready.driven) b.sees b.fresh_passes

    pub come_back : (vs : List (SeatedView M S C)) (k : Code) → AreDriven code asks k (objects_of hall) ss hall port.entries → AllWorked code went (all_seated ts g ss hs ps cs) vs → All (IsSeated code asks count) vs
        → Each (IsBack code asks count went k ts g) 1 vs
    come_back vs k driven worked is = are_back code asks count went k ts g 1 ss hs ps cs vs
        (each_map 1 ss (λ m s d. (d.number, d.code_is)) (driven_each code asks k (objects_of hall) ss hall port.entries driven))
        (each_map 1 hs (λ m h s. s.number) b.sees)
        (each_map 1 ps (λ m p e. ap (λ (x : PassView OutEntry (PortView S)). x.number) e) b.fresh_passes)
        worked is

    back_now : (vs : List (SeatedView M S C)) → AllWorked code went (all_seated ts g ss hs ps cs) vs → All (IsSeated code asks count) vs → Each (IsBack code asks count went b.may.ready.code_is ts g) 1 vs
    back_now vs worked is = come_back vs b.may.ready.code_is b.may.ready.driven worked is

    pub count_back : (vs : List (SeatedView M S C)) → AllWorked code went (all_seated ts g ss hs ps cs) vs → length vs ≡ length ss
    count_back vs worked = worked_length code went ts g (all_seated ts g ss hs ps cs) vs worked ∙ seated_length ts g ss hs ps cs b.hall_count b.port_count b.may.callers_are

    -- the passes that come back are those that the turnstiles are closed with
    pub hall_back : (vs : List (SeatedView M S C)) → AllWorked code went (all_seated ts g ss hs ps cs) vs → All (IsSeated code asks count) vs
        → All (IsPassOf ts) (map hall_pass vs) × All (λ (t : TurnstileView HallRow). t.callers ≡ length (map hall_pass vs)) ts
    hall_back vs worked is = (
      passes_back code asks count went b.may.ready.code_is ts g 1 vs (back_now vs worked is),
      subst (λ n. All (λ (t : TurnstileView HallRow). t.callers ≡ n) ts) (sym (length-map vs hall_pass ∙ count_back vs worked)) b.hall_callers,
    )

    pub port_back : (vs : List (SeatedView M S C)) → AllWorked code went (all_seated ts g ss hs ps cs) vs → All (IsSeated code asks count) vs
        → All (IsOutside g) (map (λ (v : SeatedView M S C). v.port.pass) vs) × (length (map (λ (v : SeatedView M S C). v.port.pass) vs) ≡ g.callers)
    port_back vs worked is = (
      writers_back code asks count went b.may.ready.code_is ts g 1 vs (back_now vs worked is),
      length-map vs (λ (v : SeatedView M S C). v.port.pass) ∙ count_back vs worked ∙ sym b.callers,
    )

    -- what the round leaves
    pub round_done : (vs : List (SeatedView M S C)) (out : Option (List HallObject)) (port' : PortView S) (memory : Bool)
        → AllWorked code went (all_seated ts g ss hs ps cs) vs → All (IsSeated code asks count) vs
        → IfSome out (λ h. IsOut ts (map hall_pass vs) h) → IsPortOut g (map (λ (v : SeatedView M S C). v.port.pass) vs) port'
        → (out ≡ None → memory ≡ true) → (memory ≡ false → NoneStopped (map (λ (v : SeatedView M S C). v.shell) vs))
        → HasGoneOn code asks went ss (map (λ (v : SeatedView M S C). v.shell) vs) hall out port port' cs (map (λ (v : SeatedView M S C). v.caller) vs) memory
    round_done vs out port' memory worked is outs po missing works = record {
      later = are_later code went ts g ss hs ps cs vs b.hall_count b.port_count b.may.callers_are worked;
      goes_on = subst (λ x. GoesOn x port') b.base po.goes_on;
      further = if_some out outs (λ h eq o. record {
        objects = o.objects ∙ ap objects_of b.start;
        driven = λ k d. each_driven code asks k (objects_of hall) (map (λ (v : SeatedView M S C). v.shell) vs) h port'.entries (o.objects ∙ ap objects_of b.start)
            (subst (λ hl. Each (Drives code asks k (objects_of hl) h port'.entries) 1 (map (λ (v : SeatedView M S C). v.shell) vs)) b.start
            (drive_on code asks count went k ts g h po.later port'.entries po.entries 1 vs (come_back vs k d worked is) o.seen po.seen));
        only = record {
          callers = λ n p none. o.others n p (nobody_has (λ (x : HallPassView). x.number) n 1 (map hall_pass vs) (hall_numbers code asks count went b.may.ready.code_is ts g 1 vs (back_now vs worked is)) (outside n none (length (map hall_pass vs)) (length-map vs hall_pass)))
              ∙ (ap (λ hl. own_entries n (history_at hl p)) b.start ∙ b.may.only.callers n p (engine_not n none));
          writers = λ n none. ap (own_writes n) po.entries
              ∙ (filter-append (λ (e : OutEntry). e.engine == n) g.base.entries po.later
              ∙ (ap (λ xs. own_writes n g.base.entries ++ xs) (po.others n (nobody_has (λ (x : PassView OutEntry (PortView S)). x.number) n 1 (map (λ (v : SeatedView M S C). v.port.pass) vs) (port_numbers code asks count went b.may.ready.code_is ts g 1 vs (back_now vs worked is)) (outside n none (length (map (λ (v : SeatedView M S C). v.port.pass) vs)) (length-map vs (λ (v : SeatedView M S C). v.port.pass)))))
              ∙ (append-nil (own_writes n g.base.entries)
              ∙ (ap (λ (x : PortView S). own_writes n x.entries) b.base ∙ b.may.only.writers n (engine_not n none)))));
        };
        legal = o.legal;
      });
      missing = missing;
      works = works;
    }
      where
        engine_not : (n : ℕ) → is_engine (length (map (λ (v : SeatedView M S C). v.shell) vs)) n ≡ false → is_engine (length ss) n ≡ false
        engine_not n none = ap (λ c. is_engine c n) (sym (length-map vs (λ (v : SeatedView M S C). v.shell) ∙ count_back vs worked)) ∙ none

        outside : (n : ℕ) → is_engine (length (map (λ (v : SeatedView M S C). v.shell) vs)) n ≡ false → (l : ℕ) → l ≡ length vs → (m : ℕ) → 1 ≤ m → m < 1 + l → m ≢ n
        outside n none l same m low high = not_in (length ss) n (engine_not n none) m low (let e : l ≡ length ss = same ∙ count_back vs worked in omega (arith, e))

    -- the same, by what the workers have left
    module _ (ss' : List (ShellView M)) (hs' : List HallPassView) (ps' : List (PassView OutEntry (PortView S))) (cs' : List C) (hw : HaveWorked code asks count went (all_seated ts g ss hs ps cs) ss' hs' ps' cs') where
      pub counts_done : (length ss' ≡ length ss) × (length hs' ≡ length ss) × (length ps' ≡ length ss) × (length cs' ≡ length ss)
      counts_done =
          let l = count_back hw.now hw.worked in (
            ap length hw.shells_are ∙ (length-map hw.now (λ (v : SeatedView M S C). v.shell) ∙ l),
            ap length hw.hall_passes_are ∙ (length-map hw.now hall_pass ∙ l),
            ap length hw.port_passes_are ∙ (length-map hw.now (λ (v : SeatedView M S C). v.port.pass) ∙ l),
            ap length hw.callers_are ∙ (length-map hw.now (λ (v : SeatedView M S C). v.caller) ∙ l),
          )

      pub hall_done : All (IsPassOf ts) hs' × All (λ (t : TurnstileView HallRow). t.callers ≡ length hs') ts
      hall_done = subst (λ (x : List HallPassView). All (IsPassOf ts) x × All (λ (t : TurnstileView HallRow). t.callers ≡ length x) ts) (sym hw.hall_passes_are) (hall_back hw.now hw.worked hw.seated)

      pub port_done : All (IsOutside g) ps' × (length ps' ≡ g.callers)
      port_done = subst (λ (x : List (PassView OutEntry (PortView S))). All (IsOutside g) x × (length x ≡ g.callers)) (sym hw.port_passes_are) (port_back hw.now hw.worked hw.seated)

      pub crew_done : (out : Option (List HallObject)) (port' : PortView S) (memory : Bool) → IfSome out (λ h. IsOut ts hs' h) → IsPortOut g ps' port'
          → (out ≡ None → memory ≡ true) → (memory ≡ false → NoneStopped ss') → HasGoneOn code asks went ss ss' hall out port port' cs cs' memory
      crew_done out port' memory outs po missing works =
          subst (λ x. HasGoneOn code asks went ss x hall out port port' cs cs' memory) (sym hw.shells_are)
          (subst (λ y. HasGoneOn code asks went ss (map (λ (v : SeatedView M S C). v.shell) hw.now) hall out port port' cs y memory) (sym hw.callers_are)
          (round_done hw.now out port' memory hw.worked hw.seated
          (subst (λ (x : List HallPassView). IfSome out (λ h. IsOut ts x h)) hw.hall_passes_are outs)
          (subst (λ (x : List (PassView OutEntry (PortView S))). IsPortOut g x port') hw.port_passes_are po)
          missing
          (λ awake. subst (λ (x : List (ShellView M)). NoneStopped x) hw.shells_are (works awake))))

-- the same workers, of the same lists
pub seated_same : {M S C : Type 0} (ts : List (TurnstileView HallRow)) (g : TurnstileView (PortView S)) (ss ss' : List (ShellView M)) (hs hs' : List HallPassView) (ps ps' : List (PassView OutEntry (PortView S))) (cs cs' : List C)
    → ss' ≡ ss → hs' ≡ hs → ps' ≡ ps → cs' ≡ cs → all_seated ts g ss' hs' ps' cs' ≡ all_seated ts g ss hs ps cs
seated_same ts g ss ss' hs hs' ps ps' cs cs' es eh ep ec =
    ap (λ l. all_seated ts g l hs' ps' cs') es ∙ (ap (λ l. all_seated ts g ss l ps' cs') eh ∙ (ap (λ l. all_seated ts g ss hs l cs') ep ∙ ap (λ l. all_seated ts g ss hs ps l) ec))

each_all : {X : Type 0} {P : ℕ → X → Type 0} (Q : X → Type 0) (n : ℕ) (xs : List X) → ((m : ℕ) (x : X) → P m x → Q x) → Each P n xs → All Q xs
each_all Q n [] f each = All-nil Q
each_all Q n (x ∷ xs) f each = All-cons Q x xs (f n x each.0) (each_all Q (n + 1) xs f each.1)

-- passes that are made are outside
pub fresh_outside : {E B : Type 0} (g : TurnstileView B) (ps : List (PassView E B)) → AreFresh g ps → All (IsOutside g) ps
fresh_outside g ps made = each_all (IsOutside g) 1 ps (λ m p e. subst (IsOutside g) (sym e) ((refl, refl), refl)) (each_index (fresh g) 1 ps (λ i d h. made.1 i d (omega (arith, made.0))))

module _ {M S C Code : Type 0} (code : M → Code) (asks : Code → Rule) (count : Code → ℕ) (went : C → RemoteCall → RemoteReply → C → Type 0)
    (ss ts : List (ShellView M)) (hall : List HallObject) (hall' : Option (List HallObject)) (port port' : PortView S) (bs cs : List C) (memory : Bool) where
  pub may_after : MayBegin code asks count ss hall port.entries bs → HasGoneOn code asks went ss ts hall hall' port port' bs cs memory → IfSome hall' (λ h. MayBegin code asks count ts h port'.entries cs)
  may_after may gone = if_some hall' gone.further (λ h is f. may_go_on code asks count went ss ts hall h port port' bs cs may gone.later f)

  pub known_after : MayBegin code asks count ss hall port.entries bs → HasGoneOn code asks went ss ts hall hall' port port' bs cs memory → IfSome hall' (λ h. AllKnow (length (objects_of h)) ts)
  known_after may gone = if_some hall' (may_after may gone) (λ h is m. all_know code asks count ts h port'.entries cs m)

  pub going_at_end : (k : Code) (steps : ℕ) → AreDriven code asks k (objects_of hall) ss hall port.entries → HasGoneOn code asks went ss ts hall hall' port port' bs cs memory
      → IfSome hall' (λ h. GoesIfDriven code asks ts h port'.entries) → IfSome hall' (λ h. Going (workers_setup (asks k) (objects_of hall)) (record_ended steps ts h port'.entries))
  going_at_end k steps driven gone law = if_some hall' (both _ _ hall' gone.further law) (λ h is b.
      subst (λ os. Going (workers_setup (asks k) os) (record_ended steps ts h port'.entries)) b.0.objects
      (b.1 k steps (subst (λ os. AreDriven code asks k os ts h port'.entries) (sym b.0.objects) (b.0.driven k driven)) b.0.legal b.0.only))

  pub sound_at_end : (k : Code) (steps : ℕ) → AreDriven code asks k (objects_of hall) ss hall port.entries → HasGoneOn code asks went ss ts hall hall' port port' bs cs memory
      → IfSome hall' (λ h. IsSoundIfParked code asks ts h port'.entries) → IfSome hall' (λ h. AllParked h ts) → IfSome hall' (λ h. Sound (workers_setup (asks k) (objects_of hall)) (record_ended steps ts h port'.entries))
  sound_at_end k steps driven gone law parked = if_some hall' (both _ _ hall' gone.further (both _ _ hall' law parked)) (λ h is b.
      subst (λ os. Sound (workers_setup (asks k) os) (record_ended steps ts h port'.entries)) b.0.objects
      (b.1.0 k steps (subst (λ os. AreDriven code asks k os ts h port'.entries) (sym b.0.objects) (b.0.driven k driven)) b.0.legal b.0.only b.1.1))

pub go_after : {M S C Code : Type 0} (code : M → Code) (asks : Code → Rule) (count : Code → ℕ) (went : C → RemoteCall → RemoteReply → C → Type 0)
    (rs ss ts : List (ShellView M)) (hall : List HallObject) (hall' hall'' : Option (List HallObject)) (port port' port'' : PortView S) (az bs cs : List C) (memory memory' : Bool)
    → HasGoneOn code asks went rs ss hall hall' port port' az bs memory → memory ≡ false
    → IfSome hall' (λ h. HasGoneOn code asks went ss ts h hall'' port' port'' bs cs memory') → HasGoneOn code asks went rs ts hall hall'' port port'' az cs memory'
go_after code asks count went rs ss ts hall None hall'' port port' port'' az bs cs memory memory' gone awake next = let w : ⊥ = cc (gone.missing refl, awake) in absurd w
go_after code asks count went rs ss ts hall (Some h) hall'' port port' port'' az bs cs memory memory' gone awake next =
    goes_further code asks count went rs ss ts hall h hall'' port port' port'' az bs cs memory' gone.later gone.goes_on gone.further next

pub if_any : {X : Type 0} (P : X → Type 0) (o : Option X) → ((x : X) → P x) → IfSome o P
if_any P None f = tt
if_any P (Some x) f = f x
