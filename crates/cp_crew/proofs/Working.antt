-- The workers of a round, from before it to after it.
use Rattle.std.proofs.Common.{◌≡◌, ℕ, suc, ◌+◌, ◌<◌, List, [], ◌∷◌, ◌++◌, append-nil, length, refl, sym, ◌∙◌, ap, subst, Bool, true, false, cond, arith, eq-eqb}
use Rattle.std.specs.Prelude.{All, map, slice_index_or, ◌==◌}
use Rattle.std.proofs.lemmas.List.Elements.{filter-append, All-nil, All-cons, All-head, All-tail}
use Rattle.cp_call.specs.declared.call.Entry.{Entry}
use Rattle.cp_call.specs.declared.item.Item.{Item}
use Rattle.cp_call.specs.declared.item.RemoteCall.{RemoteCall}
use Rattle.cp_call.specs.declared.item.RemoteReply.{RemoteReply}
use Rattle.cp_call.specs.declared.outcome.OutEntry.{OutEntry}
use Rattle.cp_call.specs.Life.{Rule}
use Rattle.cp_call.specs.Running.{IsRunning}
use Rattle.cp_call.specs.Sound.{Object, Agrees, own_entries, own_writes}
use Rattle.cp_call.proofs.Event.{Agrees-others}
use Rattle.cp_list.specs.Lists.{IsPrefix, own}
use Rattle.cp_shell.specs.Shell.{ShellView}
use Rattle.cp_hall.specs.declared.hall.HallRow.{HallRow}
use Rattle.cp_hall.specs.Hall.{HallObject, objects_of, history_at}
use Rattle.cp_out.specs.Port.{PortView}
use Rattle.cp_turn.specs.Passes.{PassView, TurnstileView, IsOutside, ExtendsSeen, fresh}
use Rattle.cp_turn_hall.specs.Behind.{HallPassView, SeatView, IsPassOf, IsSeenIn, hall_at_start, seen_at, seen_for}
use Rattle.cp_turn_port.specs.Seat.{PortSeatView, wrote_for}
use Rattle.cp_crew.specs.Crew.{AreLater}
use Rattle.cp_crew.specs.Staff.{SeatedView, IsSeated, Worked, AllWorked, seated, all_seated, hall_pass}
use Rattle.cp_crew.proofs.Numbered.{Each}

same_prefix : {X : Type 0} (xs ys : List X) → xs ≡ ys → IsPrefix xs ys
same_prefix xs ys e = ([], sym e ∙ sym (append-nil xs))

-- a shell drives running worker n of a code
pub record Drives {M Code : Type 0} (code : M → Code) (asks : Code → Rule) (k : Code) (objects : List Object) (hall : List HallObject) (port : List OutEntry) (n : ℕ) (s : ShellView M) : Type 0 where
  pub number : s.number ≡ n
  pub code_is : code s.machine ≡ k
  pub running : IsRunning (asks k) objects (history_at hall) (own_writes n port) n s.items

-- a pass of caller n that has seen the objects as they are
pub record SeesAll (ts : List (TurnstileView HallRow)) (hall : List HallObject) (n : ℕ) (h : HallPassView) : Type 0 where
  pub number : h.number ≡ n
  pub of_hall : IsPassOf ts h
  pub seen : (p : ℕ) → seen_at ts h.places p ≡ history_at hall p

wrote_none : (earlier mine : List OutEntry) (b : Bool) → mine ≡ [] → earlier ++ cond b mine [] ≡ earlier
wrote_none earlier mine true e = ap (λ xs. earlier ++ xs) e ∙ append-nil earlier
wrote_none earlier mine false e = append-nil earlier

-- the running worker n, told by other means of what was seen and written
run_by : (rule : Rule) (os : List Object) (h h' : ℕ → List Entry) (w w' : List OutEntry) (n : ℕ) (items : List Item)
    → ((q : ℕ) → IsPrefix (h q) (h' q)) → ((q : ℕ) → own_entries n (h' q) ≡ own_entries n (h q)) → w ≡ w'
    → IsRunning rule os h w n items → IsRunning rule os h' w' n items
run_by rule os h h' w w' n items grows own same r = record {
  life = r.life;
  agrees = subst (λ x. Agrees os h' x n items) same (Agrees-others os h h' w n items grows own r.agrees);
}

module _ {M S C Code : Type 0} (code : M → Code) (asks : Code → Rule) (count : Code → ℕ) (k : Code) (hall : List HallObject) (port : PortView S) (ts : List (TurnstileView HallRow)) (g : TurnstileView (PortView S)) where
  seated_here : hall_at_start ts ≡ hall → g.base ≡ port → count k ≡ length (objects_of hall) → (n : ℕ) (s : ShellView M) (h : HallPassView) (p : PassView OutEntry (PortView S)) (c : C)
      → Drives code asks k (objects_of hall) hall port.entries n s → SeesAll ts hall n h → p ≡ fresh g n → IsSeated code asks count (seated ts g s h p c)
  seated_here start base counts n s h p c d sees new = record {
    objects = sees.of_hall;
    outside = subst (IsOutside g) (sym new) ((refl, refl), refl);
    tied = record {
      counts = ap count d.code_is ∙ counts ∙ ap (λ hs. length (objects_of hs)) (sym start);
      asks = eq-eqb s.number h.number (d.number ∙ sym sees.number);
      puts = eq-eqb p.number s.number (ap (λ x. x.number) new ∙ sym d.number);
      running =
          subst (λ r. IsRunning (asks r) (objects_of (hall_at_start ts)) (seen_for seat s.number) (wrote_for writer s.number) s.number s.items) (sym d.code_is)
          (subst (λ hs. IsRunning (asks k) (objects_of hs) (seen_for seat s.number) (wrote_for writer s.number) s.number s.items) (sym start)
          (subst (λ m. IsRunning (asks k) (objects_of hall) (seen_for seat m) (wrote_for writer m) m s.items) (sym d.number) here));
    };
  }
    where
      seat : SeatView
      seat = record { turnstiles = ts; number = h.number; places = h.places }

      writer : PortSeatView S
      writer = record { turn = g; pass = p }

      seen : (q : ℕ) → seen_for seat n q ≡ history_at hall q
      seen q = ap (λ b. cond b (seen_at ts h.places q) (history_at (hall_at_start ts) q)) (eq-eqb n h.number (sym sees.number)) ∙ sees.seen q

      wrote : own_writes n port.entries ≡ wrote_for writer n
      wrote = ap (λ (x : PortView S). own_writes n x.entries) (sym base) ∙ sym (wrote_none (own_writes n g.base.entries) p.mine (p.number == n) (ap (λ x. x.mine) new))

      here : IsRunning (asks k) (objects_of hall) (seen_for seat n) (wrote_for writer n) n s.items
      here = run_by (asks k) (objects_of hall) (history_at hall) (seen_for seat n) (own_writes n port.entries) (wrote_for writer n) n s.items
          (λ q. same_prefix (history_at hall q) (seen_for seat n q) (sym (seen q))) (λ q. ap (own_entries n) (seen q)) wrote d.running

  pub are_seated : hall_at_start ts ≡ hall → g.base ≡ port → count k ≡ length (objects_of hall) → (n : ℕ) (ss : List (ShellView M)) (hs : List HallPassView) (ps : List (PassView OutEntry (PortView S))) (cs : List C)
      → Each (Drives code asks k (objects_of hall) hall port.entries) n ss → Each (SeesAll ts hall) n hs → Each (λ m p. p ≡ fresh g m) n ps
      → All (IsSeated code asks count) (all_seated ts g ss hs ps cs)
  are_seated start base counts n [] hs ps cs d sees new = All-nil (IsSeated code asks count)
  are_seated start base counts n (s ∷ ss) [] ps cs d sees new = All-nil (IsSeated code asks count)
  are_seated start base counts n (s ∷ ss) (h ∷ hs) [] cs d sees new = All-nil (IsSeated code asks count)
  are_seated start base counts n (s ∷ ss) (h ∷ hs) (p ∷ ps) [] d sees new = All-nil (IsSeated code asks count)
  are_seated start base counts n (s ∷ ss) (h ∷ hs) (p ∷ ps) (c ∷ cs) d sees new =
      All-cons (IsSeated code asks count) (seated ts g s h p c) (all_seated ts g ss hs ps cs) (seated_here start base counts n s h p c d.0 sees.0 new.0) (are_seated start base counts (n + 1) ss hs ps cs d.1 sees.1 new.1)

-- each worker has worked
module _ {M S C Code : Type 0} (code : M → Code) (went : C → RemoteCall → RemoteReply → C → Type 0) where
  pub all_worked : (ws vs : List (SeatedView M S C)) → length vs ≡ length ws → ((i : ℕ) (d : SeatedView M S C) → i < length ws → Worked code went (slice_index_or ws i d) (slice_index_or vs i d)) → AllWorked code went ws vs
  all_worked [] [] long each = tt
  all_worked [] (v ∷ vs) long each = absurd (let z : ⊥ = omega arith in z)
  all_worked (w ∷ ws) [] long each = absurd (let z : ⊥ = omega arith in z)
  all_worked (w ∷ ws) (v ∷ vs) long each = (each 0 w (omega arith), all_worked ws vs (omega arith) (λ i d h. each (suc i) d (omega arith)))

-- what a round leaves of each worker: it is at the same seats, with the same number
module _ {M S C Code : Type 0} (code : M → Code) (asks : Code → Rule) (count : Code → ℕ) (went : C → RemoteCall → RemoteReply → C → Type 0) (k : Code) (ts : List (TurnstileView HallRow)) (g : TurnstileView (PortView S)) where
  pub record KeepsSeats (n : ℕ) (s : ShellView M) (h : HallPassView) (p : PassView OutEntry (PortView S)) : Type 0 where
    pub number : s.number ≡ n
    pub code_is : code s.machine ≡ k
    pub hall_number : h.number ≡ n
    pub port_number : p.number ≡ n

  -- a worker after the round, at the seats that it began with
  pub record IsBack (n : ℕ) (v : SeatedView M S C) : Type 0 where
    pub keeps : KeepsSeats n v.shell (hall_pass v) v.port.pass
    pub objects : v.asker.turnstiles ≡ ts
    pub turn : v.port.turn ≡ g
    pub seated : IsSeated code asks count v

  back_here : (n : ℕ) (s : ShellView M) (h : HallPassView) (p : PassView OutEntry (PortView S)) (c : C) (v : SeatedView M S C)
      → KeepsSeats n s h p → Worked code went (seated ts g s h p c) v → IsSeated code asks count v → IsBack n v
  back_here n s h p c v keeps worked is = record {
    keeps = record {
      number = worked.number ∙ keeps.number;
      code_is = worked.code_is ∙ keeps.code_is;
      hall_number = worked.asker.1 ∙ keeps.hall_number;
      port_number = worked.port.number ∙ keeps.port_number;
    };
    objects = worked.asker.0;
    turn = worked.port.turn;
    seated = is;
  }

  pub are_back : (n : ℕ) (ss : List (ShellView M)) (hs : List HallPassView) (ps : List (PassView OutEntry (PortView S))) (cs : List C) (vs : List (SeatedView M S C))
      → Each (λ m s. (s.number ≡ m) × (code s.machine ≡ k)) n ss → Each (λ m h. h.number ≡ m) n hs → Each (λ m p. p.number ≡ m) n ps
      → AllWorked code went (all_seated ts g ss hs ps cs) vs → All (IsSeated code asks count) vs → Each IsBack n vs
  are_back n ss hs ps cs [] d eh ep worked is = tt
  are_back n [] hs ps cs (v ∷ vs) d eh ep worked is = absurd worked
  are_back n (s ∷ ss) [] ps cs (v ∷ vs) d eh ep worked is = absurd worked
  are_back n (s ∷ ss) (h ∷ hs) [] cs (v ∷ vs) d eh ep worked is = absurd worked
  are_back n (s ∷ ss) (h ∷ hs) (p ∷ ps) [] (v ∷ vs) d eh ep worked is = absurd worked
  are_back n (s ∷ ss) (h ∷ hs) (p ∷ ps) (c ∷ cs) (v ∷ vs) d eh ep worked is = (
    back_here n s h p c v (record { number = d.0.0; code_is = d.0.1; hall_number = eh.0; port_number = ep.0 }) worked.0 (All-head (IsSeated code asks count) v vs is),
    are_back (n + 1) ss hs ps cs vs d.1 eh.1 ep.1 worked.1 (All-tail (IsSeated code asks count) v vs is),
  )

  -- so their passes are of these turnstiles, outside, and numbered
  pub passes_back : (n : ℕ) (vs : List (SeatedView M S C)) → Each IsBack n vs → All (IsPassOf ts) (map hall_pass vs)
  passes_back n [] back = All-nil (IsPassOf ts)
  passes_back n (v ∷ vs) back = All-cons (IsPassOf ts) (hall_pass v) (map hall_pass vs) (subst (λ x. IsPassOf x (hall_pass v)) back.0.objects back.0.seated.objects) (passes_back (n + 1) vs back.1)

  pub writers_back : (n : ℕ) (vs : List (SeatedView M S C)) → Each IsBack n vs → All (IsOutside g) (map (λ (v : SeatedView M S C). v.port.pass) vs)
  writers_back n [] back = All-nil (IsOutside g)
  writers_back n (v ∷ vs) back = All-cons (IsOutside g) v.port.pass (map (λ (v : SeatedView M S C). v.port.pass) vs) (subst (λ x. IsOutside x v.port.pass) back.0.turn back.0.seated.outside) (writers_back (n + 1) vs back.1)

  pub hall_numbers : (n : ℕ) (vs : List (SeatedView M S C)) → Each IsBack n vs → Each (λ m (h : HallPassView). h.number ≡ m) n (map hall_pass vs)
  hall_numbers n [] back = tt
  hall_numbers n (v ∷ vs) back = (back.0.keeps.hall_number, hall_numbers (n + 1) vs back.1)

  pub port_numbers : (n : ℕ) (vs : List (SeatedView M S C)) → Each IsBack n vs → Each (λ m (p : PassView OutEntry (PortView S)). p.number ≡ m) n (map (λ (v : SeatedView M S C). v.port.pass) vs)
  port_numbers n [] back = tt
  port_numbers n (v ∷ vs) back = (back.0.keeps.port_number, port_numbers (n + 1) vs back.1)

  -- and their shells drive running workers over the objects and the port that come out
  module _ (out : List HallObject) (later : List OutEntry) (entries : List OutEntry) (entries_are : entries ≡ g.base.entries ++ later) where
    drives_here : (n : ℕ) (v : SeatedView M S C) → IsBack n v → IsSeenIn out ts (hall_pass v) → ExtendsSeen (λ (e : OutEntry). e.engine) later v.port.pass
        → Drives code asks k (objects_of (hall_at_start ts)) out entries n v.shell
    drives_here n v b seen_in extends = record {
      number = b.keeps.number;
      code_is = b.keeps.code_is;
      running =
          subst (λ m. IsRunning (asks k) (objects_of (hall_at_start ts)) (history_at out) (own_writes m entries) m v.shell.items) b.keeps.number
          (subst (λ r. IsRunning (asks r) (objects_of (hall_at_start ts)) (history_at out) (own_writes v.shell.number entries) v.shell.number v.shell.items) b.keeps.code_is
          (subst (λ x. IsRunning (asks (code v.shell.machine)) (objects_of (hall_at_start x)) (history_at out) (own_writes v.shell.number entries) v.shell.number v.shell.items) b.objects here));
    }
      where
        m : ℕ
        m = v.shell.number

        same_hall : m ≡ v.asker.number
        same_hall = b.keeps.number ∙ sym b.keeps.hall_number

        seen : (q : ℕ) → seen_at ts v.asker.places q ≡ seen_for v.asker m q
        seen q = ap (λ x. seen_at x v.asker.places q) (sym b.objects) ∙ sym (ap (λ t. cond t (seen_at v.asker.turnstiles v.asker.places q) (history_at (hall_at_start v.asker.turnstiles) q)) (eq-eqb m v.asker.number same_hall))

        grows : (q : ℕ) → IsPrefix (seen_for v.asker m q) (history_at out q)
        grows q = subst (λ xs. IsPrefix xs (history_at out q)) (seen q) (seen_in q).0

        own_same : (q : ℕ) → own_entries m (history_at out q) ≡ own_entries m (seen_for v.asker m q)
        own_same q = subst (λ a. own_entries a (history_at out q) ≡ own_entries a (seen_at ts v.asker.places q)) (sym same_hall) (seen_in q).1 ∙ ap (own_entries m) (seen q)

        port_same : v.port.pass.number ≡ m
        port_same = b.keeps.port_number ∙ sym b.keeps.number

        mine : v.port.pass.mine ≡ own_writes m later
        mine = sym extends.1 ∙ ap (λ a. own_writes a later) port_same

        wrote : wrote_for v.port m ≡ own_writes m entries
        wrote = ap (λ t. own_writes m v.port.turn.base.entries ++ cond t v.port.pass.mine []) (eq-eqb v.port.pass.number m port_same)
            ∙ (ap (λ xs. own_writes m v.port.turn.base.entries ++ xs) mine
            ∙ (ap (λ (t : TurnstileView (PortView S)). own_writes m t.base.entries ++ own_writes m later) b.turn
            ∙ (sym (filter-append (λ (e : OutEntry). e.engine == m) g.base.entries later)
            ∙ ap (own_writes m) (sym entries_are))))

        here : IsRunning (asks (code v.shell.machine)) (objects_of (hall_at_start v.asker.turnstiles)) (history_at out) (own_writes m entries) m v.shell.items
        here = run_by (asks (code v.shell.machine)) (objects_of (hall_at_start v.asker.turnstiles)) (seen_for v.asker m) (history_at out) (wrote_for v.port m) (own_writes m entries) m v.shell.items
            grows own_same wrote b.seated.tied.running

    pub drive_on : (n : ℕ) (vs : List (SeatedView M S C)) → Each IsBack n vs → All (IsSeenIn out ts) (map hall_pass vs)
        → All (ExtendsSeen (λ (e : OutEntry). e.engine) later) (map (λ (v : SeatedView M S C). v.port.pass) vs)
        → Each (Drives code asks k (objects_of (hall_at_start ts)) out entries) n (map (λ (v : SeatedView M S C). v.shell) vs)
    drive_on n [] back seen extends = tt
    drive_on n (v ∷ vs) back seen extends = (
      drives_here n v back.0 (All-head (IsSeenIn out ts) (hall_pass v) (map hall_pass vs) seen) (All-head (ExtendsSeen (λ (e : OutEntry). e.engine) later) v.port.pass (map (λ (v : SeatedView M S C). v.port.pass) vs) extends),
      drive_on (n + 1) vs back.1 (All-tail (IsSeenIn out ts) (hall_pass v) (map hall_pass vs) seen) (All-tail (ExtendsSeen (λ (e : OutEntry). e.engine) later) v.port.pass (map (λ (v : SeatedView M S C). v.port.pass) vs) extends),
    )

-- each shell and its caller are later ones
module _ {M S C Code : Type 0} (code : M → Code) (went : C → RemoteCall → RemoteReply → C → Type 0) (ts : List (TurnstileView HallRow)) (g : TurnstileView (PortView S)) where
  pub are_later : (ss : List (ShellView M)) (hs : List HallPassView) (ps : List (PassView OutEntry (PortView S))) (cs : List C) (vs : List (SeatedView M S C))
      → length hs ≡ length ss → length ps ≡ length ss → length cs ≡ length ss
      → AllWorked code went (all_seated ts g ss hs ps cs) vs → AreLater code went ss (map (λ (v : SeatedView M S C). v.shell) vs) cs (map (λ (v : SeatedView M S C). v.caller) vs)
  are_later [] hs ps [] [] lh lp lc worked = tt
  are_later [] hs ps (c ∷ cs) vs lh lp lc worked = absurd (let z : ⊥ = omega arith in z)
  are_later [] hs ps [] (v ∷ vs) lh lp lc worked = absurd worked
  are_later (s ∷ ss) [] ps cs vs lh lp lc worked = absurd (let z : ⊥ = omega arith in z)
  are_later (s ∷ ss) (h ∷ hs) [] cs vs lh lp lc worked = absurd (let z : ⊥ = omega arith in z)
  are_later (s ∷ ss) (h ∷ hs) (p ∷ ps) [] vs lh lp lc worked = absurd (let z : ⊥ = omega arith in z)
  are_later (s ∷ ss) (h ∷ hs) (p ∷ ps) (c ∷ cs) [] lh lp lc worked = absurd worked
  are_later (s ∷ ss) (h ∷ hs) (p ∷ ps) (c ∷ cs) (v ∷ vs) lh lp lc worked = (
    record {
      number = worked.0.number;
      code_is = worked.0.code_is;
      added = worked.0.added;
      items = worked.0.items;
      stops = worked.0.stops;
      calls = worked.0.calls;
    },
    are_later ss hs ps cs vs (omega arith) (omega arith) (omega arith) worked.1,
  )

  pub worked_length : (ws vs : List (SeatedView M S C)) → AllWorked code went ws vs → length vs ≡ length ws
  worked_length [] [] worked = refl
  worked_length [] (v ∷ vs) worked = absurd worked
  worked_length (w ∷ ws) [] worked = absurd worked
  worked_length (w ∷ ws) (v ∷ vs) worked = ap suc (worked_length ws vs worked.1)
