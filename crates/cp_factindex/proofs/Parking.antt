-- The numbers of the parked callers, as rows are added and taken out.
use Rattle.std.proofs.Common.{◌≡◌, ℕ, ◌+◌, ◌<◌, ◌==◌, zero, suc, Bool, true, false, not, ◌||◌, cond, List, [], ◌∷◌, ◌++◌, filter, length, take, get_or, Option, Some, None, refl, sym, ◌∙◌, ap, subst, arith}
use Rattle.std.specs.Prelude.{ℤ, int_lt, is_some}
use Rattle.std.specs.Option.{option_flatten}
use Rattle.std.specs.Ordering.{nat_cmp, int_eq, is_eq}
use Rattle.std.specs.Cmp.{Equal-is, tied_itself, both_ways, int_cmp_total, nat_cmp_total}
use Rattle.std.specs.BTreeMap.{BTreeMap, get, is_at}
use Rattle.std.proofs.lemmas.Bool.{false≢true}
use Rattle.std.proofs.lemmas.Bool.Decides.{Decides-eqb}
use Rattle.std.proofs.lemmas.Int.{ints}
use Rattle.std.proofs.lemmas.List.{take_more}
use Rattle.std.proofs.lemmas.Map.Lookups.{exact_unsigned}
use Rattle.cp_counted.specs.declared.key.Key.{Key}
use Rattle.cp_keyed.specs.Index.{AreAbove, AreAscending, AreRight, IndexView, IsRight, is_among, row_at, without}
use Rattle.cp_factindex.specs.declared.waiter.Waiter.{Waiter}
use Rattle.cp_factindex.specs.declared.waiting.Waiting.TheInside.{Inside}
use Rattle.cp_factindex.proofs.Numbering.{parked_is}
use Rattle.cp_factindex.specs.Waiting.{number_in, has_caller, waiter_key, is_caller_in, AreNumbered, IsNextRow, IsSetAt, IsSpotOf, IsWaiting}

none_some : {A : Type 0} (a : A) → None ≡ Some a → ⊥
none_some a h = false≢true (ap is_some h)

some_is : {A : Type 0} (a b : A) → Some a ≡ Some b → a ≡ b
some_is a b h = cc

tied : (p : ℤ) → int_eq p p ≡ true
tied p = ap is_eq (tied_itself int_cmp_total p)

same_number : (p q : ℤ) → int_eq p q ≡ true → p ≡ q
same_number p q h = grind (arith, ints)

more_apart : (p q : ℤ) → int_lt p q ≡ true → int_eq q p ≡ false
more_apart p q h = grind (arith, ints)

by_false : (b : Bool) → (b ≡ true → ⊥) → b ≡ false
by_false true n = absurd (n refl)
by_false false n = refl

at_itself : (n : ℕ) → is_at (nat_cmp n) n ≡ true
at_itself n = ap is_eq (tied_itself nat_cmp_total n)

apart_at : (n m : ℕ) → (n ≡ m → ⊥) → is_at (nat_cmp n) m ≡ false
apart_at n m f = by_false (is_at (nat_cmp n) m) (λ h. f (exact_unsigned n m ((Equal-is (nat_cmp n m)).0 h)))

module _ {T : Type 0} where
  row_push_old : (rows : List (ℤ × T)) (m : ℤ) (e : ℤ × T) (w : T) → row_at m rows ≡ Some w → row_at m (rows ++ e ∷ []) ≡ Some w
  row_push_old [] m e w h = absurd (none_some w h)
  row_push_old (x ∷ rows) m e w h = by_test (int_eq m x.0) (row_push_old rows m e w) h
    where
      by_test : (b : Bool) → (row_at m rows ≡ Some w → row_at m (rows ++ e ∷ []) ≡ Some w) → cond b (Some x.1) (row_at m rows) ≡ Some w → cond b (Some x.1) (row_at m (rows ++ e ∷ [])) ≡ Some w
      by_test true l q = q
      by_test false l q = l q

  above_last : (p : ℤ) (rows : List (ℤ × T)) (m : ℤ) (w : T) → AreAbove p (rows ++ (m, w) ∷ []) → int_lt p m ≡ true
  above_last p [] m w h = h.0
  above_last p (x ∷ rows) m w h = above_last p rows m w h.1

  row_push_new : (rows : List (ℤ × T)) (m : ℤ) (w : T) → AreAscending (rows ++ (m, w) ∷ []) → row_at m (rows ++ (m, w) ∷ []) ≡ Some w
  row_push_new [] m w h = ap (λ b. cond b (Some w) None) (tied m)
  row_push_new (x ∷ rows) m w h = ap (λ b. cond b (Some x.1) (row_at m (rows ++ (m, w) ∷ []))) (more_apart x.0 m (above_last x.0 rows m w h.0)) ∙ row_push_new rows m w h.1

  row_without : (rows : List (ℤ × T)) (p m : ℤ) → int_eq p m ≡ false → row_at m (without p rows) ≡ row_at m rows
  row_without [] p m h = refl
  row_without (e ∷ rows) p m h = by_tests (int_eq p e.0) (int_eq m e.0) refl refl (row_without rows p m h)
    where
      by_tests : (a b : Bool) → int_eq p e.0 ≡ a → int_eq m e.0 ≡ b → row_at m (without p rows) ≡ row_at m rows
          → row_at m (cond (not a) (e ∷ without p rows) (without p rows)) ≡ cond b (Some e.1) (row_at m rows)
      by_tests true true s t l = absurd (false≢true (sym h ∙ (ap (λ q. int_eq p q) (same_number m e.0 t) ∙ s)))
      by_tests true false s t l = l
      by_tests false b s t l = ap (λ x. cond x (Some e.1) (row_at m (without p rows))) t ∙ ap (λ x. cond b (Some e.1) x) l

  without_missing : (p : ℤ) (rows : List (ℤ × T)) → row_at p rows ≡ None → without p rows ≡ rows
  without_missing p [] h = refl
  without_missing p (e ∷ rows) h = by_test (int_eq p e.0) (without_missing p rows) h
    where
      by_test : (b : Bool) → (row_at p rows ≡ None → without p rows ≡ rows) → cond b (Some e.1) (row_at p rows) ≡ None → cond (not b) (e ∷ without p rows) (without p rows) ≡ e ∷ rows
      by_test true l q = absurd (none_some e.1 (sym q))
      by_test false l q = ap (λ r. e ∷ r) (l q)

  -- the rows but for those of these spots
  abbrev pub left_by : List (Key × ℤ) → List (ℤ × T) → List (ℤ × T)
  left_by spots es = filter (λ (e : ℤ × T). not (is_among spots e.0)) es

  none_left : (spots : List (Key × ℤ)) (p : ℤ) (es : List (ℤ × T)) → is_among spots p ≡ true → row_at p (left_by spots es) ≡ None
  none_left spots p [] h = refl
  none_left spots p (e ∷ es) h = by_tests (is_among spots e.0) (int_eq p e.0) refl refl (none_left spots p es h)
    where
      by_tests : (a b : Bool) → is_among spots e.0 ≡ a → int_eq p e.0 ≡ b → row_at p (left_by spots es) ≡ None → row_at p (cond (not a) (e ∷ left_by spots es) (left_by spots es)) ≡ None
      by_tests true b s t l = l
      by_tests false true s t l = absurd (false≢true (sym s ∙ (ap (is_among spots) (sym (same_number p e.0 t)) ∙ h)))
      by_tests false false s t l = ap (λ x. cond x (Some e.1) (row_at p (left_by spots es))) t ∙ l

  row_left : (spots : List (Key × ℤ)) (p : ℤ) (t : T) (es : List (ℤ × T)) → row_at p (left_by spots es) ≡ Some t → row_at p es ≡ Some t
  row_left spots p t [] q = q
  row_left spots p t (e ∷ es) q = by_tests (is_among spots e.0) (int_eq p e.0) refl refl (row_left spots p t es) q
    where
      by_tests : (a b : Bool) → is_among spots e.0 ≡ a → int_eq p e.0 ≡ b → (row_at p (left_by spots es) ≡ Some t → row_at p es ≡ Some t)
          → row_at p (cond (not a) (e ∷ left_by spots es) (left_by spots es)) ≡ Some t → cond b (Some e.1) (row_at p es) ≡ Some t
      by_tests true true s z l r = absurd (none_some t (sym (none_left spots p es (ap (is_among spots) (same_number p e.0 z) ∙ s)) ∙ r))
      by_tests true false s z l r = l r
      by_tests false true s z l r = sym (ap (λ x. cond x (Some e.1) (row_at p (left_by spots es))) z) ∙ r
      by_tests false false s z l r = l (sym (ap (λ x. cond x (Some e.1) (row_at p (left_by spots es))) z) ∙ r)

  right_at : (key : T → Key) (es : List (ℤ × T)) (taken : List (Key × ℤ)) (i : ℕ) (s : Key × ℤ) → AreRight key es taken → i < length taken → s ≡ get_or taken i s → IsRight key es s
  right_at key es [] i s h l e = absurd (omega arith)
  right_at key es (x ∷ taken) zero s h l e = subst (IsRight key es) (sym e) h.0
  right_at key es (x ∷ taken) (suc i) s h l e = right_at key es taken i s h.1 (omega arith) e

  -- the spots are right of what is left
  pub right_left : (key : T → Key) (es : List (ℤ × T)) (taken : List (Key × ℤ)) (i : ℕ) (s : Key × ℤ) (left : List (ℤ × T)) → AreRight key es taken → i < length taken → s ≡ get_or taken i s
      → left ≡ left_by (take i taken) es → IsRight key left s
  right_left key es taken i s left h l e r = subst (λ (y : List (ℤ × T)). IsRight key y s) (sym r)
      (λ t q. right_at key es taken i s h l e t (row_left (take i taken) s.1 t es q))

-- what a changed map has for the callers
module _ (old new : BTreeMap ℕ (Option ℤ)) (caller : ℕ) (number : Option ℤ) (set : IsSetAt old new caller number) where
  set_here : number_in new caller ≡ number
  set_here = ap option_flatten (set caller ∙ ap (λ b. cond b (Some number) (get nat_cmp old caller)) (at_itself caller))

  set_other : (other : ℕ) → (caller ≡ other → ⊥) → number_in new other ≡ number_in old other
  set_other other h = ap option_flatten (set other ∙ ap (λ b. cond b (Some number) (get nat_cmp old other)) (apart_at caller other h))

  -- the caller had no number
  numbered_kept : number_in old caller ≡ None → (rows : List (ℤ × Waiter)) → AreNumbered old rows → AreNumbered new rows
  numbered_kept none [] h = tt
  numbered_kept none (e ∷ rows) h =
      (set_other e.1.row.caller (λ s. none_some e.0 (sym none ∙ (ap (λ (c : ℕ). number_in old c) s ∙ h.0))) ∙ h.0, numbered_kept none rows h.1)

  -- the rows but for the caller's
  numbered_left : (p : ℤ) → number_in old caller ≡ Some p → (rows : List (ℤ × Waiter)) → AreNumbered old rows → AreNumbered new (without p rows)
  numbered_left p there [] h = tt
  numbered_left p there (e ∷ rows) h = by_test (int_eq p e.0) refl (numbered_left p there rows h.1)
    where
      by_test : (b : Bool) → int_eq p e.0 ≡ b → AreNumbered new (without p rows) → AreNumbered new (cond (not b) (e ∷ without p rows) (without p rows))
      by_test true s l = l
      by_test false s l = (
        set_other e.1.row.caller (λ c.
            let one : Some p ≡ Some e.0 = sym there ∙ (ap (λ (x : ℕ). number_in old x) c ∙ h.0) in
            false≢true (sym s ∙ (ap (λ q. int_eq p q) (sym (some_is p e.0 one)) ∙ tied p))) ∙ h.0,
        l,
      )

numbered_push : (numbers : BTreeMap ℕ (Option ℤ)) (rows : List (ℤ × Waiter)) (e : ℤ × Waiter) → AreNumbered numbers rows → number_in numbers e.1.row.caller ≡ Some e.0 → AreNumbered numbers (rows ++ e ∷ [])
numbered_push numbers [] e h n = (n, tt)
numbered_push numbers (x ∷ rows) e h n = (h.0, numbered_push numbers rows e h.1 n)

numbered_same : (old new : BTreeMap ℕ (Option ℤ)) → ((other : ℕ) → number_in new other ≡ number_in old other) → (rows : List (ℤ × Waiter)) → AreNumbered old rows → AreNumbered new rows
numbered_same old new s [] h = tt
numbered_same old new s (e ∷ rows) h = (s e.1.row.caller ∙ h.0, numbered_same old new s rows h.1)

-- a row has its caller's number
pub numbered_at : (numbers : BTreeMap ℕ (Option ℤ)) (rows : List (ℤ × Waiter)) (p : ℤ) (w : Waiter) → AreNumbered numbers rows → row_at p rows ≡ Some w → number_in numbers w.row.caller ≡ Some p
numbered_at numbers [] p w h r = absurd (none_some w r)
numbered_at numbers (e ∷ rows) p w h r = by_test (int_eq p e.0) refl (numbered_at numbers rows p w h.1) r
  where
    by_test : (b : Bool) → int_eq p e.0 ≡ b → (row_at p rows ≡ Some w → number_in numbers w.row.caller ≡ Some p) → cond b (Some e.1) (row_at p rows) ≡ Some w → number_in numbers w.row.caller ≡ Some p
    by_test true s l q = subst (λ (x : Waiter). number_in numbers x.row.caller ≡ Some p) (some_is e.1 w q) (h.0 ∙ ap Some (sym (same_number p e.0 s)))
    by_test false s l q = l q

-- there is room for a caller with a number
pub room_at : (numbers : BTreeMap ℕ (Option ℤ)) (caller : ℕ) (p : ℤ) → number_in numbers caller ≡ Some p → has_caller numbers caller
room_at numbers caller p h = by_case (get nat_cmp numbers caller) refl
  where
    by_case : (o : Option (Option ℤ)) → get nat_cmp numbers caller ≡ o → has_caller numbers caller
    by_case None e = absurd (none_some p (sym (ap option_flatten e) ∙ h))
    by_case (Some n) e = ap is_some e

module _ (a : Inside) (holds : IsWaiting a) where
  -- the rows stay, with the same numbers and nothing ahead
  pub keeps : (numbers : BTreeMap ℕ (Option ℤ)) (v : IndexView Waiter) → ((other : ℕ) → number_in numbers other ≡ number_in a.numbers other) → v.rows ≡ a.rows.rows → v.whole ≡ a.rows.rows
      → IsWaiting (record { rows = v; numbers = numbers; ahead = None })
  keeps numbers v same er ew = record {
    numbered = subst (AreNumbered numbers) (sym er) (numbered_same a.numbers numbers same a.rows.rows holds.numbered);
    parked = λ c n h.
        let old = holds.parked c n (sym (same c) ∙ h) in
        (old.0, ap (row_at n) er ∙ old.1, old.2);
    ahead = ew ∙ sym er;
  }

  -- more room for numbers
  pub roomier : (numbers : BTreeMap ℕ (Option ℤ)) → ((other : ℕ) → number_in numbers other ≡ number_in a.numbers other) → ((other : ℕ) → has_caller a.numbers other → has_caller numbers other)
      → IsWaiting (record { rows = a.rows; numbers = numbers; ahead = a.ahead })
  roomier numbers same room = record {
    numbered = numbered_same a.numbers numbers same a.rows.rows holds.numbered;
    parked = λ c n h. holds.parked c n (sym (same c) ∙ h);
    ahead = by_ahead a.ahead holds.ahead;
  }
    where
      by_ahead : (o : Option (ℕ × ℤ)) → IsNextRow o a.numbers a.rows → IsNextRow o numbers a.rows
      by_ahead None h = h
      by_ahead (Some c) h = (h.0, h.1, h.2, same c.0 ∙ h.3, room c.0 h.4)

  -- nothing was placed ahead
  pub ahead_none : a.rows.whole ≡ a.rows.rows → a.ahead ≡ None
  ahead_none e = by_ahead a.ahead holds.ahead
    where
      longer : (rows : List (ℤ × Waiter)) (x : ℤ × Waiter) → length (rows ++ x ∷ []) ≡ suc (length rows)
      longer [] x = refl
      longer (y ∷ rows) x = ap (λ n. suc n) (longer rows x)

      by_ahead : (o : Option (ℕ × ℤ)) → IsNextRow o a.numbers a.rows → o ≡ None
      by_ahead None h = refl
      by_ahead (Some c) h =
          let more : length a.rows.rows ≡ suc (length a.rows.rows) = ap length (sym e ∙ h.1) ∙ longer a.rows.rows (c.1, h.0) in
          absurd (omega (arith, more))

  -- a caller with no number is not parked
  pub none_in : (caller : ℕ) → number_in a.numbers caller ≡ None → is_caller_in a.rows.rows caller ≡ false
  none_in caller n = sym (parked_is a.numbers caller a.rows.rows holds.numbered (holds.parked caller)) ∙ ap is_some n

  -- a caller that is to be parked
  pub places : (numbers : BTreeMap ℕ (Option ℤ)) (v : IndexView Waiter) (caller : ℕ) (number : ℤ) (w : Waiter) → ((other : ℕ) → number_in numbers other ≡ number_in a.numbers other) → has_caller numbers caller
      → is_caller_in a.rows.rows caller ≡ false → w.row.caller ≡ caller → v.rows ≡ a.rows.rows → v.whole ≡ a.rows.rows ++ (number, w) ∷ []
      → IsWaiting (record { rows = v; numbers = numbers; ahead = Some (caller, number) })
  places numbers v caller number w same room off ec er ew = record {
    numbered = subst (AreNumbered numbers) (sym er) (numbered_same a.numbers numbers same a.rows.rows holds.numbered);
    parked = λ c n h.
        let old = holds.parked c n (sym (same c) ∙ h) in
        (old.0, ap (row_at n) er ∙ old.1, old.2);
    ahead = (
      w,
      ew ∙ ap (λ r. r ++ (number, w) ∷ []) (sym er),
      ec,
      same caller ∙ none (number_in a.numbers caller) (parked_is a.numbers caller a.rows.rows holds.numbered (holds.parked caller) ∙ off),
      room,
    );
  }
    where
      none : (o : Option ℤ) → is_some o ≡ false → o ≡ None
      none None h = refl
      none (Some n) h = absurd (false≢true (sym h))

  -- the row that was to be placed ahead was refused
  pub refuses : (numbers : BTreeMap ℕ (Option ℤ)) (v : IndexView Waiter) → ((other : ℕ) → number_in numbers other ≡ number_in a.numbers other) → a.rows.whole ≡ a.rows.rows → v.rows ≡ a.rows.rows → v.whole ≡ a.rows.rows
      → IsWaiting (record { rows = v; numbers = numbers; ahead = a.ahead })
  refuses numbers v same e er ew = rw (ahead_none e) (keeps numbers v same er ew)

  shows_exact : (c : ℕ × ℤ) (numbers : BTreeMap ℕ (Option ℤ)) (v : IndexView Waiter) → a.ahead ≡ Some c → IsSetAt a.numbers numbers c.0 (Some c.1) → v.rows ≡ a.rows.whole → v.whole ≡ a.rows.whole → AreAscending v.whole
      → IsWaiting (record { rows = v; numbers = numbers; ahead = None })
  shows_exact c numbers v e set er ew asc = record {
    numbered = subst (AreNumbered numbers) (sym rows_are)
        (numbered_push numbers a.rows.rows (c.1, w) (numbered_kept a.numbers numbers c.0 (Some c.1) set ahead.3 a.rows.rows holds.numbered) (ap (λ (x : ℕ). number_in numbers x) ahead.2 ∙ here));
    parked = λ other n h. by_caller other n h (is_at (nat_cmp c.0) other) refl;
    ahead = ew ∙ sym er;
  }
    where
      ahead : IsNextRow (Some c) a.numbers a.rows
      ahead = subst (λ o. IsNextRow o a.numbers a.rows) e holds.ahead

      w : Waiter
      w = ahead.0

      rows_are : v.rows ≡ a.rows.rows ++ (c.1, w) ∷ []
      rows_are = er ∙ ahead.1

      here : number_in numbers c.0 ≡ Some c.1
      here = set_here a.numbers numbers c.0 (Some c.1) set

      by_caller : (other : ℕ) (n : ℤ) → number_in numbers other ≡ Some n → (b : Bool) → is_at (nat_cmp c.0) other ≡ b → (x : Waiter) × (row_at n v.rows ≡ Some x) × (x.row.caller ≡ other)
      by_caller other n h true s =
          let same : c.0 ≡ other = exact_unsigned c.0 other ((Equal-is (nat_cmp c.0 other)).0 s) in
          let one : Some c.1 ≡ Some n = sym here ∙ (ap (λ (x : ℕ). number_in numbers x) same ∙ h) in
          let last : row_at c.1 v.rows ≡ Some w = ap (row_at c.1) rows_are ∙ row_push_new a.rows.rows c.1 w (subst AreAscending (ew ∙ ahead.1) asc) in
          (w, ap (λ q. row_at q v.rows) (sym (some_is c.1 n one)) ∙ last, ahead.2 ∙ same)
      by_caller other n h false s =
          let differ : c.0 ≡ other → ⊥ = λ q. false≢true (sym s ∙ (ap (is_at (nat_cmp c.0)) (sym q) ∙ at_itself c.0)) in
          let old = holds.parked other n (sym (set_other a.numbers numbers c.0 (Some c.1) set other differ) ∙ h) in
          (old.0, ap (row_at n) rows_are ∙ row_push_old a.rows.rows n (c.1, w) old.0 old.1, old.2)

  -- the caller whose row was placed ahead is parked
  pub shows : (c : ℕ × ℤ) (q : ℤ) (m : Inside) (v : IndexView Waiter) → a.ahead ≡ Some c → q ≡ c.1 → IsSetAt a.numbers m.numbers c.0 (Some q) → m.rows ≡ a.rows → m.ahead ≡ None
      → v.rows ≡ m.rows.whole → v.whole ≡ m.rows.whole → AreAscending v.whole
      → IsWaiting (record { rows = v; numbers = m.numbers; ahead = m.ahead })
  shows c q m v e eq set em en er ew asc = rw en (shows_exact c m.numbers v e (subst (λ (x : ℤ). IsSetAt a.numbers m.numbers c.0 (Some x)) eq set) (er ∙ ap (λ (x : IndexView Waiter). x.whole) em) (ew ∙ ap (λ (x : IndexView Waiter). x.whole) em) asc)

  pub shows_none : (m : Inside) (v : IndexView Waiter) → a.ahead ≡ None → m.numbers ≡ a.numbers → m.rows ≡ a.rows → m.ahead ≡ None → v.rows ≡ m.rows.whole → v.whole ≡ m.rows.whole
      → IsWaiting (record { rows = v; numbers = m.numbers; ahead = m.ahead })
  shows_none m v e es em en er ew =
      let ahead : a.rows.whole ≡ a.rows.rows = subst (λ o. IsNextRow o a.numbers a.rows) e holds.ahead in
      let whole : m.rows.whole ≡ a.rows.rows = ap (λ (x : IndexView Waiter). x.whole) em ∙ ahead in
      rw en (keeps m.numbers v (λ other. ap (λ (x : BTreeMap ℕ (Option ℤ)). number_in x other) es) (er ∙ whole) (ew ∙ whole))

  removes_exact : (p : ℤ) (w : Waiter) (numbers : BTreeMap ℕ (Option ℤ)) (v : IndexView Waiter) → row_at p a.rows.rows ≡ Some w → IsSetAt a.numbers numbers w.row.caller None → v.rows ≡ without p a.rows.rows → v.whole ≡ without p a.rows.rows
      → IsWaiting (record { rows = v; numbers = numbers; ahead = None })
  removes_exact p w numbers v at set er ew = record {
    numbered = subst (AreNumbered numbers) (sym er) (numbered_left a.numbers numbers w.row.caller None set p there a.rows.rows holds.numbered);
    parked = λ other n h. by_caller other n h (is_at (nat_cmp w.row.caller) other) refl;
    ahead = ew ∙ sym er;
  }
    where
      there : number_in a.numbers w.row.caller ≡ Some p
      there = numbered_at a.numbers a.rows.rows p w holds.numbered at

      by_caller : (other : ℕ) (n : ℤ) → number_in numbers other ≡ Some n → (b : Bool) → is_at (nat_cmp w.row.caller) other ≡ b → (x : Waiter) × (row_at n v.rows ≡ Some x) × (x.row.caller ≡ other)
      by_caller other n h true s =
          let same : w.row.caller ≡ other = exact_unsigned w.row.caller other ((Equal-is (nat_cmp w.row.caller other)).0 s) in
          absurd (none_some n (sym (set_here a.numbers numbers w.row.caller None set) ∙ (ap (λ (x : ℕ). number_in numbers x) same ∙ h)))
      by_caller other n h false s =
          let differ : w.row.caller ≡ other → ⊥ = λ q. false≢true (sym s ∙ (ap (is_at (nat_cmp w.row.caller)) (sym q) ∙ at_itself w.row.caller)) in
          let old = holds.parked other n (sym (set_other a.numbers numbers w.row.caller None set other differ) ∙ h) in
          let apart : int_eq p n ≡ false = by_false (int_eq p n) (λ t.
          let one : Some w ≡ Some old.0 = sym at ∙ (ap (λ q. row_at q a.rows.rows) (same_number p n t) ∙ old.1) in
          differ (ap (λ (x : Waiter). x.row.caller) (some_is w old.0 one) ∙ old.2)) in
          (old.0, ap (row_at n) er ∙ (row_without a.rows.rows p n apart ∙ old.1), old.2)

  removes_none_exact : (p : ℤ) (v : IndexView Waiter) → row_at p a.rows.rows ≡ None → v.rows ≡ without p a.rows.rows → v.whole ≡ without p a.rows.rows
      → IsWaiting (record { rows = v; numbers = a.numbers; ahead = None })
  removes_none_exact p v at er ew =
      let all : without p a.rows.rows ≡ a.rows.rows = without_missing p a.rows.rows at in
      keeps a.numbers v (λ other. refl) (er ∙ all) (ew ∙ all)

  -- the row of a number is taken out
  pub removes : (p q : ℤ) (w : Waiter) (numbers : BTreeMap ℕ (Option ℤ)) (m : Inside) (v : IndexView Waiter) → a.rows.whole ≡ a.rows.rows → q ≡ p → row_at q a.rows.rows ≡ Some w → IsSetAt a.numbers numbers w.row.caller None
      → m ≡ record { rows = a.rows; numbers = numbers; ahead = a.ahead } → v.rows ≡ without p m.rows.whole → v.whole ≡ without p m.rows.whole
      → IsWaiting (record { rows = v; numbers = m.numbers; ahead = m.ahead })
  removes p q w numbers m v e eq at set em er ew =
      let left : without p m.rows.whole ≡ without p a.rows.rows = ap (λ (x : Inside). without p x.rows.whole) em ∙ ap (without p) e in
      let none : m.ahead ≡ None = ap (λ (x : Inside). x.ahead) em ∙ ahead_none e in
      let are : m.numbers ≡ numbers = ap (λ (x : Inside). x.numbers) em in
      rw (none, are) (removes_exact p w numbers v (subst (λ (x : ℤ). row_at x a.rows.rows ≡ Some w) eq at) set (er ∙ left) (ew ∙ left))

  -- no row has the number
  pub removes_none : (p q : ℤ) (m : Inside) (v : IndexView Waiter) → a.rows.whole ≡ a.rows.rows → q ≡ p → row_at q a.rows.rows ≡ None
      → m ≡ record { rows = a.rows; numbers = a.numbers; ahead = a.ahead } → v.rows ≡ without p m.rows.whole → v.whole ≡ without p m.rows.whole
      → IsWaiting (record { rows = v; numbers = m.numbers; ahead = m.ahead })
  removes_none p q m v e eq at em er ew =
      let left : without p m.rows.whole ≡ without p a.rows.rows = ap (λ (x : Inside). without p x.rows.whole) em ∙ ap (without p) e in
      let none : m.ahead ≡ None = ap (λ (x : Inside). x.ahead) em ∙ ahead_none e in
      let are : m.numbers ≡ a.numbers = ap (λ (x : Inside). x.numbers) em in
      rw (none, are) (removes_none_exact p v (subst (λ (x : ℤ). row_at x a.rows.rows ≡ None) eq at) (er ∙ left) (ew ∙ left))

  -- the spot of a parked caller
  pub spot_is : (caller : ℕ) (p : ℤ) (w : Waiter) (s : Key × ℤ) → number_in a.numbers caller ≡ Some p → row_at p a.rows.rows ≡ Some w → s ≡ (waiter_key w, p) → IsSpotOf a.rows.rows caller (Some s)
  spot_is caller p w s n at e = subst (λ (x : Key × ℤ). IsSpotOf a.rows.rows caller (Some x)) (sym e) (w, at, is_its, refl, lone a.rows.rows holds.numbered)
    where
      found : (x : Waiter) × (row_at p a.rows.rows ≡ Some x) × (x.row.caller ≡ caller)
      found = holds.parked caller p n

      is_its : w.row.caller ≡ caller
      is_its = ap (λ (x : Waiter). x.row.caller) (some_is w found.0 (sym at ∙ found.1)) ∙ found.2

      same : (e : ℤ × Waiter) → number_in a.numbers e.1.row.caller ≡ Some e.0 → int_eq p e.0 ≡ (e.1.row.caller == caller)
      same e h = both_ways (int_eq p e.0) (e.1.row.caller == caller)
          (λ t.
          let other = holds.parked e.1.row.caller p (h ∙ ap Some (sym (same_number p e.0 t))) in
          (Decides-eqb e.1.row.caller caller).1 (sym other.2 ∙ (ap (λ (x : Waiter). x.row.caller) (some_is other.0 w (sym other.1 ∙ at)) ∙ is_its)))
          (λ t.
          let one : Some p ≡ Some e.0 = sym n ∙ (ap (λ (x : ℕ). number_in a.numbers x) (sym ((Decides-eqb e.1.row.caller caller).0 t)) ∙ h) in
          ap (λ q. int_eq p q) (sym (some_is p e.0 one)) ∙ tied p)

      lone : (es : List (ℤ × Waiter)) → AreNumbered a.numbers es → without p es ≡ filter (λ (e : ℤ × Waiter). not (e.1.row.caller == caller)) es
      lone [] h = refl
      lone (e ∷ es) h = ap (λ b. cond (not b) (e ∷ without p es) (without p es)) (same e h.0) ∙ ap (λ r. cond (not (e.1.row.caller == caller)) (e ∷ r) r) (lone es h.1)

  -- the number of a caller is that of a row
  pub never_none : (caller : ℕ) (p : ℤ) → number_in a.numbers caller ≡ Some p → row_at p a.rows.rows ≡ None → ⊥
  never_none caller p n at = let found = holds.parked caller p n in none_some found.0 (sym at ∙ found.1)

-- one spot more
or_false : (b : Bool) → (b || false) ≡ b
or_false true = refl
or_false false = refl

or_more : (a b c d : Bool) → b ≡ (c || d) → (a || b) ≡ ((a || c) || d)
or_more true b c d h = refl
or_more false b c d h = h

among_push : (spots : List (Key × ℤ)) (s : Key × ℤ) (p : ℤ) → is_among (spots ++ s ∷ []) p ≡ (is_among spots p || int_eq s.1 p)
among_push [] s p = or_false (int_eq s.1 p)
among_push (x ∷ spots) s p = or_more (int_eq x.1 p) (is_among (spots ++ s ∷ []) p) (is_among spots p) (int_eq s.1 p) (among_push spots s p)

module _ {T : Type 0} where
  step_more : (s : Key × ℤ) (e : ℤ × T) (F G : List (ℤ × T)) (a b m : Bool) → without s.1 F ≡ G → m ≡ (a || b) → int_eq s.1 e.0 ≡ b
      → without s.1 (cond (not a) (e ∷ F) F) ≡ cond (not m) (e ∷ G) G
  step_more s e F G true b m r em eb = rw em r
  step_more s e F G false true m r em eb = rw (eb, em) r
  step_more s e F G false false m r em eb = rw (eb, em) (ap (λ x. e ∷ x) r)

  pub left_by_none : (es : List (ℤ × T)) → left_by [] es ≡ es
  left_by_none [] = refl
  left_by_none (e ∷ es) = ap (λ r. e ∷ r) (left_by_none es)

  without_more : (spots : List (Key × ℤ)) (s : Key × ℤ) (es : List (ℤ × T)) → without s.1 (left_by spots es) ≡ left_by (spots ++ s ∷ []) es
  without_more spots s [] = refl
  without_more spots s (e ∷ es) = step_more s e (left_by spots es) (left_by (spots ++ s ∷ []) es) (is_among spots e.0) (int_eq s.1 e.0) (is_among (spots ++ s ∷ []) e.0)
      (without_more spots s es) (among_push spots s e.0) refl

  pub left_more : (taken : List (Key × ℤ)) (i : ℕ) (s : Key × ℤ) (es now next : List (ℤ × T)) → i < length taken → s ≡ get_or taken i s
      → now ≡ left_by (take i taken) es → next ≡ without s.1 now → next ≡ left_by (take (i + 1) taken) es
  left_more taken i s es now next h e n r = r ∙ (ap (without s.1) n ∙ (without_more (take i taken) s es
      ∙ ap (λ (spots : List (Key × ℤ)). left_by spots es) (sym (take_more taken i s h ∙ ap (λ x. take i taken ++ x ∷ []) (sym e)))))
