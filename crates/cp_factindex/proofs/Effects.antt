-- What a prepared call is to do is the step of the call.
use Rattle.std.proofs.Common.{◌≡◌, ℕ, ◌==◌, Bool, true, false, not, ◌||◌, cond, List, [], ◌∷◌, ◌++◌, filter, Option, Some, refl, sym, ◌∙◌, ap, subst, arith}
use Rattle.std.specs.Prelude.{ℤ, pos, ◌+ℤ◌}
use Rattle.std.proofs.lemmas.Bool.Decides.{Decides-eqb}
use Rattle.std.specs.Ordering.{int_eq}
use Rattle.std.specs.List.{list_any}
use Rattle.std.proofs.lemmas.Int.{ints}
use Rattle.cp_term.specs.declared.cell.Cell.{Cell}
use Rattle.cp_call.specs.declared.call.Reply.TheVariants as reply
use Rattle.cp_call.specs.declared.outcome.FactRow.{FactRow}
use Rattle.cp_call.specs.declared.outcome.ParkedRow.{ParkedRow}
use Rattle.cp_call.specs.Object.{adds_back, removes, leaves, first_seen, without, is_parked, sees}
use Rattle.cp_counted.specs.declared.key.Key.{Key}
use Rattle.cp_counted.specs.Keys.{term_key}
use Rattle.cp_keyed.specs.Index.{IndexView, IsRight, AreRight, is_among, row_at}
use Rattle.cp_keyed.specs.Index.{without as rows_without}
use Rattle.cp_factindex.specs.declared.waiter.Waiter.{Waiter}
use Rattle.cp_factindex.specs.declared.waking.Woken.{Woken}
use Rattle.cp_factindex.specs.declared.contents.Contents.{Contents}
use Rattle.cp_factindex.specs.declared.contents.Change.{Change}
use Rattle.cp_factindex.specs.declared.contents.FactsChange.{FactsChange}
use Rattle.cp_factindex.specs.declared.contents.ParkedChange.{ParkedChange}
use Rattle.cp_factindex.specs.declared.contents.FactsChange.TheVariants as facts
use Rattle.cp_factindex.specs.declared.contents.ParkedChange.TheVariants as parked
use Rattle.cp_factindex.specs.Contents.{facts_in, parked_in, state_in, IsFresh}
use Rattle.cp_factindex.specs.declared.effect.Effect.{Effect}
use Rattle.cp_factindex.specs.Effect.{IsEffect}
use Rattle.cp_factindex.specs.Waiting.{waiter_key, is_caller_in, IsSpotOf}
use Rattle.cp_factindex.specs.Woken.{IsWokenBy}
use Rattle.cp_factindex.proofs.Looking.{fact_of}
use Rattle.cp_factindex.proofs.Collecting.{filter_map_is}

pub facts_push : (rows : List (ℤ × List Cell)) (e : ℤ × List Cell) → facts_in (rows ++ e ∷ []) ≡ facts_in rows ++ fact_of e ∷ []
facts_push [] e = refl
facts_push (x ∷ rows) e = ap (λ r. fact_of x ∷ r) (facts_push rows e)

int_eq_back : (p q : ℤ) → int_eq p q ≡ int_eq q p
int_eq_back p q = grind (arith, ints)

same_filter : {A : Type 0} (g h : A → Bool) (xs : List A) → ((x : A) → g x ≡ h x) → filter g xs ≡ filter h xs
same_filter g h [] e = refl
same_filter g h (x ∷ xs) e = ap (λ b. cond b (x ∷ filter g xs) (filter g xs)) (e x) ∙ ap (λ r. cond (h x) (x ∷ r) r) (same_filter g h xs e)

-- the facts but for one
facts_without : (place : ℤ) (rows : List (ℤ × List Cell)) → facts_in (rows_without place rows) ≡ without place (facts_in rows)
facts_without place rows = ap facts_in (same_filter (λ (e : ℤ × List Cell). not (int_eq place e.0)) (λ (e : ℤ × List Cell). not (int_eq e.0 place)) rows (λ e. ap not (int_eq_back place e.0)))
    ∙ sym (filter_map_is fact_of (λ (f : FactRow). not (int_eq f.place place)) rows)

module _ (c : Contents) (fresh : IsFresh c) where
  -- the callers that are woken go
  left_of : (f : FactRow) (w : Woken) → IsWokenBy f c.waiting.rows w
      → parked_in (filter (λ (e : ℤ × Waiter). not (is_among w.spots.items e.0)) c.waiting.whole) ≡ filter (λ (x : ParkedRow). not (sees x.pattern x.after f)) (parked_in c.waiting.rows)
  left_of f w h = ap (λ (rows : List (ℤ × Waiter)). parked_in (filter (λ (e : ℤ × Waiter). not (is_among w.spots.items e.0)) rows)) fresh.waiting ∙ h.left

  woken_right : (f : FactRow) (w : Woken) → IsWokenBy f c.waiting.rows w → AreRight waiter_key c.waiting.whole w.spots.items
  woken_right f w h = subst (λ (rows : List (ℤ × Waiter)). AreRight waiter_key rows w.spots.items) (sym fresh.waiting) h.right

  pub goes_back_is : (v : IndexView (List Cell)) (fact : List Cell) (w : Woken)
      → IsWokenBy (record { place = c.highest +ℤ pos 1; fact = fact }) c.waiting.rows w → v.whole ≡ c.facts.rows ++ (c.highest +ℤ pos 1, fact) ∷ []
      → IsEffect (record c { facts = v }) (adds_back (state_in c) fact) (record {
        reply = reply.Added (c.highest +ℤ pos 1) w.callers;
        change = record { facts = facts.Show; parked = parked.RemoveAll w.spots; lowest = c.lowest; highest = c.highest +ℤ pos 1; is_open = c.is_open };
      })
  goes_back_is v fact w h e = record {
    reply = ap (reply.Added (c.highest +ℤ pos 1)) h.callers;
    state = λ i. record {
      kind = c.kind;
      facts = (ap facts_in e ∙ facts_push c.facts.rows (c.highest +ℤ pos 1, fact)) i;
      lowest = c.lowest;
      highest = c.highest +ℤ pos 1;
      is_open = c.is_open;
      parked = left_of (record { place = c.highest +ℤ pos 1; fact = fact }) w h i;
    };
    right = record { facts = tt; parked = woken_right (record { place = c.highest +ℤ pos 1; fact = fact }) w h };
  }

  -- a fact that is taken
  pub takes_is : (caller : ℕ) (pattern : List Cell) (after : Option ℤ) (waits : Bool) (f : FactRow) → row_at f.place c.facts.rows ≡ Some f.fact
      → IsEffect c (removes (state_in c) caller pattern after waits (Some f)) (record {
        reply = reply.Found f.place f.fact;
        change = record { facts = facts.Remove (term_key f.fact, f.place); parked = parked.Keep; lowest = c.lowest; highest = c.highest; is_open = c.is_open };
      })
  takes_is caller pattern after waits f r = record {
    reply = refl;
    state = λ i. record {
      kind = c.kind;
      facts = (ap (λ (rows : List (ℤ × List Cell)). facts_in (rows_without f.place rows)) fresh.facts ∙ facts_without f.place c.facts.rows) i;
      lowest = c.lowest;
      highest = c.highest;
      is_open = c.is_open;
      parked = parked_in c.waiting.rows;
    };
    right = record { facts = right; parked = tt };
  }
    where
      right : IsRight term_key c.facts.whole (term_key f.fact, f.place)
      right t q =
          let z : Some f.fact ≡ Some t = sym r ∙ (ap (λ (rows : List (ℤ × List Cell)). row_at f.place rows) (sym fresh.facts) ∙ q) in
          let y : f.fact ≡ t = cc in
          ap term_key (sym y)

-- a change, part by part
pub change_is : (change : Change) (f : FactsChange) (p : ParkedChange) (low high : ℤ) (is_open : Bool)
    → change.facts ≡ f → change.parked ≡ p → change.lowest ≡ low → change.highest ≡ high → change.is_open ≡ is_open
    → record { facts = f; parked = p; lowest = low; highest = high; is_open = is_open } ≡ change
change_is change f p low high is_open ef ep el eh eo = sym (λ i. record { facts = ef i; parked = ep i; lowest = el i; highest = eh i; is_open = eo i })

-- the callers are those of the rows
pub callers_are : (rows : List (ℤ × Waiter)) (caller : ℕ) → list_any (λ (w : ParkedRow). w.caller == caller) (parked_in rows) ≡ is_caller_in rows caller
callers_are [] caller = refl
callers_are (e ∷ rows) caller = ap (λ b. (e.1.row.caller == caller) || b) (callers_are rows caller)

or_true : (b : Bool) → (b || true) ≡ true
or_true true = refl
or_true false = refl

caller_is_in : (rows : List (ℤ × Waiter)) (p : ℤ) (w : Waiter) (caller : ℕ) → row_at p rows ≡ Some w → w.row.caller ≡ caller → is_caller_in rows caller ≡ true
caller_is_in [] p w caller r c = cc
caller_is_in (e ∷ rows) p w caller r c = by_test (int_eq p e.0) (λ q. caller_is_in rows p w caller q c) r
  where
    by_test : (b : Bool) → (row_at p rows ≡ Some w → is_caller_in rows caller ≡ true) → cond b (Some e.1) (row_at p rows) ≡ Some w → ((e.1.row.caller == caller) || is_caller_in rows caller) ≡ true
    by_test true l q =
        let z : e.1 ≡ w = cc in
        ap (λ b. b || is_caller_in rows caller) ((Decides-eqb e.1.row.caller caller).1 (ap (λ (x : Waiter). x.row.caller) z ∙ c))
    by_test false l q = ap (λ b. (e.1.row.caller == caller) || b) (l q) ∙ or_true (e.1.row.caller == caller)

module _ (c : Contents) (fresh : IsFresh c) where
  pub goes_back_at : (v : IndexView (List Cell)) (fact copy : List Cell) (w : Woken) (p q : ℤ) → p ≡ (c.highest +ℤ pos 1) → copy ≡ fact → q ≡ p
      → IsWokenBy (record { place = p; fact = copy }) c.waiting.rows w → v.whole ≡ c.facts.rows ++ (q, copy) ∷ []
      → IsEffect (record c { facts = v }) (adds_back (state_in c) fact) (record {
        reply = reply.Added p w.callers;
        change = record { facts = facts.Show; parked = parked.RemoveAll w.spots; lowest = c.lowest; highest = p; is_open = c.is_open };
      })
  goes_back_at v fact copy w p q ep ec eq h e = subst (λ (x : ℤ). IsEffect (record c { facts = v }) (adds_back (state_in c) fact) (record {
    reply = reply.Added x w.callers;
    change = record { facts = facts.Show; parked = parked.RemoveAll w.spots; lowest = c.lowest; highest = x; is_open = c.is_open };
  })) (sym ep)
      (goes_back_is c fresh v fact w (subst (λ (f : FactRow). IsWokenBy f c.waiting.rows w) (λ i. record { place = ep i; fact = ec i }) h) (e ∙ (λ i. c.facts.rows ++ ((eq ∙ ep) i, ec i) ∷ [])))

  -- the fact that is seen, taken
  pub takes_at : (caller : ℕ) (pattern : List Cell) (after : Option ℤ) (waits : Bool) (f : FactRow) (key : Key) (p : ℤ) (change : Change)
      → Some f ≡ first_seen (facts_in c.facts.rows) pattern after → row_at f.place c.facts.rows ≡ Some f.fact → key ≡ term_key f.fact → p ≡ f.place
      → record { facts = facts.Remove (key, p); parked = parked.Keep; lowest = c.lowest; highest = c.highest; is_open = c.is_open } ≡ change
      → IsEffect c (removes (state_in c) caller pattern after waits (first_seen (facts_in c.facts.rows) pattern after)) (record { reply = reply.Found f.place f.fact; change = change })
  takes_at caller pattern after waits f key p change seen r ek ep ec =
      subst (λ o. IsEffect c (removes (state_in c) caller pattern after waits o) (record { reply = reply.Found f.place f.fact; change = change })) seen
      (subst (λ (x : Change). IsEffect c (removes (state_in c) caller pattern after waits (Some f)) (record { reply = reply.Found f.place f.fact; change = x }))
      ((λ i. record { facts = facts.Remove (sym ek i, sym ep i); parked = parked.Keep; lowest = c.lowest; highest = c.highest; is_open = c.is_open }) ∙ ec)
      (takes_is c fresh caller pattern after waits f r))

  -- a caller that is parked gives up
  pub quits_at : (caller : ℕ) (s : Key × ℤ) (change : Change) → IsSpotOf c.waiting.rows caller (Some s)
      → record { facts = facts.Keep; parked = parked.Remove s; lowest = c.lowest; highest = c.highest; is_open = c.is_open } ≡ change
      → IsEffect c (leaves (state_in c) caller (is_parked (state_in c) caller)) (record { reply = reply.Left; change = change })
  quits_at caller s change h ec =
      subst (λ b. IsEffect c (leaves (state_in c) caller b) (record { reply = reply.Left; change = change })) (sym is_in)
      (subst (λ (x : Change). IsEffect c (leaves (state_in c) caller true) (record { reply = reply.Left; change = x })) ec
      (record {
        reply = refl;
        state = λ i. record {
          kind = c.kind;
          facts = facts_in c.facts.rows;
          lowest = c.lowest;
          highest = c.highest;
          is_open = c.is_open;
          parked = (ap (λ (rows : List (ℤ × Waiter)). parked_in (rows_without s.1 rows)) fresh.waiting ∙ (ap parked_in h.4
              ∙ sym (filter_map_is (λ (e : ℤ × Waiter). e.1.row) (λ (w : ParkedRow). not (w.caller == caller)) c.waiting.rows))) i;
        };
        right = record { facts = tt; parked = right };
      }))
    where
      is_in : is_parked (state_in c) caller ≡ true
      is_in = callers_are c.waiting.rows caller ∙ caller_is_in c.waiting.rows s.1 h.0 caller h.1 h.2

      right : IsRight waiter_key c.waiting.whole s
      right t q =
          let z : Some h.0 ≡ Some t = sym h.1 ∙ (ap (λ (rows : List (ℤ × Waiter)). row_at s.1 rows) (sym fresh.waiting) ∙ q) in
          let y : h.0 ≡ t = cc in
          ap waiter_key (sym y) ∙ h.3

  -- one that is not parked
  pub stays_at : (caller : ℕ) (e : Effect) → is_caller_in c.waiting.rows caller ≡ false → IsEffect c (record { state = state_in c; reply = reply.NotParked }) e
      → IsEffect c (leaves (state_in c) caller (is_parked (state_in c) caller)) e
  stays_at caller e h k = subst (λ b. IsEffect c (leaves (state_in c) caller b) e) (sym (callers_are c.waiting.rows caller ∙ h)) k
