-- What a turn does to what a seat tells of each caller and each object.
use Rattle.std.proofs.Common.{◌≡◌, ◌≢◌, ◌⊎◌, inl, inr, ℕ, ◌==◌, List, [], ◌∷◌, ◌++◌, append_assoc, refl, sym, ◌∙◌, ap, subst, true, false, append-nil}
use Rattle.std.specs.Prelude.{◌^◌, ◌-◌}
use Rattle.std.proofs.lemmas.Bool.Decides.{eqb_tells}
use Rattle.cp_call.specs.declared.call.Call.{Call}
use Rattle.cp_call.specs.declared.call.Entry.{Entry}
use Rattle.cp_call.specs.declared.asked.Asked.{Asked}
use Rattle.cp_call.specs.Sound.{own_entries}
use Rattle.cp_call.specs.Asker.{entry_added, looked_after}
use Rattle.cp_list.specs.Lists.{IsPrefix}
use Rattle.cp_turn.specs.Passes.{TurnstileView}
use Rattle.cp_turn.specs.Lists.{AreBy}
use Rattle.cp_hall.specs.declared.hall.HallRow.{HallRow}
use Rattle.cp_hall.specs.Hall.{history_at}
use Rattle.cp_turn_hall.specs.Behind.{SeatView, hall_at_start, at_place, seen_at, seen_for, looked_at, looked_for}
use Rattle.cp_turn_hall.specs.Turn.{IsTurn, SamePlace}
use Rattle.cp_turn_hall.proofs.Growing.{added_by}
use Rattle.cp_turn_hall.proofs.Turning.{own_append}

pub same : (n m : ℕ) → n ≡ m → (n == m) ≡ true
same n m e = elim (eqb_tells n m) [ inl s ↦ s.0 | inr d ↦ absurd (d.1 e) ]

pub other : (n m : ℕ) → n ≢ m → (n == m) ≡ false
other n m d = elim (eqb_tells n m) [ inl s ↦ absurd (d s.1) | inr o ↦ o.0 ]

own_of : (n : ℕ) (es : List Entry) → AreBy (λ (e : Entry). e.caller) n es → own_entries n es ≡ es
own_of n [] b = refl
own_of n (e ∷ es) b = rw (same e.caller n b.0) (ap (λ (l : List Entry). e ∷ l) (own_of n es b.1))

-- a turn lengthens the caller's own part by the call and its reply
pub turn_mine : (p : ℕ) (c : Call) (a : Asked) (s t : SeatView) → IsTurn p c a s t
    → own_entries s.number (seen_at t.turnstiles t.places p) ≡ own_entries s.number (seen_at s.turnstiles s.places p) ++ entry_added s.number c a
turn_mine p c a s t turn =
    ap (own_entries s.number) turn.seen ∙ own_append s.number turn.found (entry_added s.number c a)
    ∙ ap (λ (l : List Entry). l ++ own_entries s.number (entry_added s.number c a)) turn.own
    ∙ ap (λ (l : List Entry). own_entries s.number (seen_at s.turnstiles s.places p) ++ l) (own_of s.number (entry_added s.number c a) (added_by s.number c a))

turn_seen : (p : ℕ) (c : Call) (a : Asked) (s t : SeatView) → IsTurn p c a s t → IsPrefix (seen_at s.turnstiles s.places p) (seen_at t.turnstiles t.places p)
turn_seen p c a s t turn = (
  turn.begins.0 ++ entry_added s.number c a,
  turn.seen ∙ ap (λ (l : List Entry). l ++ entry_added s.number c a) turn.begins.1 ∙ append_assoc (seen_at s.turnstiles s.places p) turn.begins.0 (entry_added s.number c a),
)

same_seen : (q : ℕ) (s t : SeatView) → t.turnstiles ≡ s.turnstiles → SamePlace q s.places t.places → seen_at t.turnstiles t.places q ≡ seen_at s.turnstiles s.places q
same_seen q s t e same = ap (λ (ts : List (TurnstileView HallRow)). history_at (hall_at_start ts) q ++ at_place (λ x. x.pass.seen) [] t.places q) e
    ∙ ap (λ (l : List Entry). history_at (hall_at_start s.turnstiles) q ++ l) same.seen

-- what a seat tells of its caller, and of others
pub seen_own : (s : SeatView) (n q : ℕ) → n ≡ s.number → seen_for s n q ≡ seen_at s.turnstiles s.places q
seen_own s n q e = rw (same n s.number e) refl

pub seen_other : (s : SeatView) (n q : ℕ) → n ≢ s.number → seen_for s n q ≡ history_at (hall_at_start s.turnstiles) q
seen_other s n q d = rw (other n s.number d) refl

pub looked_own : (s : SeatView) (n q : ℕ) → n ≡ s.number → looked_for s n q ≡ looked_at s.places q
looked_own s n q e = rw (same n s.number e) refl

pub looked_other : (s : SeatView) (n q : ℕ) → n ≢ s.number → looked_for s n q ≡ 0
looked_other s n q d = rw (other n s.number d) refl

module _ (p : ℕ) (c : Call) (a : Asked) (s t : SeatView) (at : t.turnstiles ≡ s.turnstiles) (num : t.number ≡ s.number)
    (turn : IsTurn p c a s t) (there : (q : ℕ) → q ≢ p → SamePlace q s.places t.places) where
  pub grows_seen : (n q : ℕ) → IsPrefix (seen_for s n q) (seen_for t n q)
  grows_seen n q = elim (eqb_tells n s.number) [
    | inl s' ↦ subst (λ (l : List Entry). IsPrefix l (seen_for t n q)) (sym (seen_own s n q s'.1)) (subst (IsPrefix (seen_at s.turnstiles s.places q)) (sym (seen_own t n q (s'.1 ∙ sym num))) (own_part q))
    | inr o ↦ ([], seen_other t n q (λ e. o.1 (e ∙ num)) ∙ ap (λ (ts : List (TurnstileView HallRow)). history_at (hall_at_start ts) q) at ∙ sym (seen_other s n q o.1) ∙ sym (append-nil (seen_for s n q)))
  ]
    where
      own_part : (q : ℕ) → IsPrefix (seen_at s.turnstiles s.places q) (seen_at t.turnstiles t.places q)
      own_part q = elim (eqb_tells q p) [
        | inl e ↦ subst (λ (r : ℕ). IsPrefix (seen_at s.turnstiles s.places r) (seen_at t.turnstiles t.places r)) (sym e.1) (turn_seen p c a s t turn)
        | inr o ↦ ([], same_seen q s t at (there q o.1) ∙ sym (append-nil (seen_at s.turnstiles s.places q)))
      ]

  pub grows_mine : (n : ℕ) → n ≡ s.number → own_entries n (seen_for t n p) ≡ own_entries n (seen_for s n p) ++ entry_added n c a
  grows_mine n e =
      ap (own_entries n) (seen_own t n p (e ∙ sym num))
      ∙ subst (λ (k : ℕ). own_entries k (seen_at t.turnstiles t.places p) ≡ own_entries k (seen_at s.turnstiles s.places p) ++ entry_added k c a) (sym e) (turn_mine p c a s t turn)
      ∙ ap (λ (l : List Entry). own_entries n l ++ entry_added n c a) (sym (seen_own s n p e))

  pub others_seen : (caller : ℕ) → caller ≡ s.number → (n q : ℕ) → (n ≢ caller) ⊎ (q ≢ p) → seen_for t n q ≡ seen_for s n q
  others_seen caller e n q d = elim (eqb_tells n s.number) [
    | inl i ↦ seen_own t n q (i.1 ∙ sym num) ∙ here i.1 d ∙ sym (seen_own s n q i.1)
    | inr o ↦ seen_other t n q (λ x. o.1 (x ∙ num)) ∙ ap (λ (ts : List (TurnstileView HallRow)). history_at (hall_at_start ts) q) at ∙ sym (seen_other s n q o.1)
  ]
    where
      here : n ≡ s.number → (n ≢ caller) ⊎ (q ≢ p) → seen_at t.turnstiles t.places q ≡ seen_at s.turnstiles s.places q
      here i (inl apart) = absurd (apart (i ∙ sym e))
      here i (inr apart) = same_seen q s t at (there q apart)

  pub others_looked : (caller : ℕ) → caller ≡ s.number → (n q : ℕ) → (n ≢ caller) ⊎ (q ≢ p) → looked_for t n q ≡ looked_for s n q
  others_looked caller e n q d = elim (eqb_tells n s.number) [
    | inl i ↦ looked_own t n q (i.1 ∙ sym num) ∙ here i.1 d ∙ sym (looked_own s n q i.1)
    | inr o ↦ looked_other t n q (λ x. o.1 (x ∙ num)) ∙ sym (looked_other s n q o.1)
  ]
    where
      here : n ≡ s.number → (n ≢ caller) ⊎ (q ≢ p) → looked_at t.places q ≡ looked_at s.places q
      here i (inl apart) = absurd (apart (i ∙ sym e))
      here i (inr apart) = (there q apart).looked

  pub grows_looked : (n : ℕ) → n ≡ s.number → looked_at t.places p ≡ looked_after (2 ^ 64 - 1) a (looked_at s.places p) → looked_for t n p ≡ looked_after (2 ^ 64 - 1) a (looked_for s n p)
  grows_looked n e l = looked_own t n p (e ∙ sym num) ∙ l ∙ ap (looked_after (2 ^ 64 - 1) a) (sym (looked_own s n p e))
