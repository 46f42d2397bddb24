-- Who is parked: only a caller whose own last entry was replied Parked.
use Rattle.std.proofs.Common.{◌≡◌, inl, inr, ℕ, ◌==◌, List, [], ◌∷◌, ◌++◌, refl, sym, ◌∙◌, ap, subst, true, false, Bool, not, ◌&&◌, ◌||◌, cond, filter, Option, Some, None, append_assoc}
use Rattle.std.specs.Prelude.{ℤ}
use Rattle.std.specs.List.{list_any}
use Rattle.std.proofs.lemmas.Bool.Decides.{eqb_tells}
use Rattle.cp_term.specs.declared.cell.Cell.{Cell}
use Rattle.cp_call.specs.declared.call.ObjectKind.{ObjectKind}
use Rattle.cp_call.specs.declared.call.Call.{Call}
use Rattle.cp_call.specs.declared.call.Call.TheVariants as call
use Rattle.cp_call.specs.declared.call.Reply.{Reply}
use Rattle.cp_call.specs.declared.call.Reply.TheVariants as reply
use Rattle.cp_call.specs.declared.call.Entry.{Entry}
use Rattle.cp_call.specs.declared.call.FullBy.{FullBy}
use Rattle.cp_call.specs.declared.outcome.FactRow.{FactRow}
use Rattle.cp_call.specs.declared.outcome.ParkedRow.{ParkedRow}
use Rattle.cp_call.specs.Object.{State, step, is_parked, finds, finds_nothing, removes, closes, reopens, leaves, can_park, suspends, first_seen}
use Rattle.cp_call.specs.History.{is_leave, state_after, LegalAfter, Legal, MayFollow}
use Rattle.cp_call.specs.Sound.{own_entries, entry_unless_full}
use Rattle.cp_call.specs.Asker.{EndsParked}
use Rattle.std.proofs.lemmas.List.Elements.{filter-append}
use Rattle.cp_call.proofs.Growing.{state_after-push, append_nil}

-- a step is never a refusal for want of room, so its entry is kept
kept_after_nothing : (n : ℕ) (c : Call) (s : State) (m : ℕ) (pattern : List Cell) (after : Option ℤ) (waits : Bool) → entry_unless_full n c (finds_nothing s m pattern after waits).reply [] ≡ record { caller = n; call = c; reply = (finds_nothing s m pattern after waits).reply } ∷ []
kept_after_nothing n c s m pattern after true = refl
kept_after_nothing n c s m pattern after false = refl

kept_after_look : (n : ℕ) (c : Call) (s : State) (m : ℕ) (pattern : List Cell) (after : Option ℤ) (waits : Bool) (f : Option FactRow) → entry_unless_full n c (finds s m pattern after waits f).reply [] ≡ record { caller = n; call = c; reply = (finds s m pattern after waits f).reply } ∷ []
kept_after_look n c s m pattern after waits None = kept_after_nothing n c s m pattern after waits
kept_after_look n c s m pattern after waits (Some f) = refl

kept_after_take : (n : ℕ) (c : Call) (s : State) (m : ℕ) (pattern : List Cell) (after : Option ℤ) (waits : Bool) (f : Option FactRow) → entry_unless_full n c (removes s m pattern after waits f).reply [] ≡ record { caller = n; call = c; reply = (removes s m pattern after waits f).reply } ∷ []
kept_after_take n c s m pattern after waits None = kept_after_nothing n c s m pattern after waits
kept_after_take n c s m pattern after waits (Some f) = refl

kept_after_close : (n : ℕ) (c : Call) (s : State) (b : Bool) → entry_unless_full n c (closes s b).reply [] ≡ record { caller = n; call = c; reply = (closes s b).reply } ∷ []
kept_after_close n c s true = refl
kept_after_close n c s false = refl

kept_after_reopen : (n : ℕ) (c : Call) (s : State) (b : Bool) → entry_unless_full n c (reopens s b).reply [] ≡ record { caller = n; call = c; reply = (reopens s b).reply } ∷ []
kept_after_reopen n c s true = refl
kept_after_reopen n c s false = refl

kept_after_leave : (n : ℕ) (c : Call) (s : State) (m : ℕ) (b : Bool) → entry_unless_full n c (leaves s m b).reply [] ≡ record { caller = n; call = c; reply = (leaves s m b).reply } ∷ []
kept_after_leave n c s m true = refl
kept_after_leave n c s m false = refl

pub entry_unless_full-step : (n : ℕ) (c : Call) (s : State) (m : ℕ) (k : Call) → entry_unless_full n c (step s m k).reply [] ≡ record { caller = n; call = c; reply = (step s m k).reply } ∷ []
entry_unless_full-step n c s m (call.AddFront fact) = refl
entry_unless_full-step n c s m (call.AddBack fact) = refl
entry_unless_full-step n c s m (call.Next pattern after) = kept_after_look n c s m pattern after (can_park s) (first_seen s.facts pattern after)
entry_unless_full-step n c s m (call.Take pattern after) = kept_after_take n c s m pattern after (can_park s) (first_seen s.facts pattern after)
entry_unless_full-step n c s m (call.NextNb pattern after) = kept_after_look n c s m pattern after false (first_seen s.facts pattern after)
entry_unless_full-step n c s m (call.TakeNb pattern after) = kept_after_take n c s m pattern after false (first_seen s.facts pattern after)
entry_unless_full-step n c s m (call.Purge pattern) = refl
entry_unless_full-step n c s m (call.Replace fact) = refl
entry_unless_full-step n c s m call.Close = kept_after_close n c s (suspends s.kind)
entry_unless_full-step n c s m call.Reopen = kept_after_reopen n c s (suspends s.kind)
entry_unless_full-step n c s m call.Leave = kept_after_leave n c s m (is_parked s m)

cons_nil : (e : Entry) (es : List Entry) → [] ≡ e ∷ es → ⊥
cons_nil e es h = cc

-- an object never replies that there is no room
pub step-not_full : (s : State) (m : ℕ) (c : Call) (by : FullBy) (count : ℕ) → (step s m c).reply ≡ reply.Full by count → ⊥
step-not_full s m c by count h =
    let kept : entry_unless_full m c (step s m c).reply [] ≡ record { caller = m; call = c; reply = (step s m c).reply } ∷ [] = entry_unless_full-step m c s m c in
    cons_nil (record { caller = m; call = c; reply = (step s m c).reply }) [] (sym (ap (λ r. entry_unless_full m c r []) h) ∙ kept)

or_mono : (b r r' : Bool) → (r ≡ true → r' ≡ true) → b || r ≡ true → b || r' ≡ true
or_mono true r r' k h = refl
or_mono false r r' k h = k h

or_more : (b r : Bool) → r ≡ true → b || r ≡ true
or_more true r h = refl
or_more false r h = h

any_cond : {X : Type 0} (p : X → Bool) (x : X) (ys zs : List X) (b : Bool) → (list_any p ys ≡ true → list_any p zs ≡ true) → list_any p (cond b (x ∷ ys) ys) ≡ true → p x || list_any p zs ≡ true
any_cond p x ys zs true k h = or_mono (p x) (list_any p ys) (list_any p zs) k h
any_cond p x ys zs false k h = or_more (p x) (list_any p zs) (k h)

-- who is parked after a filter was parked before
any_filter : {X : Type 0} (p g : X → Bool) (xs : List X) → list_any p (filter g xs) ≡ true → list_any p xs ≡ true
any_filter p g [] h = h
any_filter p g (x ∷ xs) h = any_cond p x (filter g xs) xs (g x) (any_filter p g xs) h

abbrev is_row_of : ℕ → ParkedRow → Bool
is_row_of n w = w.caller == n

none_cond : (n : ℕ) (x : ParkedRow) (ys : List ParkedRow) (b : Bool) → (x.caller == n) ≡ b → list_any (is_row_of n) ys ≡ false → list_any (is_row_of n) (cond (not b) (x ∷ ys) ys) ≡ false
none_cond n x ys true e h = h
none_cond n x ys false e h = rw e h

-- nobody who is filtered out is left
none_left : (n : ℕ) (xs : List ParkedRow) → list_any (is_row_of n) (filter (λ (w : ParkedRow). not (w.caller == n)) xs) ≡ false
none_left n [] = refl
none_left n (x ∷ xs) = none_cond n x (filter (λ (w : ParkedRow). not (w.caller == n)) xs) (x.caller == n) refl (none_left n xs)

any_push : (n : ℕ) (xs : List ParkedRow) (w : ParkedRow) → (w.caller == n) ≡ false → list_any (is_row_of n) (xs ++ w ∷ []) ≡ true → list_any (is_row_of n) xs ≡ true
any_push n [] w e h = let z : false || false ≡ true = rw e at h in z
any_push n (x ∷ xs) w e h = or_mono (x.caller == n) (list_any (is_row_of n) (xs ++ w ∷ [])) (list_any (is_row_of n) xs) (any_push n xs w e) h

-- a call by another caller parks nobody else
others_nothing : (s : State) (m n : ℕ) (pattern : List Cell) (after : Option ℤ) (waits : Bool) → (m == n) ≡ false → is_parked (finds_nothing s m pattern after waits).state n ≡ true → is_parked s n ≡ true
others_nothing s m n pattern after true e h = any_push n s.parked (record { caller = m; pattern = pattern; after = after }) e h
others_nothing s m n pattern after false e h = h

others_finds : (s : State) (m n : ℕ) (pattern : List Cell) (after : Option ℤ) (waits : Bool) (f : Option FactRow) → (m == n) ≡ false → is_parked (finds s m pattern after waits f).state n ≡ true → is_parked s n ≡ true
others_finds s m n pattern after waits None e h = others_nothing s m n pattern after waits e h
others_finds s m n pattern after waits (Some f) e h = h

others_removes : (s : State) (m n : ℕ) (pattern : List Cell) (after : Option ℤ) (waits : Bool) (f : Option FactRow) → (m == n) ≡ false → is_parked (removes s m pattern after waits f).state n ≡ true → is_parked s n ≡ true
others_removes s m n pattern after waits None e h = others_nothing s m n pattern after waits e h
others_removes s m n pattern after waits (Some f) e h = h

fewer_closes : (s : State) (n : ℕ) (b : Bool) → is_parked (closes s b).state n ≡ true → is_parked s n ≡ true
fewer_closes s n true h = cc
fewer_closes s n false h = h

fewer_reopens : (s : State) (n : ℕ) (b : Bool) → is_parked (reopens s b).state n ≡ true → is_parked s n ≡ true
fewer_reopens s n true h = h
fewer_reopens s n false h = h

fewer_leaves : (s : State) (m n : ℕ) (b : Bool) → is_parked (leaves s m b).state n ≡ true → is_parked s n ≡ true
fewer_leaves s m n true h = any_filter (is_row_of n) (λ (w : ParkedRow). not (w.caller == m)) s.parked h
fewer_leaves s m n false h = h

pub others-step : (s : State) (m n : ℕ) (c : Call) → (m == n) ≡ false → is_parked (step s m c).state n ≡ true → is_parked s n ≡ true
others-step s m n (call.AddFront fact) e h = any_filter (is_row_of n) _ s.parked h
others-step s m n (call.AddBack fact) e h = any_filter (is_row_of n) _ s.parked h
others-step s m n (call.Next pattern after) e h = others_finds s m n pattern after (can_park s) (first_seen s.facts pattern after) e h
others-step s m n (call.Take pattern after) e h = others_removes s m n pattern after (can_park s) (first_seen s.facts pattern after) e h
others-step s m n (call.NextNb pattern after) e h = others_finds s m n pattern after false (first_seen s.facts pattern after) e h
others-step s m n (call.TakeNb pattern after) e h = others_removes s m n pattern after false (first_seen s.facts pattern after) e h
others-step s m n (call.Purge pattern) e h = h
others-step s m n (call.Replace fact) e h = any_filter (is_row_of n) _ s.parked h
others-step s m n call.Close e h = fewer_closes s n (suspends s.kind) h
others-step s m n call.Reopen e h = fewer_reopens s n (suspends s.kind) h
others-step s m n call.Leave e h = fewer_leaves s m n (is_parked s m) h

-- a caller that was not parked is parked by its own call only with the reply Parked
own_nothing : (s : State) (n : ℕ) (pattern : List Cell) (after : Option ℤ) (waits : Bool) → is_parked s n ≡ false → is_parked (finds_nothing s n pattern after waits).state n ≡ true → (finds_nothing s n pattern after waits).reply ≡ reply.Parked
own_nothing s n pattern after true f h = refl
own_nothing s n pattern after false f h = cc

own_finds : (s : State) (n : ℕ) (pattern : List Cell) (after : Option ℤ) (waits : Bool) (o : Option FactRow) → is_parked s n ≡ false → is_parked (finds s n pattern after waits o).state n ≡ true → (finds s n pattern after waits o).reply ≡ reply.Parked
own_finds s n pattern after waits None f h = own_nothing s n pattern after waits f h
own_finds s n pattern after waits (Some x) f h = cc

own_removes : (s : State) (n : ℕ) (pattern : List Cell) (after : Option ℤ) (waits : Bool) (o : Option FactRow) → is_parked s n ≡ false → is_parked (removes s n pattern after waits o).state n ≡ true → (removes s n pattern after waits o).reply ≡ reply.Parked
own_removes s n pattern after waits None f h = own_nothing s n pattern after waits f h
own_removes s n pattern after waits (Some x) f h = cc

own_leaves : (s : State) (n : ℕ) (b : Bool) → is_parked s n ≡ b → is_parked (leaves s n b).state n ≡ true → (leaves s n b).reply ≡ reply.Parked
own_leaves s n true e h = let z : is_parked (leaves s n true).state n ≡ false = none_left n s.parked in cc (z, h)
own_leaves s n false e h = cc

both : (s : State) (n : ℕ) (r : Reply) → is_parked s n ≡ false → is_parked s n ≡ true → r ≡ reply.Parked
both s n r f h = cc

not_leave : (b : Bool) → b && true ≡ false → b ≡ false
not_leave true h = h
not_leave false h = h

own-step : (s : State) (n : ℕ) (c : Call) → is_parked s n && not (is_leave c) ≡ false → is_parked (step s n c).state n ≡ true → (step s n c).reply ≡ reply.Parked
own-step s n (call.AddFront fact) f h = both s n _ (not_leave (is_parked s n) f) (any_filter (is_row_of n) _ s.parked h)
own-step s n (call.AddBack fact) f h = both s n _ (not_leave (is_parked s n) f) (any_filter (is_row_of n) _ s.parked h)
own-step s n (call.Next pattern after) f h = own_finds s n pattern after (can_park s) (first_seen s.facts pattern after) (not_leave (is_parked s n) f) h
own-step s n (call.Take pattern after) f h = own_removes s n pattern after (can_park s) (first_seen s.facts pattern after) (not_leave (is_parked s n) f) h
own-step s n (call.NextNb pattern after) f h = own_finds s n pattern after false (first_seen s.facts pattern after) (not_leave (is_parked s n) f) h
own-step s n (call.TakeNb pattern after) f h = own_removes s n pattern after false (first_seen s.facts pattern after) (not_leave (is_parked s n) f) h
own-step s n (call.Purge pattern) f h = both s n _ (not_leave (is_parked s n) f) h
own-step s n (call.Replace fact) f h = both s n _ (not_leave (is_parked s n) f) (any_filter (is_row_of n) _ s.parked h)
own-step s n call.Close f h = both s n _ (not_leave (is_parked s n) f) (fewer_closes s n (suspends s.kind) h)
own-step s n call.Reopen f h = both s n _ (not_leave (is_parked s n) f) (fewer_reopens s n (suspends s.kind) h)
own-step s n call.Leave f h = own_leaves s n (is_parked s n) refl h

-- one entry more
EndsParked-entry : (k : ObjectKind) (o : List (List Cell)) (before : List Entry) (e : Entry) (n : ℕ)
    → MayFollow k o before e
    → (is_parked (state_after k o before) n ≡ true → EndsParked (own_entries n before))
    → is_parked (state_after k o (before ++ e ∷ [])) n ≡ true → EndsParked (own_entries n (before ++ e ∷ []))
EndsParked-entry k o before e n f ih h = elim (eqb_tells e.caller n) [
  | inl s ↦ (let hh : is_parked (step (state_after k o before) e.caller e.call).state n ≡ true = subst (λ (x : State). is_parked x n ≡ true) (state_after-push k o before e) h in
      let own : own_entries n (before ++ e ∷ []) ≡ own_entries n before ++ e ∷ [] = filter-append (λ (x : Entry). x.caller == n) before (e ∷ []) ∙ (rw s.0 refl) in
      let z : (step (state_after k o before) e.caller e.call).reply ≡ reply.Parked = own-step (state_after k o before) e.caller e.call f.awake (subst (λ x. is_parked (step (state_after k o before) e.caller e.call).state x ≡ true) (sym s.1) hh) in
      (own_entries n before, e, (own, f.replied ∙ z)))
  | inr d ↦ (let hh : is_parked (step (state_after k o before) e.caller e.call).state n ≡ true = subst (λ (x : State). is_parked x n ≡ true) (state_after-push k o before e) h in
      let own : own_entries n (before ++ e ∷ []) ≡ own_entries n before = filter-append (λ (x : Entry). x.caller == n) before (e ∷ []) ∙ (rw d.0 (append_nil (own_entries n before))) in
      subst EndsParked (sym own) (ih (others-step (state_after k o before) e.caller n e.call d.0 hh)))
]

EndsParked-from : (k : ObjectKind) (o : List (List Cell)) (before history : List Entry) (n : ℕ)
    → LegalAfter k o before history
    → (is_parked (state_after k o before) n ≡ true → EndsParked (own_entries n before))
    → is_parked (state_after k o (before ++ history)) n ≡ true → EndsParked (own_entries n (before ++ history))
EndsParked-from k o before [] n l ih h = subst (λ b. EndsParked (own_entries n b)) (sym (append_nil before)) (ih (subst (λ b. is_parked (state_after k o b) n ≡ true) (append_nil before) h))
EndsParked-from k o before (e ∷ es) n l ih h =
    subst (λ b. EndsParked (own_entries n b)) (append_assoc before (e ∷ []) es)
    (EndsParked-from k o (before ++ e ∷ []) es n l.1 (EndsParked-entry k o before e n l.0 ih)
    (subst (λ b. is_parked (state_after k o b) n ≡ true) (sym (append_assoc before (e ∷ []) es)) h))

-- In a legal history a caller is parked only where the last of its own entries was replied Parked.
pub parked_ends : (k : ObjectKind) (o : List (List Cell)) (history : List Entry) (n : ℕ) → Legal k o history → is_parked (state_after k o history) n ≡ true → EndsParked (own_entries n history)
parked_ends k o history n l h = EndsParked-from k o [] history n l (λ e. nobody e) h
  where
    nobody : false ≡ true → EndsParked []
    nobody e = absurd (let z : ⊥ = cc in z)
