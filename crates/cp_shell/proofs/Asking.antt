-- What asking an object adds for an engine.
use Rattle.std.proofs.Common.{◌≡◌, ◌≢◌, inl, inr, ℕ, ◌<◌, ◌++◌, List, [], ◌∷◌, length, refl, sym, ◌∙◌, ap, subst, Option, Some, None}
use Rattle.std.specs.Prelude.{slice_get, MatchOption}
use Rattle.std.proofs.lemmas.Bool.Decides.{eqb_tells}
use Rattle.cp_list.specs.Lists.{IsPrefix}
use Rattle.cp_call.specs.declared.asked.Asked.{Asked}
use Rattle.cp_call.specs.declared.asked.Asked.TheVariants as asked
use Rattle.cp_call.specs.declared.call.Call.{Call}
use Rattle.cp_call.specs.declared.call.Reply.{Reply}
use Rattle.cp_call.specs.declared.call.Entry.{Entry}
use Rattle.cp_call.specs.declared.item.Item.{Item}
use Rattle.cp_call.specs.declared.item.Item.TheVariants as item
use Rattle.cp_call.specs.declared.outcome.OutEntry.{OutEntry}
use Rattle.cp_call.specs.Asker.{entry_added, IsFullBy, IsStill}
use Rattle.cp_call.specs.Added.{HasAdded}
use Rattle.cp_call.specs.Sound.{Object, own_entries}
use Rattle.cp_call.proofs.Adding.{HasAdded-asked, HasAdded-unanswered}
use Rattle.cp_call.proofs.Growing.{append_nil}
use Rattle.cp_shell.specs.Asked.{event_of, HasAskedOnce, IsAnswer, StillWaits}

pub nothing : (xs : List Item) → xs ≡ xs ++ []
nothing [] = refl
nothing (x ∷ xs) = ap (λ r. x ∷ r) (nothing xs)

no_more : (os : List Object) (seen now : ℕ → List Entry) (wrote : List OutEntry) (n p : ℕ)
    → ((q : ℕ) → IsPrefix (seen q) (now q))
    → own_entries n (now p) ≡ own_entries n (seen p) ++ []
    → ((q : ℕ) → p ≢ q → own_entries n (now q) ≡ own_entries n (seen q))
    → HasAdded os seen now wrote wrote n []
no_more os seen now wrote n p grows mine others = HasAdded-unanswered os seen now wrote n grows (λ q. elim (eqb_tells p q) [
  | inl s ↦ subst (λ x. own_entries n (now x) ≡ own_entries n (seen x)) s.1 (mine ∙ append_nil (own_entries n (seen p)))
  | inr d ↦ others q d.1
])

-- the event of the answer is what the asker has seen more for the engine
pub added_by : (os : List Object) (seen now : ℕ → List Entry) (wrote : List OutEntry) (n p : ℕ) (c : Call) (a : Asked)
    → p < length os
    → ((q : ℕ) → IsPrefix (seen q) (now q))
    → own_entries n (now p) ≡ own_entries n (seen p) ++ entry_added n c a
    → ((q : ℕ) → p ≢ q → own_entries n (now q) ≡ own_entries n (seen q))
    → IsFullBy (slice_get os p) (now p) n c a
    → HasAdded os seen now wrote wrote n (event_of p c a)
added_by os seen now wrote n p c (asked.Replied r) inside grows mine others full = HasAdded-asked os seen now wrote n p c r inside grows mine others full
added_by os seen now wrote n p c asked.StillParked inside grows mine others full = no_more os seen now wrote n p grows mine others
added_by os seen now wrote n p c asked.NoMemory inside grows mine others full = no_more os seen now wrote n p grows mine others

-- what an answer says of the events
pub replied_by : (items now : List Item) (p : ℕ) (c : Call) (a : Asked) (answer : Option Reply) → IsAnswer a answer → now ≡ items ++ event_of p c a
    → MatchOption answer (now ≡ items) (λ reply. now ≡ items ++ item.Asked p c reply ∷ [])
replied_by items now p c (asked.Replied r) answer h e = subst (λ o. MatchOption o (now ≡ items) (λ reply. now ≡ items ++ item.Asked p c reply ∷ [])) (sym h) e
replied_by items now p c asked.StillParked answer h e = subst (λ o. MatchOption o (now ≡ items) (λ reply. now ≡ items ++ item.Asked p c reply ∷ [])) (sym h) (e ∙ sym (nothing items))
replied_by items now p c asked.NoMemory answer h e = absurd h

-- no answer says that the engine still waits
pub still_by : (o : Option Object) (seen : List Entry) (n : ℕ) (c : Call) (a : Asked) (answer : Option Reply) → IsAnswer a answer → IsStill o seen n c a → answer ≡ None → StillWaits o seen n c
still_by o seen n c (asked.Replied r) answer h s e = let z : ⊥ = cc in absurd z
still_by (Some o) seen n c asked.StillParked answer h s e = s
still_by None seen n c asked.StillParked answer h s e = s
still_by o seen n c asked.NoMemory answer h s e = absurd h

-- the same of the event with a copy of the call
pub added_by_copy : (os : List Object) (seen now : ℕ → List Entry) (wrote : List OutEntry) (n p : ℕ) (c k : Call) (a : Asked)
    → k ≡ c
    → p < length os
    → ((q : ℕ) → IsPrefix (seen q) (now q))
    → own_entries n (now p) ≡ own_entries n (seen p) ++ entry_added n c a
    → ((q : ℕ) → p ≢ q → own_entries n (now q) ≡ own_entries n (seen q))
    → IsFullBy (slice_get os p) (now p) n c a
    → HasAdded os seen now wrote wrote n (event_of p k a)
added_by_copy os seen now wrote n p c k a e inside grows mine others full =
    subst (λ x. HasAdded os seen now wrote wrote n (event_of p x a)) (sym e) (added_by os seen now wrote n p c a inside grows mine others full)

-- an answer adds the call once at most
pub asked_once : (items now : List Item) (p : ℕ) (c k : Call) (a : Asked) → k ≡ c → now ≡ items ++ event_of p k a → HasAskedOnce items now p c
asked_once items now p c k (asked.Replied r) e is = inr (r, is ∙ ap (λ x. items ++ item.Asked p x r ∷ []) e)
asked_once items now p c k asked.StillParked e is = inl (is ∙ sym (nothing items))
asked_once items now p c k asked.NoMemory e is = inl (is ∙ sym (nothing items))
