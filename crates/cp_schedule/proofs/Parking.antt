-- Where the events of a worker leave it parked, there it was told so, and it is an object that there is.
use Rattle.std.proofs.Common.{◌≡◌, inl, inr, ◌⊎◌, ℕ, ◌<◌, List, [], ◌∷◌, ◌++◌, refl, ◌∙◌, ap, subst, Bool, true, false, cond, Option, Some, None, arith}
use Rattle.std.specs.Prelude.{slice_get, length, suc, zero, IfSome}
use Rattle.std.specs.List.{list_all}
use Rattle.std.proofs.lemmas.Bool.{and_parts, ltb-true}
use Rattle.cp_call.specs.declared.call.Call.{Call}
use Rattle.cp_call.specs.declared.call.Reply.{Reply}
use Rattle.cp_call.specs.declared.call.Reply.TheVariants as reply
use Rattle.cp_call.specs.declared.item.Item.{Item}
use Rattle.cp_call.specs.declared.item.Item.TheVariants as item
use Rattle.cp_call.specs.Sound.{EndsParkedOn, is_of_objects}
use Rattle.cp_call.specs.Object.{is_parked}
use Rattle.cp_hall.specs.Hall.{HallObject, objects_of, state_now}
use Rattle.cp_schedule.specs.Awake.{is_parked_in}
use Rattle.cp_shell.specs.Parked.{is_parking, parked_by, parked_after, parked_object}

parking_is : (r : Reply) → is_parking r ≡ true → r ≡ reply.Parked
parking_is (reply.Added place woken) h = cc
parking_is (reply.Found place fact) h = cc
parking_is reply.NoMore h = cc
parking_is reply.Parked h = refl
parking_is (reply.Purged count) h = cc
parking_is (reply.Replaced place woken) h = cc
parking_is (reply.Closed woken) h = cc
parking_is reply.Reopened h = cc
parking_is reply.Left h = cc
parking_is reply.NotParked h = cc
parking_is (reply.Full by count) h = cc

by_reply : (p q : ℕ) (c : Call) (r : Reply) (b : Bool) → is_parking r ≡ b → cond b (Some q) None ≡ Some p → item.Asked q c r ≡ item.Asked p c reply.Parked
by_reply p q c r true h e = let same : q ≡ p = cc in ap (λ x. item.Asked x c r) same ∙ ap (λ x. item.Asked p c x) (parking_is r h)
by_reply p q c r false h e = let w : ⊥ = cc in absurd w

-- the event that leaves a worker parked
parks : (p : ℕ) (i : Item) → parked_by i ≡ Some p → (c : Call) × (i ≡ item.Asked p c reply.Parked)
parks p (item.Asked q c r) h = (c, by_reply p q c r (is_parking r) refl h)
parks p (item.Wrote bytes r) h = let w : ⊥ = cc in absurd w
parks p (item.Remote c r) h = let w : ⊥ = cc in absurd w
parks p (item.Given c) h = let w : ⊥ = cc in absurd w
parks p (item.Answered r) h = let w : ⊥ = cc in absurd w

ends_after : (w : Option ℕ) (p : ℕ) (items : List Item) → parked_after w items ≡ Some p → ((w ≡ Some p) × (items ≡ [])) ⊎ EndsParkedOn p items
ends_after w p [] h = inl (h, refl)
ends_after w p (i ∷ items) h = elim (ends_after (parked_by i) p items h) [
  | inl e ↦ (let last = parks p i e.0 in inr ([], last.0, ap (λ x. x ∷ items) last.1 ∙ ap (λ xs. item.Asked p last.0 reply.Parked ∷ xs) e.1))
  | inr ends ↦ inr (i ∷ ends.0, ends.1, ap (λ xs. i ∷ xs) ends.2)
]

pub ends_parked : (p : ℕ) (items : List Item) → parked_object items ≡ Some p → EndsParkedOn p items
ends_parked p items h = elim (ends_after None p items h) [
  | inl e ↦ (let w : ⊥ = cc (e.0) in absurd w)
  | inr ends ↦ ends
]

last_all : (f : Item → Bool) (before : List Item) (i : Item) → list_all f (before ++ i ∷ []) ≡ true → f i ≡ true
last_all f [] i h = (and_parts (f i) true h).0
last_all f (x ∷ before) i h = last_all f before i (and_parts (f x) (list_all f (before ++ i ∷ [])) h).1

pub parked_inside : (count p : ℕ) (items : List Item) → parked_object items ≡ Some p → list_all (is_of_objects count) items ≡ true → p < count
parked_inside count p items h known =
    let ends = ends_parked p items h in
    ltb-true p count (last_all (is_of_objects count) ends.0 (item.Asked p ends.1 reply.Parked) (subst (λ xs. list_all (is_of_objects count) xs ≡ true) ends.2 known))

-- what the hall answers of a caller
pub parked_in_is : (hall : List HallObject) (p n m : ℕ) (b : Bool) → p < length (objects_of hall) → m ≡ n → IfSome (slice_get hall p) (λ o. b ≡ is_parked (state_now o) m) → b ≡ is_parked_in (slice_get hall p) n
parked_in_is [] p n m b h e i = absurd (let z : ⊥ = omega arith in z)
parked_in_is (x ∷ hall) zero n m b h e i = i ∙ ap (λ k. is_parked (state_now x) k) e
parked_in_is (x ∷ hall) (suc p) n m b h e i = parked_in_is hall p n m b (omega arith) e i
