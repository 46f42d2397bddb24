-- The parts that are left to look at, the next one last.
use Rattle.std.proofs.Common.{◌≡◌, ℕ, ◌+◌, ◌<◌, true, false, Bool, List, [], ◌∷◌, ◌++◌, length, refl, sym, ◌∙◌, ap, subst, arith}
use Rattle.std.specs.Prelude.{◌&&◌}
use Rattle.cp_heap.specs.declared.reference.Ref.{Ref}
use Rattle.cp_heap.specs.State.{State}
use Rattle.cp_request.specs.declared.parts.Parts.{Parts}
use Rattle.cp_request.specs.Parts.{is_body_at, are_bodies, places_of, can_be_body, ArePlaces, cells_at, IsMadeOf}

and_assoc : (a b c : Bool) → ((a && b) && c) ≡ (a && (b && c))
and_assoc true b c = refl
and_assoc false b c = refl

and-true : (a : Bool) → (a && true) ≡ a
and-true true = refl
and-true false = refl

and-false : (a : Bool) → (a && false) ≡ false
and-false true = refl
and-false false = refl

are_bodies-append : (h : State) (m : List ℕ) (xs ys : List Ref) → are_bodies h m (xs ++ ys) ≡ (are_bodies h m xs && are_bodies h m ys)
are_bodies-append h m [] ys = refl
are_bodies-append h m (x ∷ xs) ys =
    ap (λ b. is_body_at h m x && b) (are_bodies-append h m xs ys) ∙ sym (and_assoc (is_body_at h m x) (are_bodies h m xs) (are_bodies h m ys))

cells_at-append : (h : State) (xs ys : List Ref) → cells_at h (xs ++ ys) ≡ cells_at h xs + cells_at h ys
cells_at-append h [] ys = omega arith
cells_at-append h (x ∷ xs) ys = let n = cells_at-append h xs ys in omega arith

places-append : (h : State) (xs ys : List Ref) → ArePlaces h xs → ArePlaces h ys → ArePlaces h (xs ++ ys)
places-append h [] ys p q = q
places-append h (x ∷ xs) ys p q = (p.0, places-append h xs ys p.1 q)

places-front : (h : State) (xs ys : List Ref) → ArePlaces h (xs ++ ys) → ArePlaces h xs
places-front h [] ys p = tt
places-front h (x ∷ xs) ys p = (p.0, places-front h xs ys p.1)

places-back : (h : State) (xs ys : List Ref) → ArePlaces h (xs ++ ys) → ArePlaces h ys
places-back h [] ys p = p
places-back h (x ∷ xs) ys p = places-back h xs ys p.1

module _ (h : State) (left rest : List Ref) (next : Ref) (popped : left ≡ rest ++ next ∷ []) where
  pub next_place : ArePlaces h left → next.at < length h.terms
  next_place p = (places-back h rest (next ∷ []) (subst (ArePlaces h) popped p)).0

  module _ (p : Parts) (made : IsMadeOf h next p) where
    pub wrong : (m : List ℕ) → can_be_body p ≡ false → are_bodies h m left ≡ false
    wrong m none =
        ap (are_bodies h m) popped ∙ are_bodies-append h m rest (next ∷ [])
        ∙ ap (λ b. are_bodies h m rest && (b && true)) (made.body m ∙ ap (λ b. b && are_bodies h m (places_of p)) none)
        ∙ and-false (are_bodies h m rest)

    pub pushed_bodies : (m : List ℕ) (after : List Ref) → can_be_body p ≡ true → after ≡ rest ++ places_of p → are_bodies h m left ≡ are_bodies h m after
    pushed_bodies m after some pushed =
        ap (are_bodies h m) popped ∙ are_bodies-append h m rest (next ∷ [])
        ∙ ap (λ b. are_bodies h m rest && (b && true)) (made.body m ∙ ap (λ b. b && are_bodies h m (places_of p)) some)
        ∙ ap (λ b. are_bodies h m rest && b) (and-true (are_bodies h m (places_of p)))
        ∙ sym (are_bodies-append h m rest (places_of p)) ∙ sym (ap (are_bodies h m) pushed)

    pub pushed_places : (after : List Ref) → after ≡ rest ++ places_of p → ArePlaces h left → ArePlaces h after
    pushed_places after pushed places =
        subst (ArePlaces h) (sym pushed) (places-append h rest (places_of p) (places-front h rest (next ∷ []) (subst (ArePlaces h) popped places)) made.places)

    pub pushed_fewer : (after : List Ref) → after ≡ rest ++ places_of p → cells_at h after < cells_at h left
    pushed_fewer after pushed =
        let before : cells_at h left ≡ cells_at h rest + cells_at h (next ∷ []) = ap (cells_at h) popped ∙ cells_at-append h rest (next ∷ []) in
        let now : cells_at h after ≡ cells_at h rest + cells_at h (places_of p) = ap (cells_at h) pushed ∙ cells_at-append h rest (places_of p) in
        let fewer = made.fewer in
        omega arith
