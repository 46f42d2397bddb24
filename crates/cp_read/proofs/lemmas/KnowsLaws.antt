-- The table of variables and the names that the definition has seen know the same variables.
use Rattle.std.proofs.Common.{◌≡◌, ◌<◌, ℕ, suc, Bool, true, false, cond, List, [], ◌∷◌, ◌++◌, length, refl, sym, ◌∙◌, ap, subst, arith}
use Rattle.std.proofs.lemmas.Slice.Eq.{bytes_eq-Decides}
use Rattle.std.proofs.lemmas.Bool.Decides.{Decides-eqb}
use Rattle.std.specs.Prelude.{Option, Some, None, unwrap_or, is_some, codes, ◌==◌}
use Rattle.std.specs.Str.{bytes_eq}
use Rattle.cp_lex.specs.declared.token.TokenKind.TheVariants as kinds
use Rattle.cp_read.specs.Lexemes.{place_of, variable_number, seen_behind}
use Rattle.cp_read.specs.SeenNames.{Seen, number_in, number_of, seen_with, with_new, with_nameless, Placed, Knows, nothing_seen}

not_both : (b : Bool) → b ≡ true → b ≡ false → ⊥
not_both true h g = let none : ⊥ = cc in none
not_both false h g = let none : ⊥ = cc in none

flipped : (v w : List ℕ) → bytes_eq v w ≡ bytes_eq w v
flipped v w =
    elim (bytes_eq v w) as (λ b. bytes_eq v w ≡ b → b ≡ bytes_eq w v) [
      | true ↦ λ e. sym ((bytes_eq-Decides w v).1 (sym ((bytes_eq-Decides v w).0 e)))
      | false ↦ λ e. elim (bytes_eq w v) as (λ c. bytes_eq w v ≡ c → false ≡ c) [
        | true ↦ λ f. absurd (not_both (bytes_eq v w) ((bytes_eq-Decides v w).1 (sym ((bytes_eq-Decides w v).0 f))) e)
        | false ↦ λ f. refl
      ] refl
    ] refl

-- a name that is not `_` is not another that is
other : (w v : List ℕ) → bytes_eq w (codes "_") ≡ true → bytes_eq v (codes "_") ≡ false → bytes_eq w v ≡ false
other w v h g =
    elim (bytes_eq w v) as (λ b. bytes_eq w v ≡ b → b ≡ false) [
      | true ↦ λ e. absurd (not_both (bytes_eq v (codes "_")) (subst (λ (x : List ℕ). bytes_eq x (codes "_") ≡ true) ((bytes_eq-Decides w v).0 e) h) g)
      | false ↦ λ e. refl
    ] refl

differ : (a b : ℕ) → a < b → (a == b) ≡ false
differ a b h =
    elim (a == b) as (λ c. (a == b) ≡ c → c ≡ false) [
      | true ↦ λ e. absurd (let same : a ≡ b = (Decides-eqb a b).0 e in omega (arith, h, same))
      | false ↦ λ e. refl
    ] refl

one_longer : (list : List (List ℕ)) (w : List ℕ) → length (list ++ w ∷ []) ≡ suc (length list)
one_longer [] w = refl
one_longer (s ∷ list) w = ap suc (one_longer list w)

place-in : (list : List (List ℕ)) (w v : List ℕ) → place_of list v < length list → place_of (list ++ w ∷ []) v ≡ place_of list v
place-in [] w v h = absurd (omega (arith, h))
place-in (s ∷ list) w v h =
    elim (bytes_eq s v) as (λ b. cond b 0 (suc (place_of list v)) < suc (length list) → cond b 0 (suc (place_of (list ++ w ∷ []) v)) ≡ cond b 0 (suc (place_of list v))) [
      | true ↦ λ g. refl
      | false ↦ λ g. ap suc (place-in list w v (omega (arith, g)))
    ] h

place-same : (list : List (List ℕ)) (w v : List ℕ) → place_of list v ≡ length list → bytes_eq w v ≡ true → place_of (list ++ w ∷ []) v ≡ length list
place-same [] w v h e = ap (λ b. cond b 0 1) e
place-same (s ∷ list) w v h e =
    elim (bytes_eq s v) as (λ b. cond b 0 (suc (place_of list v)) ≡ suc (length list) → cond b 0 (suc (place_of (list ++ w ∷ []) v)) ≡ suc (length list)) [
      | true ↦ λ g. absurd (omega (arith, g))
      | false ↦ λ g. ap suc (place-same list w v (omega (arith, g)) e)
    ] h

place-other : (list : List (List ℕ)) (w v : List ℕ) → place_of list v ≡ length list → bytes_eq w v ≡ false → place_of (list ++ w ∷ []) v ≡ suc (length list)
place-other [] w v h e = ap (λ b. cond b 0 1) e
place-other (s ∷ list) w v h e =
    elim (bytes_eq s v) as (λ b. cond b 0 (suc (place_of list v)) ≡ suc (length list) → cond b 0 (suc (place_of (list ++ w ∷ []) v)) ≡ suc (suc (length list))) [
      | true ↦ λ g. absurd (omega (arith, g))
      | false ↦ λ g. ap suc (place-other list w v (omega (arith, g)) e)
    ] h

placed-more : (o : Option ℕ) (list : List (List ℕ)) (w v : List ℕ) → bytes_eq w v ≡ false → Placed o list v → Placed o (list ++ w ∷ []) v
placed-more (Some n) list w v e h = (
  h.0 ∙ sym (place-in list w v (subst (λ (k : ℕ). k < length list) (h.0) (h.1))),
  omega (arith, h.1, one_longer list w),
)
placed-more None list w v e h = place-other list w v h e ∙ sym (one_longer list w)

abbrev or_else : Option ℕ → Option ℕ → Option ℕ
or_else (Some k) o = Some k
or_else None o = o

number_in-append : (names : List (List ℕ × ℕ)) (w v : List ℕ) (n : ℕ) → number_in (names ++ (w, n) ∷ []) v ≡ or_else (number_in names v) (cond (bytes_eq v w) (Some n) None)
number_in-append [] w v n = refl
number_in-append (e ∷ names) w v n =
    elim (bytes_eq v (e.0)) as (λ b. cond b (Some (e.1)) (number_in (names ++ (w, n) ∷ []) v) ≡ or_else (cond b (Some (e.1)) (number_in names v)) (cond (bytes_eq v w) (Some n) None)) [
      | true ↦ refl
      | false ↦ number_in-append names w v n
    ]

placed-named : (o : Option ℕ) (list : List (List ℕ)) (w v : List ℕ) (n : ℕ) → n ≡ length list → Placed o list v → Placed (or_else o (cond (bytes_eq v w) (Some n) None)) (list ++ w ∷ []) v
placed-named (Some k) list w v n is h = (
  h.0 ∙ sym (place-in list w v (subst (λ (k : ℕ). k < length list) (h.0) (h.1))),
  omega (arith, h.1, one_longer list w),
)
placed-named None list w v n is h =
    elim (bytes_eq v w) as (λ b. bytes_eq w v ≡ b → Placed (cond b (Some n) None) (list ++ w ∷ []) v) [
      | true ↦ λ e. (is ∙ sym (place-same list w v h e), omega (arith, is, one_longer list w))
      | false ↦ λ e. place-other list w v h e ∙ sym (one_longer list w)
    ] (flipped w v)

number_in-is : (o : Option ℕ) (count : ℕ) (list : List (List ℕ)) (v : List ℕ) → count ≡ length list → Placed o list v → unwrap_or o count ≡ place_of list v
number_in-is (Some n) count list v e h = h.0
number_in-is None count list v e h = e ∙ sym h

pub nothing-known : Knows nothing_seen []
nothing-known = record { count = refl; places = λ called plain. refl }

pub number-is : (seen : Seen) (list : List (List ℕ)) (v : List ℕ) → Knows seen list → number_of seen v ≡ variable_number list v
number-is seen list v k =
    elim (bytes_eq v (codes "_")) as (λ b. bytes_eq v (codes "_") ≡ b → cond b seen.count (unwrap_or (number_in seen.names v) seen.count) ≡ cond b (length list) (place_of list v)) [
      | true ↦ λ e. k.count
      | false ↦ λ e. number_in-is (number_in seen.names v) seen.count list v k.count (k.places v e)
    ] refl

-- a new variable
longer_list : (seen : Seen) (list : List (List ℕ)) (v : List ℕ) (n : ℕ) → n ≡ length list → Knows seen (list ++ v ∷ []) → Knows seen (cond (n == length list) (list ++ v ∷ []) list)
longer_list seen list v n e k = subst (λ (b : Bool). Knows seen (cond b (list ++ v ∷ []) list)) (sym ((Decides-eqb n (length list)).1 e)) k

same_list : (seen : Seen) (list : List (List ℕ)) (v : List ℕ) (n : ℕ) → n < length list → Knows seen list → Knows seen (cond (n == length list) (list ++ v ∷ []) list)
same_list seen list v n e k = subst (λ (b : Bool). Knows seen (cond b (list ++ v ∷ []) list)) (sym (differ n (length list) e)) k

nameless : (seen : Seen) (list : List (List ℕ)) (v : List ℕ) → bytes_eq v (codes "_") ≡ true → Knows seen list → Knows (with_nameless seen) (list ++ v ∷ [])
nameless seen list v e k = record {
  count = omega (arith, k.count, one_longer list v);
  places = λ called plain. placed-more (number_in seen.names called) list v called (other v called e plain) (k.places called plain);
}

new_name : (seen : Seen) (list : List (List ℕ)) (v : List ℕ) → Knows seen list → Knows (with_new seen v) (list ++ v ∷ [])
new_name seen list v k = record {
  count = omega (arith, k.count, one_longer list v);
  places = λ called plain. subst (λ (o : Option ℕ). Placed o (list ++ v ∷ []) called) (sym (number_in-append seen.names v called seen.count)) (placed-named (number_in seen.names called) list v called seen.count k.count (k.places called plain));
}

named : (seen : Seen) (list : List (List ℕ)) (v : List ℕ) (o : Option ℕ) → Placed o list v → Knows seen list →
    Knows (cond (is_some o) seen (with_new seen v)) (cond (place_of list v == length list) (list ++ v ∷ []) list)
named seen list v (Some n) h k = same_list seen list v (place_of list v) (subst (λ (k : ℕ). k < length list) (h.0) (h.1)) k
named seen list v None h k = longer_list (with_new seen v) list v (place_of list v) h (new_name seen list v k)

pub knows-behind : (seen : Seen) (list : List (List ℕ)) (v : List ℕ) → Knows seen list → Knows (seen_with seen v) (seen_behind list (kinds.Variable v))
knows-behind seen list v k =
    elim (bytes_eq v (codes "_")) as (λ b. bytes_eq v (codes "_") ≡ b →
    Knows (cond b (with_nameless seen) (cond (is_some (number_in seen.names v)) seen (with_new seen v))) (cond (cond b (length list) (place_of list v) == length list) (list ++ v ∷ []) list)) [
      | true ↦ λ e. longer_list (with_nameless seen) list v (length list) refl (nameless seen list v e k)
      | false ↦ λ e. named seen list v (number_in seen.names v) (k.places v e) k
    ] refl
