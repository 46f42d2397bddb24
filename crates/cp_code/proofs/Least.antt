-- The depth to which a property is tested is never met, so that the test is the least one that the clauses of the types allow.
use Rattle.std.proofs.Common.{◌≡◌, refl, sym, ap, subst, ◌∙◌, ℕ, zero, suc, ◌+◌, ◌-◌, ◌*◌, ◌<◌, ◌≤◌, ◌⊎◌, inl, inr, Bool, true, false, List, [], ◌∷◌, Option, Some, None, length, arith}
use Rattle.std.specs.Prelude.{cond}
use Rattle.std.specs.Str.{bytes_eq}
use Rattle.std.proofs.lemmas.Bool.{cases_lt}
use Rattle.std.proofs.lemmas.Slice.Eq.{bytes_eq-Decides}
use Rattle.cp_term.specs.declared.cell.Cell.{Cell}
use Rattle.cp_code.specs.Properties.{TypeRow, row_named, Test, without_types, has_row, test_by, has_within, has}
use Rattle.cp_code.specs.Laws.{DepthIsEnough, HasIsItsRow, HasIsLeast}
use Rattle.std.proofs.Math.Nat.{mul-le-mul_left}
use Rattle.cp_code.proofs.Near.{Near, near_length, test_on}

both_ways : (a b : Bool) → (a ≡ true → b ≡ true) → (b ≡ true → a ≡ true) → a ≡ b
both_ways true b f g = sym (f refl)
both_ways false true f g = g refl
both_ways false false f g = refl

-- ---- a greater depth

within_more : (types : List TypeRow) (n : ℕ) (name : List ℕ) (t : List Cell) → has_within types n name t ≡ true → has_within types (suc n) name t ≡ true
within_more types zero name t p = cc
within_more types (suc n) name t p =
    test_on t (has_within types n) (has_within types (suc n)) (λ u s near q. within_more types n u s q) types (without_types name t) name p

within_most : (types : List TypeRow) (k n : ℕ) (name : List ℕ) (t : List Cell) → has_within types n name t ≡ true → has_within types (k + n) name t ≡ true
within_most types zero n name t p = let e : 0 + n ≡ n = omega arith in subst (λ (m : ℕ). has_within types m name t ≡ true) (sym e) p
within_most types (suc k) n name t p =
    let e : suc k + n ≡ suc (k + n) = omega arith in
    subst (λ (m : ℕ). has_within types m name t ≡ true) (sym e) (within_more types (k + n) name t (within_most types k n name t p))

-- ---- the types that a term has

abbrev one_if : Bool → ℕ
one_if true = 1
one_if false = 0

-- how many of the rows pass
count : (List ℕ → Bool) → List TypeRow → ℕ
count f [] = 0
count f (r ∷ rows) = one_if (f r.name) + count f rows

one_at_most : (b : Bool) → one_if b ≤ 1
one_at_most true = omega arith
one_at_most false = omega arith

one_more : (b c : Bool) → (b ≡ true → c ≡ true) → one_if b ≤ one_if c
one_more true c f = let e : one_if c ≡ 1 = ap one_if (f refl) in omega arith
one_more false c f = omega arith

one_same : (b c : Bool) → one_if c ≤ one_if b → c ≡ true → b ≡ true
one_same true c le p = refl
one_same false c le p = let e : one_if c ≡ 1 = ap one_if p in absurd (omega arith)

count_at_most : (f : List ℕ → Bool) (rows : List TypeRow) → count f rows ≤ length rows
unfolding count
count_at_most f [] = omega arith
count_at_most f (r ∷ rows) =
    let a : one_if (f r.name) ≤ 1 = one_at_most (f r.name) in
    let b : count f rows ≤ length rows = count_at_most f rows in
    omega arith

count_more : (f g : List ℕ → Bool) → ((name : List ℕ) → f name ≡ true → g name ≡ true) → (rows : List TypeRow) → count f rows ≤ count g rows
unfolding count
count_more f g h [] = omega arith
count_more f g h (r ∷ rows) =
    let a : one_if (f r.name) ≤ one_if (g r.name) = one_more (f r.name) (g r.name) (h r.name) in
    let b : count f rows ≤ count g rows = count_more f g h rows in
    omega arith

-- where no more rows pass, none passes that did not
count_same : (f g : List ℕ → Bool) → ((name : List ℕ) → f name ≡ true → g name ≡ true) → (rows : List TypeRow) → count g rows ≤ count f rows
    → (name : List ℕ) → (row_named name rows ≡ None) ⊎ (g name ≡ true → f name ≡ true)
unfolding count
count_same f g h [] le name = inl refl
count_same f g h (r ∷ rows) le name =
    let a : one_if (f r.name) ≤ one_if (g r.name) = one_more (f r.name) (g r.name) (h r.name) in
    let b : count f rows ≤ count g rows = count_more f g h rows in
    named (bytes_eq r.name name) refl (omega arith) (count_same f g h rows (omega arith) name)
  where
    named : (b : Bool) → bytes_eq r.name name ≡ b → one_if (g r.name) ≤ one_if (f r.name) → (row_named name rows ≡ None) ⊎ (g name ≡ true → f name ≡ true) → (cond b (Some r) (row_named name rows) ≡ None) ⊎ (g name ≡ true → f name ≡ true)
    named true e le' rest = inr (subst (λ (m : List ℕ). g m ≡ true → f m ≡ true) ((bytes_eq-Decides r.name name).0 e) (one_same (f r.name) (g r.name) le'))
    named false e le' rest = rest

-- ---- where nothing more is found

module _ (types : List TypeRow) where
  -- at depth n + 1 no more is found of the term than at depth n
  abbrev IsStill : List Cell → ℕ → Type 0
  IsStill t n = (name : List ℕ) → has_within types (suc n) name t ≡ true → has_within types n name t ≡ true

  abbrev IsStillFrom : List Cell → ℕ → Type 0
  IsStillFrom t m = (n : ℕ) → m ≤ n → IsStill t n

  by_language : (test test' : Test) (o : Option Bool) (name : List ℕ) (t : List Cell) → (row_named name types ≡ None) → test_by types test o name t ≡ true → test_by types test' o name t ≡ true
  by_language test test' (Some passed) name t e p = p
  by_language test test' None name t e p =
      let k : has_row test t (row_named name types) ≡ has_row test t None = ap (has_row test t) e in cc

  -- where no more types are counted, nothing more is found
  still_if : (t : List Cell) (n : ℕ) → count (λ name. has_within types (suc (suc n)) name t) types ≤ count (λ name. has_within types (suc n) name t) types → IsStill t (suc n)
  still_if t n le name p =
      still_named (count_same (λ u. has_within types (suc n) u t) (λ u. has_within types (suc (suc n)) u t) (λ u q. within_more types (suc n) u t q) types le name)
    where
      still_named : (row_named name types ≡ None) ⊎ (has_within types (suc (suc n)) name t ≡ true → has_within types (suc n) name t ≡ true) → has_within types (suc n) name t ≡ true
      still_named (inl e) = by_language (has_within types (suc n)) (has_within types n) (without_types name t) name t e p
      still_named (inr f) = f p

  module _ (size : ℕ) (from : ℕ) (shorter : (s : List Cell) → length s < size → IsStillFrom s from) (t : List Cell) (e : length t ≡ size) where
    still_near : (n : ℕ) → from ≤ n → IsStill t n → (name : List ℕ) (s : List Cell) → Near t s → has_within types (suc n) name s ≡ true → has_within types n name s ≡ true
    still_near n le h name s (inl same) p =
        subst (λ (u : List Cell). has_within types (suc n) name u ≡ true → has_within types n name u ≡ true) (sym same) (h name) p
    still_near n le h name s (inr lt) p = shorter s (omega arith) n le name p

    -- what is still stays so
    still_on : (n : ℕ) → from ≤ n → IsStill t n → IsStill t (suc n)
    still_on n le h name p = test_on t (has_within types (suc n)) (has_within types n) (still_near n le h) types (without_types name t) name p

    still_after : (k n : ℕ) → from ≤ n → IsStill t n → IsStill t (k + n)
    still_after zero n le h = let z : 0 + n ≡ n = omega arith in subst (λ (m : ℕ). IsStill t m) (sym z) h
    still_after (suc k) n le h =
        let z : suc k + n ≡ suc (k + n) = omega arith in
        subst (λ (m : ℕ). IsStill t m) (sym z) (still_on (k + n) (omega arith) (still_after k n le h))

    still_from : (n : ℕ) → from ≤ n → IsStill t n → IsStillFrom t n
    still_from n le h m le' =
        let z : (m - n) + n ≡ m = omega arith in
        subst (λ (k : ℕ). IsStill t k) z (still_after (m - n) n le h)

    abbrev found : ℕ → ℕ
    found n = count (λ name. has_within types n name t) types

    -- it is still, or more than k types are found
    counted : (k : ℕ) → IsStillFrom t (suc (from + k)) ⊎ (k < found (suc (suc (from + k))))
    counted zero =
        elim (cases_lt (found (suc (from + 0))) (found (suc (suc (from + 0))))) [
          | inl lt ↦ inr (omega arith)
          | inr le ↦ inl (still_from (suc (from + 0)) (omega arith) (still_if t (from + 0) le))
        ]
    counted (suc k) = next (counted k) (cases_lt (found (suc (from + suc k))) (found (suc (suc (from + suc k)))))
      where
        next : IsStillFrom t (suc (from + k)) ⊎ (k < found (suc (suc (from + k))))
            → (found (suc (from + suc k)) < found (suc (suc (from + suc k)))) ⊎ (found (suc (suc (from + suc k))) ≤ found (suc (from + suc k)))
            → IsStillFrom t (suc (from + suc k)) ⊎ (suc k < found (suc (suc (from + suc k))))
        next (inl still) other = inl (λ n le. still n (omega arith))
        next (inr more) (inl lt) =
            let z : suc (from + k) ≡ from + suc k = omega arith in
            let more' : k < found (suc (from + suc k)) = subst (λ (m : ℕ). k < found (suc m)) z more in
            inr (omega arith)
        next (inr more) (inr le) = inl (still_from (suc (from + suc k)) (omega arith) (still_if t (from + suc k) le))

    settled : IsStillFrom t (suc (from + length types))
    settled =
        elim (counted (length types)) [
          | inl still ↦ still
          | inr more ↦ absurd (let most : found (suc (suc (from + length types))) ≤ length types = count_at_most (λ name. has_within types (suc (suc (from + length types))) name t) types in omega arith)
        ]

  settled_below : (size : ℕ) (t : List Cell) → length t < size → IsStillFrom t (suc (length types) * size)
  settled_below zero t lt = absurd (omega arith)
  settled_below (suc size) t lt =
      elim (cases_lt (length t) size) [
        | inl shorter ↦ (λ n le. settled_below size t shorter n (omega arith))
        | inr same ↦ (λ n le. settled size (suc (length types) * size) (settled_below size) t (omega arith) n (omega arith))
      ]

  still_back : (t : List Cell) (from : ℕ) → IsStillFrom t from → (k : ℕ) (name : List ℕ) → has_within types (k + from) name t ≡ true → has_within types from name t ≡ true
  still_back t from still zero name p = let z : 0 + from ≡ from = omega arith in subst (λ (m : ℕ). has_within types m name t ≡ true) z p
  still_back t from still (suc k) name p =
      let z : suc k + from ≡ suc (k + from) = omega arith in
      still_back t from still k name (still (k + from) (omega arith) name (subst (λ (m : ℕ). has_within types m name t ≡ true) z p))

pub depth_is_enough : DepthIsEnough
depth_is_enough types name t n le =
    let still : IsStillFrom types t (suc (length types) * suc (length t)) = settled_below types (suc (length t)) t (omega arith) in
    let z : (n - suc (length types) * suc (length t)) + suc (length types) * suc (length t) ≡ n = omega arith in
    both_ways (has_within types n name t) (has types name t)
    (λ p. still_back types t (suc (length types) * suc (length t)) still (n - suc (length types) * suc (length t)) name (subst (λ (m : ℕ). has_within types m name t ≡ true) (sym z) p))
    (λ p. subst (λ (m : ℕ). has_within types m name t ≡ true) z (within_most types (n - suc (length types) * suc (length t)) (suc (length types) * suc (length t)) name t p))

-- a part of a term is tested as deep as the term itself
as_deep : (types : List TypeRow) (t s : List Cell) → Near t s → (name : List ℕ) → has_within types (suc (length types) * suc (length t)) name s ≡ has types name s
as_deep types t s near name =
    let short : length s ≤ length t = near_length t s near in
    let le : suc (length s) ≤ suc (length t) = omega arith in
    depth_is_enough types name s (suc (length types) * suc (length t)) (mul-le-mul_left (suc (length types)) le)

pub has_is_its_row : HasIsItsRow
has_is_its_row types name t =
    sym (depth_is_enough types name t (suc (suc (length types) * suc (length t))) (omega arith))
    ∙ both_ways _ _
    (test_on t (has_within types (suc (length types) * suc (length t))) (has types) (λ u s near q. sym (as_deep types t s near u) ∙ q) types (without_types name t) name)
    (test_on t (has types) (has_within types (suc (length types) * suc (length t))) (λ u s near q. as_deep types t s near u ∙ q) types (without_types name t) name)

pub has_is_least : HasIsLeast
has_is_least types test closed name t p = least (suc (length types) * suc (length t)) name t p
  where
    least : (n : ℕ) (name : List ℕ) (t : List Cell) → has_within types n name t ≡ true → test name t ≡ true
    least zero name t p = cc
    least (suc n) name t p = closed name t (test_on t (has_within types n) test (λ u s near q. least n u s q) types (without_types name t) name p)
