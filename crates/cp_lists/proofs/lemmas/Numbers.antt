-- Numbers that are not counted above what 64 bits hold.
use Rattle.std.proofs.Common.{◌≡◌, ℕ, zero, suc, ◌+◌, ◌-◌, ◌*◌, ◌^◌, ◌<◌, ◌≤◌, ◌⊎◌, inl, inr, min, Bool, true, false, List, [], ◌∷◌, map, length, drop, drop-cons, get_or, add-one, refl, sym, ◌∙◌, ap, arith}
use Rattle.std.proofs.lemmas.Bool.{cases_order, le-ltb}
use Rattle.std.proofs.lemmas.List.{drop_all}
use Rattle.std.specs.Prelude.{Option, Some, None, if◌then◌else◌, ◌&&◌, pos, negsuc, neg_ℤ, nat_lt}
use Rattle.std.specs.List.{list_all}
use Rattle.std.specs.Option.{option_map}
use Rattle.std.specs.Char.{is_ascii_digit}
use Rattle.std.specs.Int.Digits.{number_from_digits_after}
use Rattle.cp_goal.specs.Lists.{digits_value, natural_of, signed, if_fits}
use Rattle.cp_lists.specs.Digits.{capped}

along : (m a b d : ℕ) → min a m ≡ min b m → min (a * 10 + d) m ≡ min (b * 10 + d) m
along m a b d h = omega arith

-- what digits add to numbers that are counted alike is counted alike
pub after-capped : (a b : ℕ) (ds : List ℕ) → capped a ≡ capped b → capped (number_from_digits_after 10 a ds) ≡ capped (number_from_digits_after 10 b ds)
after-capped a b [] h = h
after-capped a b (d ∷ ds) h = after-capped (a * 10 + d) (b * 10 + d) ds (along (2 ^ 64 - 1) a b d h)

at_most : (m a : ℕ) → min (min a m) m ≡ min a m
at_most m a = omega arith

pub capped-capped : (a : ℕ) → capped (capped a) ≡ capped a
capped-capped a = at_most (2 ^ 64 - 1) a

order : (a m : ℕ) → (a ≤ m) ⊎ (m < a)
order a m = elim (cases_order a m) [ inl e ↦ inl (omega arith) | inr h ↦ elim h [ inl l ↦ inl (omega arith) | inr l ↦ inr l ] ]

same_below : (m a : ℕ) → a ≤ m → min a m ≡ a
same_below m a h = omega arith

most_above : (m a : ℕ) → m < a → min a m ≡ m
most_above m a h = omega arith

not_below : (a : ℕ) → 2 ^ 64 - 1 < a → nat_lt a (2 ^ 63) ≡ false
not_below a h = le-ltb a (2 ^ 63) (omega arith)

neg_above : (a : ℕ) → 2 ^ 64 - 1 < a → if_fits (neg_ℤ (pos a)) ≡ None
neg_above zero h = absurd (omega arith)
neg_above (suc n) h = ap (λ t. if t then Some (negsuc n) else None) (le-ltb n (2 ^ 63) (omega arith))

-- a number that is counted as another one does not fit where that does not
pub fits-capped : (a : ℕ) → if_fits (pos (capped a)) ≡ if_fits (pos a)
fits-capped a =
    elim (order a (2 ^ 64 - 1)) [
      | inl h ↦ ap (λ n. if_fits (pos n)) (same_below (2 ^ 64 - 1) a h)
      | inr h ↦ ap (λ n. if_fits (pos n)) (most_above (2 ^ 64 - 1) a h) ∙ sym (ap (λ t. if t then Some (pos a) else None) (not_below a h))
    ]

pub neg-capped : (a : ℕ) → if_fits (neg_ℤ (pos (capped a))) ≡ if_fits (neg_ℤ (pos a))
neg-capped a =
    elim (order a (2 ^ 64 - 1)) [
      | inl h ↦ ap (λ n. if_fits (neg_ℤ (pos n))) (same_below (2 ^ 64 - 1) a h)
      | inr h ↦ ap (λ n. if_fits (neg_ℤ (pos n))) (most_above (2 ^ 64 - 1) a h) ∙ sym (neg_above a h)
    ]

-- the same of what may be no number
pub signed-capped : (o : Option ℕ) → signed pos (option_map capped o) ≡ signed pos o
signed-capped None = refl
signed-capped (Some a) = fits-capped a

pub negated-capped : (o : Option ℕ) → signed (λ n. neg_ℤ (pos n)) (option_map capped o) ≡ signed (λ n. neg_ℤ (pos n)) o
negated-capped None = refl
negated-capped (Some a) = neg-capped a

-- ---- one digit after another

module _ (ds : List ℕ) (i d : ℕ) (within : i < length ds) (read : d ≡ get_or ds i d) where
  at_place : drop i ds ≡ d ∷ drop (i + 1) ds
  at_place = drop-cons ds i d within ∙ ap (λ k. get_or ds i d ∷ drop k ds) (sym (add-one i)) ∙ ap (λ e. e ∷ drop (i + 1) ds) (sym read)

  pub all_next : (all : Bool) → all ≡ list_all is_ascii_digit (drop i ds) → is_ascii_digit d ≡ true → all ≡ list_all is_ascii_digit (drop (i + 1) ds)
  all_next all e digit = e ∙ ap (list_all is_ascii_digit) at_place ∙ ap (λ t. t && list_all is_ascii_digit (drop (i + 1) ds)) digit

  pub value_next : (all value next : ℕ)
      → capped all ≡ capped (number_from_digits_after 10 value (map (λ d. d - 48) (drop i ds)))
      → next ≡ capped (value * 10 + (d - 48))
      → capped all ≡ capped (number_from_digits_after 10 next (map (λ d. d - 48) (drop (i + 1) ds)))
  value_next all value next e is =
      e ∙ ap (λ rest. capped (number_from_digits_after 10 value (map (λ d. d - 48) rest))) at_place
      ∙ after-capped (value * 10 + (d - 48)) next (map (λ d. d - 48) (drop (i + 1) ds))
      (sym (ap capped is ∙ capped-capped (value * 10 + (d - 48))))

  pub not_all : (all : Bool) → all ≡ list_all is_ascii_digit (drop i ds) → is_ascii_digit d ≡ false → all ≡ false
  not_all all e digit = e ∙ ap (list_all is_ascii_digit) at_place ∙ ap (λ t. t && list_all is_ascii_digit (drop (i + 1) ds)) digit

pub natural_none : (ds : List ℕ) → list_all is_ascii_digit ds ≡ false → natural_of ds ≡ None
natural_none [] h = refl
natural_none (d ∷ ds) h = ap (λ t. if t then Some (digits_value (d ∷ ds)) else None) h

pub natural_some : (ds : List ℕ) (i value : ℕ) → 0 < length ds → length ds ≤ i → list_all is_ascii_digit ds ≡ list_all is_ascii_digit (drop i ds)
    → capped (digits_value ds) ≡ capped (number_from_digits_after 10 value (map (λ d. d - 48) (drop i ds))) → capped value ≡ value
    → Some value ≡ option_map capped (natural_of ds)
natural_some [] i value some past all is counted = absurd (omega arith)
natural_some (d ∷ ds) i value some past all is counted =
    let none = drop_all i (d ∷ ds) past in
    let passes : list_all is_ascii_digit (d ∷ ds) ≡ true = all ∙ ap (list_all is_ascii_digit) none in
    let same : value ≡ capped (digits_value (d ∷ ds)) =
    sym (is ∙ ap (λ rest. capped (number_from_digits_after 10 value (map (λ d. d - 48) rest))) none ∙ counted) in
    ap (λ n. Some n) same ∙ sym (ap (λ t. option_map capped (if t then Some (digits_value (d ∷ ds)) else None)) passes)
