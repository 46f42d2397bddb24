-- A list of callers' passes of which the first have lost their last pass, and one of which the last have got one more.
use Rattle.std.proofs.Common.{◌≡◌, ℕ, ◌+◌, ◌<◌, ◌≤◌, List, [], ◌∷◌, ◌++◌, append_assoc, append-nil, length, length-append, take, drop, set, get_or, refl, sym, ◌∙◌, ap, subst, inl, inr, arith}
use Rattle.std.specs.Prelude.{map, slice_index_or}
use Rattle.std.proofs.lemmas.List.{drop_more, get_or_at, set_at, map_more, take_all, drop_all, length-take-le, length-drop, length-map, length_push, get_or-set_same, get_or-set_other, get_or_default, length-set}
use Rattle.std.proofs.lemmas.Bool.Decides.{eqb_tells}
use Rattle.cp_call.specs.declared.call.Entry.{Entry}
use Rattle.cp_turn.specs.Passes.{PassView}
use Rattle.cp_hall.specs.declared.hall.HallRow.{HallRow}
use Rattle.cp_turn_hall.specs.Behind.{HallPassView}
use Rattle.cp_turn_hall.specs.Closing.{without_last}

-- the first i have lost their last pass
abbrev pub half : ℕ → List HallPassView → List HallPassView
half i xs = map without_last (take i xs) ++ drop i xs

half_split : (i : ℕ) (xs : List HallPassView) (d : HallPassView) → i < length xs → half i xs ≡ map without_last (take i xs) ++ (get_or xs i d ∷ drop (i + 1) xs)
half_split i xs d h = ap (λ (l : List HallPassView). map without_last (take i xs) ++ l) (drop_more xs i d h)

front_long : (i : ℕ) (xs : List HallPassView) → i ≤ length xs → length (map without_last (take i xs)) ≡ i
front_long i xs h = length-map (take i xs) without_last ∙ length-take-le i xs h

pub half_long : (i : ℕ) (xs : List HallPassView) → i ≤ length xs → length (half i xs) ≡ length xs
half_long i xs h = omega (arith, length-append (map without_last (take i xs)) (drop i xs), front_long i xs h, length-drop i xs)

pub half_get : (i : ℕ) (xs : List HallPassView) (d : HallPassView) → i < length xs → get_or (half i xs) i d ≡ get_or xs i d
half_get i xs d h = ap (λ (l : List HallPassView). get_or l i d) (half_split i xs d h) ∙ get_or_at (map without_last (take i xs)) (get_or xs i d) (drop (i + 1) xs) d i (front_long i xs (omega arith))

pub half_set : (i : ℕ) (xs : List HallPassView) (d : HallPassView) → i < length xs → set (half i xs) i (without_last (get_or xs i d)) ≡ half (i + 1) xs
half_set i xs d h =
    let x : HallPassView = without_last (get_or xs i d) in
    ap (λ (l : List HallPassView). set l i x) (half_split i xs d h)
    ∙ set_at (map without_last (take i xs)) (get_or xs i d) (drop (i + 1) xs) x i (front_long i xs (omega arith))
    ∙ sym (append_assoc (map without_last (take i xs)) (x ∷ []) (drop (i + 1) xs))
    ∙ ap (λ (l : List HallPassView). l ++ drop (i + 1) xs) (sym (map_more without_last xs i d h))

pub half_all : (i : ℕ) (xs : List HallPassView) → length xs ≤ i → half i xs ≡ map without_last xs
half_all i xs h = ap (λ (l : List HallPassView). map without_last l ++ drop i xs) (take_all i xs h) ∙ ap (λ (l : List HallPassView). map without_last xs ++ l) (drop_all i xs h) ∙ append-nil (map without_last xs)

-- a caller's passes, with a new one behind them
abbrev pub with_new : HallPassView → PassView Entry HallRow → HallPassView
with_new d x = record { number = d.number; places = d.places ++ record { pass = x; looked = 0 } ∷ [] }

-- the callers from the index q on have got their pass
pub record AreHanded (q : ℕ) (passes : List (PassView Entry HallRow)) (olds news : List HallPassView) : Type 0 where
  pub long : length news ≡ length olds
  pub front : (k : ℕ) (d : HallPassView) → k < q → slice_index_or news k d ≡ slice_index_or olds k d
  pub back : (k : ℕ) (d : HallPassView) (e : PassView Entry HallRow) → q ≤ k → k < length passes → slice_index_or news k d ≡ with_new (slice_index_or olds k d) (slice_index_or passes k e)

pub none_handed : (passes : List (PassView Entry HallRow)) (olds : List HallPassView) → AreHanded (length passes) passes olds olds
none_handed passes olds = record { long = refl; front = λ k d h. refl; back = λ k d e h less. absurd (let z : ⊥ = omega arith in z) }

pub one_handed : (passes rest left done : List (PassView Entry HallRow)) (pass : PassView Entry HallRow) (olds news : List HallPassView) (d : HallPassView) → length olds ≡ length passes
    → passes ≡ rest ++ done → rest ≡ left ++ pass ∷ [] → AreHanded (length rest) passes olds news → AreHanded (length left) passes olds (set news (length left) (with_new (get_or news (length left) d) pass))
one_handed passes rest left done pass olds news d lo whole pop a =
    let q : ℕ = length left in
    let n : length rest ≡ q + 1 = ap length pop ∙ length_push left pass in
    let all : passes ≡ left ++ (pass ∷ done) = whole ∙ ap (λ (l : List (PassView Entry HallRow)). l ++ done) pop ∙ append_assoc left (pass ∷ []) done in
    let many : q < length passes = omega (arith, ap length all, length-append left (pass ∷ done)) in
    let within : q < length news = omega (arith, a.long) in
    let new : HallPassView = with_new (get_or news q d) pass in
    record {
      long = length-set news q new ∙ a.long;
      front = λ k e h. get_or-set_other news q k new e (λ z. absurd (omega arith)) ∙ a.front k e (omega arith);
      back = λ k e x h less. elim (eqb_tells k q) [
        | inl i ↦ subst (λ (j : ℕ). get_or (set news q new) j e ≡ with_new (get_or olds j e) (get_or passes j x)) (sym i.1)
            (get_or-set_same news q new e within ∙ ap (λ (o : HallPassView). with_new o pass) (a.front q d (omega arith) ∙ get_or_default olds q d e (omega arith))
            ∙ ap (with_new (get_or olds q e)) (sym (ap (λ (l : List (PassView Entry HallRow)). get_or l q x) all ∙ get_or_at left pass done x q refl)))
        | inr o ↦ get_or-set_other news q k new e o.1 ∙ a.back k e x (omega (arith, o.1)) less
      ];
    }
