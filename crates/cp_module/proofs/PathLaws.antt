-- Paths, byte by byte.
use Rattle.std.proofs.Common.{◌≡◌, inl, inr, ℕ, ◌+◌, ◌-◌, ◌<◌, ◌≤◌, refl, sym, ap, ◌∙◌, Bool, true, false, cond, List, [], ◌∷◌, ◌++◌, length, take, drop, get_or, arith}
use Rattle.std.specs.Prelude.{nat_eq}
use Rattle.std.proofs.lemmas.List.{drop_more, take_more, get_or-drop, length-drop}
use Rattle.std.proofs.lemmas.Bool.Decides.{eqb_tells}
use Rattle.cp_module.specs.Paths.{slash, last_part, file_part, has_ending, base_of}

pub at_slash : (path seen : List ℕ) (at : ℕ) → at < length path → get_or path at 0 ≡ 47 → last_part seen (drop at path) ≡ last_part [] (drop (at + 1) path)
at_slash path seen at lt e =
    let rest = drop (at + 1) path in
    ap (last_part seen) (drop_more path at 0 lt) ∙ ap (λ b. cond (nat_eq b slash) (last_part [] rest) (last_part (seen ++ b ∷ []) rest)) e

pub at_other : (path seen : List ℕ) (at : ℕ) → at < length path → (get_or path at 0 ≡ 47 → ⊥) → last_part seen (drop at path) ≡ last_part (seen ++ get_or path at 0 ∷ []) (drop (at + 1) path)
at_other path seen at lt ne =
    let rest = drop (at + 1) path in
    let b = get_or path at 0 in
    ap (last_part seen) (drop_more path at 0 lt)
    ∙ elim (eqb_tells b 47) [ inl same ↦ absurd (ne same.1) | inr other ↦ ap (λ t. cond t (last_part [] rest) (last_part (seen ++ b ∷ []) rest)) other.0 ]

pub base_then : (path file : List ℕ) (n : ℕ) → file ≡ file_part path → has_ending file ≡ true → n ≡ length file - 3 → take n file ≡ base_of path
unfolding base_of
base_then path file n e h k =
    ap (λ i. take i file) k ∙ ap (λ f. take (length f - 3) f) e
    ∙ ap (λ b. cond b (take (length (file_part path) - 3) (file_part path)) (file_part path)) (sym (ap has_ending (sym e) ∙ h))

pub base_else : (path file : List ℕ) → file ≡ file_part path → has_ending file ≡ false → file ≡ base_of path
unfolding base_of
base_else path file e h =
    e ∙ ap (λ b. cond b (take (length (file_part path) - 3) (file_part path)) (file_part path)) (sym (ap has_ending (sym e) ∙ h))

pub slash_more : (path seen : List ℕ) (start at : ℕ) → at < length path → get_or path at 0 ≡ 47 → start ≡ at + 1
    → last_part (take (at + 1 - start) (drop start path)) (drop (at + 1) path) ≡ last_part seen (drop at path)
slash_more path seen start at lt e s =
    let none : at + 1 - start ≡ 0 = omega arith in
    ap (λ n. last_part (take n (drop start path)) (drop (at + 1) path)) none ∙ sym (at_slash path seen at lt e)

pub other_more : (path : List ℕ) (start at : ℕ) → start ≤ at → at < length path → (get_or path at 0 ≡ 47 → ⊥)
    → last_part (take (at + 1 - start) (drop start path)) (drop (at + 1) path) ≡ last_part (take (at - start) (drop start path)) (drop at path)
other_more path start at le lt ne =
    let n : at + 1 - start ≡ (at - start) + 1 = omega arith in
    let i : start + (at - start) ≡ at = omega arith in
    let short : at - start < length (drop start path) = omega (arith, length-drop start path) in
    let here : get_or (drop start path) (at - start) 0 ≡ get_or path at 0 = get_or-drop start path (at - start) 0 ∙ ap (λ k. get_or path k 0) i in
    ap (λ k. last_part (take k (drop start path)) (drop (at + 1) path)) n
    ∙ ap (λ xs. last_part xs (drop (at + 1) path)) (take_more (drop start path) (at - start) 0 short)
    ∙ ap (λ b. last_part (take (at - start) (drop start path) ++ b ∷ []) (drop (at + 1) path)) here
    ∙ sym (at_other path (take (at - start) (drop start path)) at lt ne)
