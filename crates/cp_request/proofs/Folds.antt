-- Folds over terms: there is one result for each term, and terms behind others change nothing of theirs.
use Rattle.std.proofs.Common.{◌≡◌, ℕ, zero, suc, ◌+◌, ◌-◌, ◌≤◌, true, List, [], ◌∷◌, ◌++◌, length, take, drop, slice_index_or, refl, ◌∙◌, sym, ap, arith, length-drop, append-nil, append_assoc}
use Rattle.std.specs.List.{flat_map}
use Rattle.std.proofs.lemmas.Bool.{and_parts, false≢true}
use Rattle.std.proofs.lemmas.List.{take-append-le, drop-append-le, length-take-le}
use Rattle.cp_term.specs.declared.cell.Cell.{Cell}
use Rattle.cp_term.specs.declared.cell.Cell.TheVariants.{Func}
use Rattle.cp_term.specs.Preorder.{arity_of, has_arity, terms_after, is_terms}
use Rattle.cp_goal.specs.Folds.{of_terms}
use Rattle.cp_request.proofs.Terms.{terms_after-is}

one_of : {A : Type 0} (xs : List A) (d : A) → length xs ≡ 1 → xs ≡ slice_index_or xs 0 d ∷ []
one_of [] d e = absurd (omega arith)
one_of (x ∷ []) d e = refl
one_of (x ∷ y ∷ xs) d e = absurd (omega arith)

take-drop-joined : {A B : Type 0} (f : A → List B) (k : ℕ) (xs : List A) → flat_map f (take k xs) ++ flat_map f (drop k xs) ≡ flat_map f xs
take-drop-joined f zero xs = refl
take-drop-joined f (suc k) [] = refl
take-drop-joined f (suc k) (x ∷ xs) = append_assoc (f x) (flat_map f (take k xs)) (flat_map f (drop k xs)) ∙ ap (λ t. f x ++ t) (take-drop-joined f k xs)

module _ {X : Type 0} (f : Cell → List X → X) where
  length-of_terms : (n : ℕ) (cells : List Cell) → is_terms n cells ≡ true → length (of_terms f cells) ≡ n
  length-of_terms zero [] h = refl
  length-of_terms zero (c ∷ cells) h = absurd (false≢true h)
  length-of_terms (suc n) [] h = absurd (false≢true h)
  length-of_terms (suc n) (c ∷ cells) h =
      let parts = and_parts (has_arity c) (is_terms (terms_after c n) cells) h in
      let all : length (of_terms f cells) ≡ n + arity_of c = length-of_terms (terms_after c n) cells parts.1 ∙ terms_after-is c n in
      let rest : length (drop (arity_of c) (of_terms f cells)) ≡ length (of_terms f cells) - arity_of c = length-drop (arity_of c) (of_terms f cells) in
      omega arith

  of_terms-append : (n : ℕ) (a b : List Cell) → is_terms n a ≡ true → of_terms f (a ++ b) ≡ of_terms f a ++ of_terms f b
  of_terms-append zero [] b h = refl
  of_terms-append zero (c ∷ a) b h = absurd (false≢true h)
  of_terms-append (suc n) [] b h = absurd (false≢true h)
  of_terms-append (suc n) (c ∷ a) b h =
      let parts = and_parts (has_arity c) (is_terms (terms_after c n) a) h in
      let there : arity_of c ≤ length (of_terms f a) = omega (arith, length-of_terms (terms_after c n) a parts.1, terms_after-is c n) in
      ap (λ ts. f c (take (arity_of c) ts) ∷ drop (arity_of c) ts) (of_terms-append (terms_after c n) a b parts.1)
      ∙ ap (λ ts. f c ts ∷ drop (arity_of c) (of_terms f a ++ of_terms f b)) (take-append-le (arity_of c) (of_terms f a) (of_terms f b) there)
      ∙ ap (λ ts. f c (take (arity_of c) (of_terms f a)) ∷ ts) (drop-append-le (arity_of c) (of_terms f a) (of_terms f b) there)

  -- one term gives one
  pub of_one : (d : X) (cells : List Cell) → is_terms 1 cells ≡ true → of_terms f cells ≡ slice_index_or (of_terms f cells) 0 d ∷ []
  of_one d cells h = one_of (of_terms f cells) d (length-of_terms 1 cells h)

  pub of_two : (d : X) (a b : List Cell) → is_terms 1 a ≡ true → is_terms 1 b ≡ true → of_terms f (a ++ b) ≡ slice_index_or (of_terms f a) 0 d ∷ slice_index_or (of_terms f b) 0 d ∷ []
  of_two d a b ha hb =
      of_terms-append 1 a b ha
      ∙ ap (λ xs. xs ++ of_terms f b) (of_one d a ha)
      ∙ ap (λ xs. slice_index_or (of_terms f a) 0 d ∷ xs) (of_one d b hb)

  -- what the arguments of a compound give
  pub length-arguments : (g : List ℕ) (k : ℕ) (rest : List Cell) → is_terms 1 (Func g k ∷ rest) ≡ true → length (take k (of_terms f rest)) ≡ k
  length-arguments g k rest h =
      let parts = and_parts (has_arity (Func g k)) (is_terms (k + 0) rest) h in
      let all : length (of_terms f rest) ≡ k + 0 = length-of_terms (k + 0) rest parts.1 in
      length-take-le k (of_terms f rest) (omega arith)

  -- where each keeps the cells of its term, the cells are kept
  pub cells_kept : (cells_in : X → List Cell) → ((c : Cell) (parts : List X) → cells_in (f c parts) ≡ c ∷ flat_map cells_in parts) → (cells : List Cell) → flat_map cells_in (of_terms f cells) ≡ cells
  cells_kept cells_in keeps [] = refl
  cells_kept cells_in keeps (c ∷ cells) =
      ap (λ t. t ++ flat_map cells_in (drop (arity_of c) (of_terms f cells))) (keeps c (take (arity_of c) (of_terms f cells)))
      ∙ ap (λ t. c ∷ t) (take-drop-joined cells_in (arity_of c) (of_terms f cells) ∙ cells_kept cells_in keeps cells)

  pub cells_of_one : (cells_in : X → List Cell) → ((c : Cell) (parts : List X) → cells_in (f c parts) ≡ c ∷ flat_map cells_in parts) → (d : X) (cells : List Cell) → is_terms 1 cells ≡ true → cells_in (slice_index_or (of_terms f cells) 0 d) ≡ cells
  cells_of_one cells_in keeps d cells h =
      sym (append-nil (cells_in (slice_index_or (of_terms f cells) 0 d)))
      ∙ ap (flat_map cells_in) (sym (of_one d cells h))
      ∙ cells_kept cells_in keeps cells
