-- Folds over terms: there is one result for each term, and terms behind others change nothing of theirs.
use Rattle.std.proofs.Common.{◌≡◌, ℕ, zero, suc, ◌+◌, ◌-◌, ◌≤◌, true, List, [], ◌∷◌, ◌++◌, length, take, drop, refl, ◌∙◌, ap, arith, length-drop}
use Rattle.std.proofs.lemmas.Bool.{and_parts, false≢true}
use Rattle.std.proofs.lemmas.List.{take-append-le, drop-append-le}
use Rattle.cp_term.specs.declared.cell.Cell.{Cell}
use Rattle.cp_term.specs.Preorder.{arity_of, has_arity, terms_after, is_terms}
use Rattle.cp_term.proofs.lemmas.PreorderLaws.{terms_after-arity}
use Rattle.cp_goal.specs.Folds.{of_terms}

module _ {X : Type 0} (f : Cell → List X → X) where
  pub length-of_terms : (n : ℕ) (cells : List Cell) → is_terms n cells ≡ true → length (of_terms f cells) ≡ n
  length-of_terms zero [] h = refl
  length-of_terms zero (c ∷ cells) h = absurd (false≢true h)
  length-of_terms (suc n) [] h = absurd (false≢true h)
  length-of_terms (suc n) (c ∷ cells) h =
      let parts = and_parts (has_arity c) (is_terms (terms_after c n) cells) h in
      let all : length (of_terms f cells) ≡ n + arity_of c = length-of_terms (terms_after c n) cells parts.1 ∙ terms_after-arity c n in
      let rest : length (drop (arity_of c) (of_terms f cells)) ≡ length (of_terms f cells) - arity_of c = length-drop (arity_of c) (of_terms f cells) in
      omega arith

  -- a cell's arguments are there
  pub arguments_there : (c : Cell) (n : ℕ) (cells : List Cell) → is_terms (terms_after c n) cells ≡ true → arity_of c ≤ length (of_terms f cells)
  arguments_there c n cells h =
      let all : length (of_terms f cells) ≡ n + arity_of c = length-of_terms (terms_after c n) cells h ∙ terms_after-arity c n in
      omega arith

  pub of_terms-append : (n : ℕ) (a b : List Cell) → is_terms n a ≡ true → of_terms f (a ++ b) ≡ of_terms f a ++ of_terms f b
  of_terms-append zero [] b h = refl
  of_terms-append zero (c ∷ a) b h = absurd (false≢true h)
  of_terms-append (suc n) [] b h = absurd (false≢true h)
  of_terms-append (suc n) (c ∷ a) b h =
      let parts = and_parts (has_arity c) (is_terms (terms_after c n) a) h in
      let there = arguments_there c n a parts.1 in
      ap (λ ts. f c (take (arity_of c) ts) ∷ drop (arity_of c) ts) (of_terms-append (terms_after c n) a b parts.1)
      ∙ ap (λ ts. f c ts ∷ drop (arity_of c) (of_terms f a ++ of_terms f b)) (take-append-le (arity_of c) (of_terms f a) (of_terms f b) there)
      ∙ ap (λ ts. f c (take (arity_of c) (of_terms f a)) ∷ ts) (drop-append-le (arity_of c) (of_terms f a) (of_terms f b) there)
