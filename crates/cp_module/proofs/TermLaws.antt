-- The body of a rule is one term.
use Rattle.std.proofs.Common.{◌≡◌, ℕ, zero, suc, ◌+◌, ◌-◌, length, take, drop, true, false, List, [], ◌∷◌, refl, sym, ap, ◌∙◌, arith}
use Rattle.std.specs.Prelude.{nat_eq}
use Rattle.std.proofs.lemmas.Bool.{and_parts, false≢true}
use Rattle.std.proofs.lemmas.Bool.Decides.{Decides-eqb}
use Rattle.cp_term.specs.declared.cell.Cell.{Cell}
use Rattle.cp_term.specs.declared.cell.Cell.TheVariants.{Var, Int, Atom, Func}
use Rattle.cp_term.specs.Preorder.{arity_of, has_arity, is_arity, is_terms, terms_after, drop_terms}
use Rattle.cp_code.specs.Bodies.{is}
use Rattle.cp_code.specs.Clauses.{is_neck}

terms_after-is : (c : Cell) (n : ℕ) → terms_after c n ≡ arity_of c + n
terms_after-is (Var v) n = omega arith
terms_after-is (Int i) n = omega arith
terms_after-is (Atom a) n = omega arith
terms_after-is (Func f k) n = omega arith

rest_terms : (cells : List Cell) (k n t : ℕ) → t ≡ k + n → is_terms t cells ≡ true → is_terms n (drop_terms k cells) ≡ true
rest_terms cells zero n t e h = let same : n ≡ t = omega arith in ap (λ i. is_terms i cells) same ∙ h
rest_terms [] (suc k) n t e h =
    let same : suc (k + n) ≡ t = omega arith in
    absurd (false≢true (ap (λ i. is_terms i []) same ∙ h))
rest_terms (c ∷ cells) (suc k) n t e h =
    let same : suc (k + n) ≡ t = omega arith in
    let parts = and_parts (has_arity c) (is_terms (terms_after c (k + n)) cells) (ap (λ i. is_terms i (c ∷ cells)) same ∙ h) in
    rest_terms cells (terms_after c k) n (terms_after c (k + n)) (omega (arith, terms_after-is c k, terms_after-is c (k + n))) parts.1

pub body_is_term : (c : Cell) (cells : List Cell) → is_neck c ≡ true → is_terms 1 (c ∷ cells) ≡ true → is_terms 1 (drop_terms 1 cells) ≡ true
body_is_term (Var v) cells r t = cc
body_is_term (Int i) cells r t = cc
body_is_term (Atom a) cells r t = cc
body_is_term (Func f k) cells r t =
    let two : k ≡ 2 = (Decides-eqb k 2).0 ((and_parts (is f ":-") (nat_eq k 2) r).1) in
    let behind : is_terms (k + 0) cells ≡ true = (and_parts (is_arity k) (is_terms (k + 0) cells) t).1 in
    rest_terms cells 1 1 (k + 0) (omega arith) behind

take_all : {A : Type 0} (xs : List A) (n : ℕ) → n ≡ length xs → take n xs ≡ xs
take_all [] zero e = refl
take_all [] (suc n) e = refl
take_all (x ∷ xs) zero e = absurd (omega arith)
take_all (x ∷ xs) (suc n) e = ap (λ t. x ∷ t) (take_all xs n (omega arith))

-- what stands behind the first item, as a slice
pub behind_first_item : {A : Type 0} (xs : List A) → take (length xs - 1) (drop 1 xs) ≡ drop 1 xs
behind_first_item [] = refl
behind_first_item (x ∷ xs) = let n : length (x ∷ xs) - 1 ≡ length xs = omega arith in take_all xs (length (x ∷ xs) - 1) n

pub nothing_there : {A : Type 0} (xs : List A) → length xs ≡ 0 → xs ≡ []
nothing_there [] e = refl
nothing_there (x ∷ xs) e = absurd (omega arith)
