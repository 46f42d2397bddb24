-- The parts of a clause, as they stand on the heap.
use Rattle.std.proofs.Common.{◌≡◌, ℕ, zero, suc, ◌+◌, ◌<◌, ◌≤◌, Bool, true, false, cond, Some, None, Option, List, [], ◌∷◌, ◌++◌, length, take, drop, get_or, refl, sym, ◌∙◌, ap, append-nil, arith}
use Rattle.std.specs.Option.{option_map}
use Rattle.std.specs.List.{flat_map}
use Rattle.cp_term.specs.declared.cell.Cell.{Cell}
use Rattle.cp_term.specs.declared.cell.Cell.TheVariants.{Var, Int, Atom, Func}
use Rattle.cp_term.specs.Preorder.{terms_after, is_terms, take_terms, drop_terms}
use Rattle.cp_term.specs.Numbering.{renamed, fresh}
use Rattle.cp_term.proofs.lemmas.PreorderLaws.{take_terms-append, drop_terms-append}
use Rattle.cp_heap.specs.State.{AreTerms}
use Rattle.cp_code.specs.Clauses.{is_neck, head_of, body_term}
use Rattle.cp_control.proofs.BodyLaws.{take_first}

-- ---- a rule on the heap

at_get : (terms : List (List Cell)) (i : ℕ) → AreTerms terms → i < length terms → is_terms 1 (get_or terms i []) ≡ true
at_get [] i a lt = absurd (omega arith)
at_get (t ∷ terms) zero a lt = a.0
at_get (t ∷ terms) (suc i) a lt = at_get terms i a.1 (omega arith)

two_terms : (terms : List (List Cell)) (first k : ℕ) → k ≡ 2 → first + k ≤ length terms → flat_map (λ t. t) (take k (drop first terms)) ≡ get_or terms first [] ++ get_or terms (first + 1) []
two_terms terms first k e le =
    ap (λ j. flat_map (λ t. t) (take j (drop first terms))) e
    ∙ ap (flat_map (λ t. t)) (take_first terms first 2 [] (omega arith) (omega arith))
    ∙ ap (λ ts. get_or terms first [] ++ flat_map (λ t. t) ts) (take_first terms (first + 1) 1 [] (omega arith) (omega arith))
    ∙ ap (λ t. get_or terms first [] ++ t) (append-nil (get_or terms (first + 1) []))

pub rule-head : (terms : List (List Cell)) (t : List Cell) (f : List ℕ) (k first : ℕ) → AreTerms terms → t ≡ Func f k ∷ flat_map (λ u. u) (take k (drop first terms)) → first + k ≤ length terms → is_neck (Func f k) ≡ true → k ≡ 2 → get_or terms first [] ≡ head_of t
rule-head terms t f k first a e le neck two =
    sym (ap head_of e
    ∙ ap (λ b. cond b (take_terms 1 (flat_map (λ u. u) (take k (drop first terms)))) (Func f k ∷ flat_map (λ u. u) (take k (drop first terms)))) neck
    ∙ ap (take_terms 1) (two_terms terms first k two le)
    ∙ take_terms-append 1 (get_or terms first []) (get_or terms (first + 1) []) (at_get terms first a (omega arith)))

pub rule-body : (terms : List (List Cell)) (t : List Cell) (f : List ℕ) (k first : ℕ) → AreTerms terms → t ≡ Func f k ∷ flat_map (λ u. u) (take k (drop first terms)) → first + k ≤ length terms → is_neck (Func f k) ≡ true → k ≡ 2 → Some (get_or terms (first + 1) []) ≡ body_term t
rule-body terms t f k first a e le neck two =
    sym (ap body_term e
    ∙ ap (λ b. body_if b (flat_map (λ u. u) (take k (drop first terms)))) neck
    ∙ ap (λ cs. Some (drop_terms 1 cs)) (two_terms terms first k two le)
    ∙ ap Some (drop_terms-append 1 (get_or terms first []) (get_or terms (first + 1) []) (at_get terms first a (omega arith))))
  where
    body_if : Bool → List Cell → Option (List Cell)
    body_if b cs = cond b (Some (drop_terms 1 cs)) None

pub fact-head : (t : List Cell) (c : Cell) (cells : List Cell) → t ≡ c ∷ cells → is_neck c ≡ false → t ≡ head_of t
fact-head t c cells e neck = e ∙ sym (ap head_of e ∙ ap (λ b. cond b (take_terms 1 cells) (c ∷ cells)) neck)

pub fact-body : (t : List Cell) (c : Cell) (cells : List Cell) → t ≡ c ∷ cells → is_neck c ≡ false → None ≡ body_term t
fact-body t c cells e neck = sym (ap body_term e ∙ ap (body_if cells) neck)
  where
    body_if : List Cell → Bool → Option (List Cell)
    body_if cs b = cond b (Some (drop_terms 1 cs)) None

-- ---- new variables

terms-after-new : (n : ℕ) (c : Cell) (k : ℕ) → terms_after (renamed (λ v. v + n) c) k ≡ terms_after c k
terms-after-new n (Var v) k = refl
terms-after-new n (Int i) k = refl
terms-after-new n (Atom a) k = refl
terms-after-new n (Func f j) k = refl

take-new : (n k : ℕ) (cells : List Cell) → take_terms k (fresh n cells) ≡ fresh n (take_terms k cells)
take-new n zero cells = refl
take-new n (suc k) [] = refl
take-new n (suc k) (c ∷ cells) =
    ap (λ j. renamed (λ v. v + n) c ∷ take_terms j (fresh n cells)) (terms-after-new n c k)
    ∙ ap (λ t. renamed (λ v. v + n) c ∷ t) (take-new n (terms_after c k) cells)

drop-new : (n k : ℕ) (cells : List Cell) → drop_terms k (fresh n cells) ≡ fresh n (drop_terms k cells)
drop-new n zero cells = refl
drop-new n (suc k) [] = refl
drop-new n (suc k) (c ∷ cells) =
    ap (λ j. drop_terms j (fresh n cells)) (terms-after-new n c k) ∙ drop-new n (terms_after c k) cells

neck-new : (n : ℕ) (c : Cell) → is_neck (renamed (λ v. v + n) c) ≡ is_neck c
neck-new n (Var v) = refl
neck-new n (Int i) = refl
neck-new n (Atom a) = refl
neck-new n (Func f k) = refl

pub head-new : (n : ℕ) (t : List Cell) → head_of (fresh n t) ≡ fresh n (head_of t)
head-new n [] = refl
head-new n (c ∷ cells) =
    ap (λ b. cond b (take_terms 1 (fresh n cells)) (renamed (λ v. v + n) c ∷ fresh n cells)) (neck-new n c)
    ∙ ap (λ t. cond (is_neck c) t (renamed (λ v. v + n) c ∷ fresh n cells)) (take-new n 1 cells)
    ∙ by (is_neck c)
  where
    by : (b : Bool) → cond b (fresh n (take_terms 1 cells)) (renamed (λ v. v + n) c ∷ fresh n cells) ≡ fresh n (cond b (take_terms 1 cells) (c ∷ cells))
    by true = refl
    by false = refl

pub body-new : (n : ℕ) (t : List Cell) → body_term (fresh n t) ≡ option_map (fresh n) (body_term t)
body-new n [] = refl
body-new n (c ∷ cells) =
    ap (λ b. body_if b (drop_terms 1 (fresh n cells))) (neck-new n c)
    ∙ ap (body_if (is_neck c)) (drop-new n 1 cells)
    ∙ by (is_neck c)
  where
    body_if : Bool → List Cell → Option (List Cell)
    body_if b t = cond b (Some t) None

    by : (b : Bool) → cond b (Some (fresh n (drop_terms 1 cells))) None ≡ option_map (fresh n) (cond b (Some (drop_terms 1 cells)) None)
    by true = refl
    by false = refl
