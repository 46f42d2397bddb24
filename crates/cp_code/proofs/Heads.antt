-- The first argument of a clause's head among the cells of the clause.
use Rattle.std.proofs.Common.{◌≡◌, refl, sym, ap, ◌∙◌, ℕ, zero, suc, ◌+◌, true, cond, List, [], ◌∷◌, add-zero, arith}
use Rattle.std.specs.Prelude.{drop, nat_eq}
use Rattle.std.proofs.lemmas.Bool.{and_parts}
use Rattle.std.proofs.lemmas.Bool.Decides.{Decides-eqb}
use Rattle.cp_term.specs.declared.cell.Cell.{Cell}
use Rattle.cp_term.specs.declared.cell.Cell.TheVariants.{Var, Int, Atom, Func}
use Rattle.cp_term.specs.Preorder.{is_arity, is_terms, take_terms}
use Rattle.cp_code.specs.Bodies.{is}
use Rattle.cp_code.specs.Clauses.{is_neck, is_rule, head_of, first_argument}

-- the first argument of the first of some terms
first_of_terms : (n : ℕ) (cells : List Cell) → is_terms (suc n) cells ≡ true → first_argument cells ≡ first_argument (take_terms 1 cells)
first_of_terms n [] h = refl
first_of_terms n (Var v ∷ cells) h = refl
first_of_terms n (Int i ∷ cells) h = refl
first_of_terms n (Atom a ∷ cells) h = refl
first_of_terms n (Func f zero ∷ cells) h = cc
first_of_terms n (Func f (suc k) ∷ []) h = rw (add-zero (suc k))
first_of_terms n (Func f (suc k) ∷ d ∷ cells) h = rw (add-zero (suc k))

of_rule : (c : Cell) (cells : List Cell) → is_neck c ≡ true → is_terms 1 (c ∷ cells) ≡ true → first_argument cells ≡ first_argument (take_terms 1 cells)
of_rule (Var v) cells r t = cc
of_rule (Int i) cells r t = cc
of_rule (Atom a) cells r t = cc
of_rule (Func f k) cells r t =
    let two : k ≡ 2 = (Decides-eqb k 2).0 ((and_parts (is f ":-") (nat_eq k 2) r).1) in
    let behind : is_terms (k + 0) cells ≡ true = (and_parts (is_arity k) (is_terms (k + 0) cells) t).1 in
    let e : k + 0 ≡ 2 = omega arith in
    first_of_terms 1 cells (sym (ap (λ n. is_terms n cells) e) ∙ behind)

pub head_argument : (cells : List Cell) → is_rule cells ≡ true → is_terms 1 cells ≡ true → first_argument (drop 1 cells) ≡ first_argument (head_of cells)
head_argument [] r t = cc
head_argument (c ∷ cells) r t = of_rule c cells r t ∙ ap (λ b. first_argument (cond b (take_terms 1 cells) (c ∷ cells))) (sym r)
