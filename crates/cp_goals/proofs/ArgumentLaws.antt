-- The arguments of a goal.
use Rattle.std.proofs.Common.{◌≡◌, ℕ, zero, suc, ◌+◌, List, [], ◌∷◌, length, refl, sym, ◌∙◌, ap, arith}
use Rattle.std.specs.Prelude.{Option, Some, None, slice_get, unwrap_or}
use Rattle.cp_term.specs.declared.cell.Cell.{Cell}
use Rattle.cp_term.specs.declared.cell.Cell.TheVariants.{Var, Int, Atom, Func}
use Rattle.cp_term.specs.Preorder.{drop_terms, split_terms, arguments}
use Rattle.cp_code.specs.Requests.{functor_of}
use Rattle.cp_code.specs.Tree.{first_of}

-- ---- arguments of which there are so many

pub one-is : (ts : List (List Cell)) → length ts ≡ 1 → first_of ts ∷ [] ≡ ts
one-is [] n = absurd (omega arith)
one-is (t ∷ []) n = refl
one-is (t ∷ u ∷ ts) n = absurd (omega arith)

pub four-are : (ts : List (List Cell)) (a b c d : List Cell) → length ts ≡ 4 → slice_get ts 0 ≡ Some a → slice_get ts 1 ≡ Some b → slice_get ts 2 ≡ Some c → slice_get ts 3 ≡ Some d → a ∷ b ∷ c ∷ d ∷ [] ≡ ts
four-are [] a b c d n e0 e1 e2 e3 = absurd (omega arith)
four-are (w ∷ []) a b c d n e0 e1 e2 e3 = absurd (omega arith)
four-are (w ∷ x ∷ []) a b c d n e0 e1 e2 e3 = absurd (omega arith)
four-are (w ∷ x ∷ y ∷ []) a b c d n e0 e1 e2 e3 = absurd (omega arith)
four-are (w ∷ x ∷ y ∷ z ∷ []) a b c d n e0 e1 e2 e3 =
    λ i. value e0 i ∷ value e1 i ∷ value e2 i ∷ value e3 i ∷ []
  where
    value : {o : Option (List Cell)} {t : List Cell} → o ≡ Some t → t ≡ unwrap_or o []
    value e = sym (ap (λ o. unwrap_or o []) e)
four-are (w ∷ x ∷ y ∷ z ∷ v ∷ ts) a b c d n e0 e1 e2 e3 = absurd (omega arith)

abbrev arity_in : Option (List ℕ × ℕ) → ℕ
arity_in None = 0
arity_in (Some f) = f.1

length-split : (n : ℕ) (cells : List Cell) → length (split_terms n cells) ≡ n
length-split zero cells = refl
length-split (suc n) cells = ap suc (length-split n (drop_terms 1 cells))

pub count-of : (g : List Cell) (f : List ℕ) (k : ℕ) → functor_of g ≡ Some (f, k) → length (arguments g) ≡ k
count-of [] f k e = ap arity_in e
count-of (Var v ∷ cells) f k e = ap arity_in e
count-of (Int i ∷ cells) f k e = ap arity_in e
count-of (Atom a ∷ cells) f k e = ap arity_in e
count-of (Func g n ∷ cells) f k e = length-split (n + 0) cells ∙ omega arith ∙ ap arity_in e
