-- Terms that stand one behind another.
use Rattle.std.proofs.Common.{◌≡◌, ℕ, zero, suc, ◌+◌, true, ◌&&◌, List, [], ◌∷◌, ◌++◌, slice_get, refl, sym, ◌∙◌, ap, subst, arith}
use Rattle.std.specs.Prelude.{Some, unwrap_or}
use Rattle.std.proofs.lemmas.Bool.{and_parts, false≢true}
use Rattle.cp_term.specs.declared.cell.Cell.{Cell}
use Rattle.cp_term.specs.declared.cell.Cell.TheVariants.{Var, Int, Atom, Func}
use Rattle.cp_term.specs.Preorder.{arity_of, has_arity, terms_after, is_terms, take_terms, drop_terms, arguments}
use Rattle.cp_heap.specs.declared.reference.Ref.{Ref}
use Rattle.cp_heap.specs.State.{State, instance_at}
use Rattle.cp_goal.specs.Builtins.{is_atom}
use Rattle.cp_request.specs.Shapes.{IsPlace, HasNoArguments, IsUnary, IsPair}

pub terms_after-is : (c : Cell) (n : ℕ) → terms_after c n ≡ n + arity_of c
terms_after-is (Var v) n = omega arith
terms_after-is (Int i) n = omega arith
terms_after-is (Atom a) n = omega arith
terms_after-is (Func f k) n = omega arith

after-suc : (c : Cell) (n : ℕ) → terms_after c (suc n) ≡ suc (terms_after c n)
after-suc c n = omega (arith, terms_after-is c n, terms_after-is c (suc n))

-- the first m of m and n terms
taken-and-left : (m n : ℕ) (cells : List Cell) → is_terms (m + n) cells ≡ true → (take_terms m cells ++ drop_terms m cells ≡ cells) × (is_terms m (take_terms m cells) ≡ true) × (is_terms n (drop_terms m cells) ≡ true)
taken-and-left zero n cells h = (refl, refl, subst (λ k. is_terms k cells ≡ true) (let e : 0 + n ≡ n = omega arith in e) h)
taken-and-left (suc m) n [] h = absurd (false≢true (subst (λ k. is_terms k [] ≡ true) (let e : suc m + n ≡ suc (m + n) = omega arith in e) h))
taken-and-left (suc m) n (c ∷ cells) h =
    let e : suc m + n ≡ suc (m + n) = omega arith in
    let at_suc : is_terms (suc (m + n)) (c ∷ cells) ≡ true = subst (λ k. is_terms k (c ∷ cells) ≡ true) e h in
    let parts = and_parts (has_arity c) (is_terms (terms_after c (m + n)) cells) at_suc in
    let after : terms_after c (m + n) ≡ terms_after c m + n = omega (arith, terms_after-is c (m + n), terms_after-is c m) in
    let rest = taken-and-left (terms_after c m) n cells (subst (λ k. is_terms k cells ≡ true) after parts.1) in (
      ap (λ xs. c ∷ xs) rest.0,
      ap (λ t. t && is_terms (terms_after c m) (take_terms (terms_after c m) cells)) parts.0 ∙ rest.1,
      rest.2,
    )

take-whole : (n : ℕ) (cells : List Cell) → is_terms n cells ≡ true → take_terms n cells ≡ cells
take-whole zero [] h = refl
take-whole zero (c ∷ cells) h = absurd (false≢true h)
take-whole (suc n) [] h = absurd (false≢true h)
take-whole (suc n) (c ∷ cells) h = ap (λ xs. c ∷ xs) (take-whole (terms_after c n) cells (and_parts (has_arity c) (is_terms (terms_after c n) cells) h).1)

-- terms of one cell
pub atom_alone : (cells : List Cell) → is_terms 1 cells ≡ true → is_atom cells ≡ true → (a : List ℕ) × (cells ≡ Atom a ∷ [])
atom_alone [] h i = absurd (false≢true h)
atom_alone (Var v ∷ cells) h i = absurd (false≢true i)
atom_alone (Int z ∷ cells) h i = absurd (false≢true i)
atom_alone (Atom a ∷ []) h i = (a, refl)
atom_alone (Atom a ∷ c ∷ cells) h i = absurd (false≢true h)
atom_alone (Func f k ∷ cells) h i = absurd (false≢true i)

some_is : (a b : List Cell) → Some a ≡ Some b → a ≡ b
some_is a b e = ap (λ o. unwrap_or o []) e

-- ---- arguments

pub unary_is : (h : State) (at a : Ref) (f : List ℕ) (rest : List Cell) → instance_at h at.at ≡ Func f 1 ∷ rest → is_terms 1 (instance_at h at.at) ≡ true → IsPlace h a → slice_get (arguments (instance_at h at.at)) 0 ≡ Some (instance_at h a.at) → IsUnary h at a
unary_is h at a f rest e term place first =
    let inner : is_terms 1 rest ≡ true = subst (λ cs. is_terms 1 cs ≡ true) e term in
    let first_is : Some (take_terms 1 rest) ≡ Some (instance_at h a.at) = subst (λ cs. slice_get (arguments cs) 0 ≡ Some (instance_at h a.at)) e first in
    let same : rest ≡ instance_at h a.at = sym (take-whole 1 rest inner) ∙ some_is _ _ first_is in
    record {
      name = f;
      shape = e ∙ ap (λ r. Func f 1 ∷ r) same;
      term = subst (λ r. is_terms 1 r ≡ true) same inner;
      place = place;
    }

pub pair_is : (h : State) (at a b : Ref) (f : List ℕ) (rest : List Cell) → instance_at h at.at ≡ Func f 2 ∷ rest → is_terms 1 (instance_at h at.at) ≡ true → IsPlace h a → IsPlace h b → slice_get (arguments (instance_at h at.at)) 0 ≡ Some (instance_at h a.at) → slice_get (arguments (instance_at h at.at)) 1 ≡ Some (instance_at h b.at) → IsPair h at (a, b)
pair_is h at a b f rest e term place_a place_b first second =
    let inner : is_terms 2 rest ≡ true = subst (λ cs. is_terms 1 cs ≡ true) e term in
    let split = taken-and-left 1 1 rest inner in
    let first_is : Some (take_terms 1 rest) ≡ Some (instance_at h a.at) = subst (λ cs. slice_get (arguments cs) 0 ≡ Some (instance_at h a.at)) e first in
    let second_is : Some (take_terms 1 (drop_terms 1 rest)) ≡ Some (instance_at h b.at) = subst (λ cs. slice_get (arguments cs) 1 ≡ Some (instance_at h b.at)) e second in
    let same_a : take_terms 1 rest ≡ instance_at h a.at = some_is _ _ first_is in
    let same_b : drop_terms 1 rest ≡ instance_at h b.at = sym (take-whole 1 (drop_terms 1 rest) split.2) ∙ some_is _ _ second_is in
    let same : rest ≡ instance_at h a.at ++ instance_at h b.at = sym split.0 ∙ ap (λ xs. xs ++ drop_terms 1 rest) same_a ∙ ap (λ xs. instance_at h a.at ++ xs) same_b in
    record {
      name = f;
      shape = e ∙ ap (λ r. Func f 2 ∷ r) same;
      first_term = subst (λ r. is_terms 1 r ≡ true) same_a split.1;
      second_term = subst (λ r. is_terms 1 r ≡ true) same_b split.2;
      first_place = place_a;
      second_place = place_b;
    }

-- a compound of other arguments
pub other_arity : (cells rest : List Cell) (f : List ℕ) (k n : ℕ) → cells ≡ Func f k ∷ rest → (k ≡ n → ⊥) → HasNoArguments n cells
other_arity cells rest f k n e other g more same = other (ap arity_first (sym e ∙ same))
  where
    arity_first : List Cell → ℕ
    arity_first [] = 0
    arity_first (c ∷ cs) = arity_of c
