-- Unification gives a unifier exactly where there is one.
use Rattle.std.proofs.Common.{◌≡◌, ℕ, zero, suc, ◌+◌, max, min, Bool, true, false, length, take, drop, cond, ◌↔◌, IsTrue, List, [], ◌∷◌, ◌++◌, refl, sym, ◌∙◌, ap, subst, arith}
use mathlib.Core.Path.{subst₂}
use Rattle.std.proofs.lemmas.List.{take_at, drop_at}
use Rattle.std.specs.Prelude.{Option, Some, None, is_some}
use Rattle.std.proofs.lemmas.Bool.{and_parts, false≢true}
use Rattle.cp_term.specs.declared.cell.Cell.{Cell}
use Rattle.cp_term.specs.declared.cell.Cell.TheVariants.{Var, Int, Atom, Func}
use Rattle.cp_term.specs.CellEq.{cell_eq, cell_eq-true}
use Rattle.cp_term.specs.Preorder.{has_arity, terms_after, is_terms, take_terms}
use Rattle.cp_term.specs.Numbering.{occurs, fresh, next_variable}
use Rattle.cp_term.specs.Substitution.{instance, Substitution, apply}
use Rattle.cp_term.specs.Unification.{Disagreement, Same, Clash, Bind, bound_to, first_disagreement, disagreement, disagreement_under, unify_by, unify, unifiable_apart}
use Rattle.cp_term.specs.Unifier.{IsUnifier, HasUnifier, IsMostGeneral}
use Rattle.cp_term.proofs.lemmas.PreorderLaws.{is_terms-take_terms, is_terms-map_renamed}
use Rattle.cp_term.proofs.lemmas.SubstitutionLaws.{apply-append, apply-nil, apply-Int, apply-Atom, apply-Func, OfTerms, OfTerms-more, is_terms-apply}
use Rattle.cp_term.proofs.lemmas.UnificationLaws.{first_disagreement-cases, unify-equal}
use Rattle.cp_term.proofs.lemmas.MostGeneral.{GivesMoreGeneral, unify-most_general}

-- ---- what unification binds variables to are terms

abbrev BindsTerm : Disagreement → Type 0
BindsTerm Same = Unit {0}
BindsTerm Clash = Unit {0}
BindsTerm (Bind x) = is_terms 1 x.term ≡ true

bound_to-BindsTerm : (v m : ℕ) (cells : List Cell) → is_terms (1 + m) cells ≡ true → BindsTerm (bound_to v cells)
bound_to-BindsTerm v m cells h =
    elim (occurs v (take_terms 1 cells)) as (λ t. BindsTerm (cond t Clash (Bind (record { var = v; term = take_terms 1 cells })))) [
      | true ↦ tt
      | false ↦ is_terms-take_terms 1 m cells h
    ]

abbrev FirstBindsTerm : Cell → List Cell → Cell → List Cell → Disagreement → Type 0
FirstBindsTerm c cs d ds r = (m : ℕ) → is_terms (1 + m) (c ∷ cs) ≡ true → is_terms (1 + m) (d ∷ ds) ≡ true → BindsTerm r

first_disagreement-BindsTerm : (c : Cell) (cs : List Cell) (d : Cell) (ds : List Cell) → FirstBindsTerm c cs d ds (first_disagreement c cs d ds)
first_disagreement-BindsTerm =
    first_disagreement-cases FirstBindsTerm
    (λ u v cs ds m hx hy. bound_to-BindsTerm (max u v) 0 (Var (min u v) ∷ []) refl)
    (λ u cs d ds n m hx hy. bound_to-BindsTerm u m (d ∷ ds) hy)
    (λ c cs v ds n m hx hy. bound_to-BindsTerm v m (c ∷ cs) hx)
    (λ c cs d ds k n m hx hy. tt)

one_more : (m : ℕ) (xs : List Cell) → is_terms (suc m) xs ≡ true → is_terms (1 + m) xs ≡ true
one_more m xs h = let e : suc m ≡ 1 + m = omega arith in subst (λ k. is_terms k xs ≡ true) e h

disagreement-BindsTerm : (n : ℕ) (xs ys : List Cell) → is_terms n xs ≡ true → is_terms n ys ≡ true → BindsTerm (disagreement xs ys)
disagreement-BindsTerm n [] [] hx hy = tt
disagreement-BindsTerm n [] (d ∷ ds) hx hy = tt
disagreement-BindsTerm n (c ∷ cs) [] hx hy = tt
disagreement-BindsTerm zero (c ∷ cs) (d ∷ ds) hx hy = cc
disagreement-BindsTerm (suc n) (c ∷ cs) (d ∷ ds) hx hy =
    (elim (cell_eq c d) as (λ t. cell_eq c d ≡ t → BindsTerm (cond t (disagreement cs ds) (first_disagreement c cs d ds))) [
      | true ↦ λ e.
          disagreement-BindsTerm (terms_after c n) cs ds (and_parts (has_arity c) (is_terms (terms_after c n) cs) hx).1
          (subst (λ x. is_terms (terms_after x n) ds ≡ true) (sym (cell_eq-true c d e)) (and_parts (has_arity d) (is_terms (terms_after d n) ds) hy).1)
      | false ↦ λ e. first_disagreement-BindsTerm c cs d ds n (one_more n (c ∷ cs) hx) (one_more n (d ∷ ds) hy)
    ]) refl

unify_by-OfTerms : (n : ℕ) (s : Substitution) (a b : List Cell) (d : Disagreement) (r : Substitution) → is_terms 1 a ≡ true → is_terms 1 b ≡ true
    → disagreement_under s a b ≡ d → OfTerms s → unify_by n s a b d ≡ Some r → OfTerms r
unify_by-OfTerms n s a b Same r ha hb e ts h = let same : s ≡ r = cc in subst OfTerms same ts
unify_by-OfTerms n s a b Clash r ha hb e ts h = cc
unify_by-OfTerms zero s a b (Bind x) r ha hb e ts h = cc
unify_by-OfTerms (suc n) s a b (Bind x) r ha hb e ts h =
    let term = subst BindsTerm e (disagreement-BindsTerm 1 (apply s a) (apply s b) (is_terms-apply s 1 a ts ha) (is_terms-apply s 1 b ts hb)) in
    unify_by-OfTerms n (s ++ x ∷ []) a b (disagreement_under (s ++ x ∷ []) a b) r ha hb refl (OfTerms-more s x ts term) h

pub unify-OfTerms : (a b : List Cell) (r : Substitution) → is_terms 1 a ≡ true → is_terms 1 b ≡ true → unify [] a b ≡ Some r → OfTerms r
unify-OfTerms a b r ha hb h = unify_by-OfTerms _ [] a b _ r ha hb refl tt h

-- ---- a substitution as the terms that it gives for the variables

abbrev pub value_of : Substitution → ℕ → List Cell
value_of s v = apply s (Var v ∷ [])

pub instance-value_of : (s : Substitution) (cells : List Cell) → instance (value_of s) cells ≡ apply s cells
instance-value_of s [] = sym (apply-nil s)
instance-value_of s (Var v ∷ cells) = ap (λ xs. apply s (Var v ∷ []) ++ xs) (instance-value_of s cells) ∙ sym (apply-append s (Var v ∷ []) cells)
instance-value_of s (Int i ∷ cells) = ap (λ xs. Int i ∷ xs) (instance-value_of s cells) ∙ sym (apply-Int s i cells)
instance-value_of s (Atom a ∷ cells) = ap (λ xs. Atom a ∷ xs) (instance-value_of s cells) ∙ sym (apply-Atom s a cells)
instance-value_of s (Func f k ∷ cells) = ap (λ xs. Func f k ∷ xs) (instance-value_of s cells) ∙ sym (apply-Func s f k cells)

-- ---- the law

module _ (a b : List Cell) (ha : is_terms 1 a ≡ true) (hb : is_terms 1 b ≡ true) where
  pub unifier_of : (r : Substitution) → unify [] a b ≡ Some r → IsUnifier a b (value_of r)
  unifier_of r h = record {
    terms = λ v. is_terms-apply r 1 (Var v ∷ []) (unify-OfTerms a b r ha hb h) refl;
    equal = instance-value_of r a ∙ unify-equal [] a b r h ∙ sym (instance-value_of r b);
  }

  more_general : (value : ℕ → List Cell) (u : IsUnifier a b value) (o : Option Substitution) → unify [] a b ≡ o → GivesMoreGeneral value u.terms o
  more_general value u o e = subst (GivesMoreGeneral value u.terms) e (unify-most_general value u.terms [] a b ha hb tt (λ cells. refl) u.equal)

  gives_some : (value : ℕ → List Cell) (u : IsUnifier a b value) (o : Option Substitution) → GivesMoreGeneral value u.terms o → is_some o ≡ true
  gives_some value u None h = absurd h
  gives_some value u (Some r) h = refl

  from_some : (o : Option Substitution) → unify [] a b ≡ o → is_some o ≡ true → HasUnifier a b
  from_some None e h = absurd (false≢true h)
  from_some (Some r) e h = (value_of r, unifier_of r e)

  pub unify-exact : IsTrue (is_some (unify [] a b)) ↔ HasUnifier a b
  unify-exact = (from_some (unify [] a b) refl, λ u. gives_some u.0 u.1 (unify [] a b) (more_general u.0 u.1 (unify [] a b) refl))

  pub unify-general : (r : Substitution) → unify [] a b ≡ Some r → IsMostGeneral a b r
  unify-general r h = record { equal = unify-equal [] a b r h; general = λ value u. more_general value u (Some r) h }

-- ---- two terms, one after the other, with the variables of the second renamed apart

same_test : (s t : Bool) (P : Type 0) → (IsTrue s ↔ P) → (IsTrue t ↔ P) → s ≡ t
same_test true true P h k = refl
same_test false false P h k = refl
same_test true false P h k = sym (k.1 (h.0 refl))
same_test false true P h k = h.1 (k.0 refl)

module _ (a b cells : List Cell) (second shift : ℕ) (all : cells ≡ a ++ fresh shift b) (len : second ≡ length a) where
  pub first_part : take second cells ≡ a
  first_part = ap (take second) all ∙ take_at a (fresh shift b) second (sym len)

  pub second_part : drop second cells ≡ fresh shift b
  second_part = ap (drop second) all ∙ drop_at a (fresh shift b) second (sym len)

  module _ (ha : is_terms 1 a ≡ true) (hb : is_terms 1 b ≡ true) where
    pub first-term : is_terms 1 (take second cells) ≡ true
    first-term = ap (is_terms 1) first_part ∙ ha

    fresh-term : is_terms 1 (fresh shift b) ≡ true
    fresh-term = is_terms-map_renamed (λ v. v + shift) 1 b ∙ hb

    pub second-term : is_terms 1 (drop second cells) ≡ true
    second-term = ap (is_terms 1) second_part ∙ fresh-term

    pub unifiable-by : shift ≡ next_variable a → (t : Bool) → (IsTrue t ↔ HasUnifier (take second cells) (drop second cells)) → t ≡ unifiable_apart a b
    unifiable-by above t h =
        same_test t (is_some (unify [] a (fresh shift b))) (HasUnifier a (fresh shift b))
        (subst₂ (λ x y. IsTrue t ↔ HasUnifier x y) first_part second_part h) (unify-exact a (fresh shift b) ha fresh-term)
        ∙ ap (λ n. is_some (unify [] a (fresh n b))) above
