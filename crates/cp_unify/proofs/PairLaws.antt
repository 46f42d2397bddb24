-- What unification makes of the first of several pairs of terms.
use Rattle.std.proofs.Common.{◌≡◌, ℕ, ◌<◌, max, min, true, false, cond, ◌||◌, nat_eq, List, [], ◌∷◌, ◌++◌, refl, sym, ◌∙◌, ap, append-nil, arith}
use Rattle.std.specs.Prelude.{Option, Some, None}
use Rattle.std.proofs.lemmas.Bool.{eq-eqb, ne_eqb}
use Rattle.cp_term.specs.declared.cell.Cell.{Cell}
use Rattle.cp_term.specs.declared.cell.Cell.TheVariants.{Var, Int, Atom, Func}
use Rattle.cp_term.specs.CellEq.{cell_eq, cell_eq-refl}
use Rattle.cp_term.specs.Preorder.{is_terms}
use Rattle.cp_term.specs.Numbering.{occurs}
use Rattle.cp_term.specs.Substitution.{Binding, Substitution, replace, apply}
use Rattle.cp_term.specs.Unification.{Same, Clash, Bind, bound_to, first_disagreement, disagreement, disagreement_under, unify, UnifiesTo, same, clash, bind}
use Rattle.cp_term.proofs.lemmas.PreorderLaws.{take_terms-append}
use Rattle.cp_term.proofs.lemmas.SubstitutionLaws.{apply-append, apply-after}
use Rattle.cp_term.proofs.lemmas.Turns.{unify-UnifiesTo, UnifiesTo-unique}
use Rattle.cp_term.proofs.lemmas.UnificationLaws.{IsNoVariable}
use Rattle.cp_heap.proofs.TrailLaws.{replace-apart}
use Rattle.cp_heap.proofs.UnifyLaws.{unify-instances}

-- what the first disagreement comes to
pub unify-same : (s : Substitution) (a b : List Cell) → disagreement_under s a b ≡ Same → unify s a b ≡ Some s
unify-same s a b e = UnifiesTo-unique (unify-UnifiesTo s a b) (same e)

unify-clash : (s : Substitution) (a b : List Cell) → disagreement_under s a b ≡ Clash → unify s a b ≡ None
unify-clash s a b e = UnifiesTo-unique (unify-UnifiesTo s a b) (clash e)

unify-bind : (s : Substitution) (a b : List Cell) (x : Binding) → disagreement_under s a b ≡ Bind x → unify s a b ≡ unify (s ++ x ∷ []) a b
unify-bind s a b x e = UnifiesTo-unique (unify-UnifiesTo s a b) (bind x e (unify-UnifiesTo (s ++ x ∷ []) a b))

-- terms that are the same already
disagreement-prefix : (p xs ys : List Cell) → disagreement (p ++ xs) (p ++ ys) ≡ disagreement xs ys
disagreement-prefix [] xs ys = refl
disagreement-prefix (c ∷ p) xs ys =
    ap (λ t. cond t (disagreement (p ++ xs) (p ++ ys)) (first_disagreement c (p ++ xs) c (p ++ ys))) (cell_eq-refl c) ∙ disagreement-prefix p xs ys

module _ (p q xs ys : List Cell) where
  still : (s : Substitution) (x : Binding) → apply s p ≡ apply s q → apply (s ++ x ∷ []) p ≡ apply (s ++ x ∷ []) q
  still s x e = apply-after s (x ∷ []) p ∙ ap (replace x) e ∙ sym (apply-after s (x ∷ []) q)

  behind : (s : Substitution) → apply s p ≡ apply s q → disagreement_under s (p ++ xs) (q ++ ys) ≡ disagreement_under s xs ys
  behind s e =
      (λ i. disagreement (apply-append s p xs i) (apply-append s q ys i))
      ∙ ap (λ c. disagreement (apply s p ++ apply s xs) (c ++ apply s ys)) (sym e)
      ∙ disagreement-prefix (apply s p) (apply s xs) (apply s ys)

  UnifiesTo-prefix : {s : Substitution} {r : Option Substitution} → apply s p ≡ apply s q → UnifiesTo xs ys s r → UnifiesTo (p ++ xs) (q ++ ys) s r
  UnifiesTo-prefix {s} e (same d) = same (behind s e ∙ d)
  UnifiesTo-prefix {s} e (clash d) = clash (behind s e ∙ d)
  UnifiesTo-prefix {s} e (bind x d h) = bind x (behind s e ∙ d) (UnifiesTo-prefix (still s x e) h)

  pub unify-prefix : (s : Substitution) → apply s p ≡ apply s q → unify s (p ++ xs) (q ++ ys) ≡ unify s xs ys
  unify-prefix s e = UnifiesTo-unique (unify-UnifiesTo s (p ++ xs) (q ++ ys)) (UnifiesTo-prefix e (unify-UnifiesTo s xs ys))

-- two terms whose first cells are the same go on with what follows
pub unify-first : (s : Substitution) (a b xs ys us vs : List Cell) (c d : Cell) → apply s a ≡ apply s (c ∷ us) → apply s b ≡ apply s (d ∷ vs) → c ≡ d → unify s (a ++ xs) (b ++ ys) ≡ unify s (us ++ xs) (vs ++ ys)
unify-first s a b xs ys us vs c d e f same_cell =
    unify-instances (a ++ xs) (c ∷ us ++ xs) (b ++ ys) (d ∷ vs ++ ys) s
    (apply-append s a xs ∙ ap (λ cs. cs ++ apply s xs) e ∙ sym (apply-append s (c ∷ us) xs))
    (apply-append s b ys ∙ ap (λ cs. cs ++ apply s ys) f ∙ sym (apply-append s (d ∷ vs) ys))
    ∙ unify-prefix (c ∷ []) (d ∷ []) (us ++ xs) (vs ++ ys) s (ap (λ k. apply s (k ∷ [])) same_cell)

-- two terms whose first cells differ
module _ (s : Substitution) (a b xs ys : List Cell) where
  differ : (c d : Cell) (cs ds : List Cell) → apply s a ≡ c ∷ cs → apply s b ≡ d ∷ ds → cell_eq c d ≡ false
      → disagreement_under s (a ++ xs) (b ++ ys) ≡ first_disagreement c (cs ++ apply s xs) d (ds ++ apply s ys)
  differ c d cs ds e f ne =
      (λ i. disagreement (apply-append s a xs i) (apply-append s b ys i))
      ∙ (λ i. disagreement (e i ++ apply s xs) (f i ++ apply s ys))
      ∙ ap (λ t. cond t (disagreement (cs ++ apply s xs) (ds ++ apply s ys)) (first_disagreement c (cs ++ apply s xs) d (ds ++ apply s ys))) ne

  -- neither is a variable
  pub unify-values : (c d : Cell) (cs ds : List Cell) → apply s a ≡ c ∷ cs → apply s b ≡ d ∷ ds → cell_eq c d ≡ false → IsNoVariable c → IsNoVariable d → unify s (a ++ xs) (b ++ ys) ≡ None
  unify-values c d cs ds e f ne m n = unify-clash s (a ++ xs) (b ++ ys) (differ c d cs ds e f ne ∙ go c d m n)
    where
      go : (c d : Cell) → IsNoVariable c → IsNoVariable d → first_disagreement c (cs ++ apply s xs) d (ds ++ apply s ys) ≡ Clash
      go (Var _) _ m n = elim m [ ]
      go (Int i) (Var _) m n = elim n [ ]
      go (Atom t) (Var _) m n = elim n [ ]
      go (Func f k) (Var _) m n = elim n [ ]
      go (Int i) (Int j) m n = refl
      go (Int i) (Atom t) m n = refl
      go (Int i) (Func g k) m n = refl
      go (Atom t) (Int j) m n = refl
      go (Atom t) (Atom u) m n = refl
      go (Atom t) (Func g k) m n = refl
      go (Func f k) (Int j) m n = refl
      go (Func f k) (Atom u) m n = refl
      go (Func f k) (Func g j) m n = refl

  -- after a binding that makes the two the same
  pub unify-bound : (x : Binding) (s2 : Substitution) → disagreement_under s (a ++ xs) (b ++ ys) ≡ Bind x → s2 ≡ s ++ x ∷ [] → replace x (apply s a) ≡ replace x (apply s b) → unify s (a ++ xs) (b ++ ys) ≡ unify s2 xs ys
  unify-bound x s2 e more one =
      unify-bind s (a ++ xs) (b ++ ys) x e
      ∙ unify-prefix a b xs ys (s ++ x ∷ []) (apply-after s (x ∷ []) a ∙ one ∙ sym (apply-after s (x ∷ []) b))
      ∙ ap (λ t. unify t xs ys) (sym more)

  pub unify-occurs : disagreement_under s (a ++ xs) (b ++ ys) ≡ Clash → unify s (a ++ xs) (b ++ ys) ≡ None
  unify-occurs e = unify-clash s (a ++ xs) (b ++ ys) e

-- a variable and a term that is none
pub replace-one : (v : ℕ) (t : List Cell) → replace (record { var = v; term = t }) (Var v ∷ []) ≡ t
replace-one v t = ap (λ b. cond b t (Var v ∷ []) ++ []) (eq-eqb v v refl) ∙ append-nil t

bound_first : (v : ℕ) (d : Cell) (ds more : List Cell) → is_terms 1 (d ∷ ds) ≡ true → bound_to v (d ∷ ds ++ more) ≡ cond (occurs v (d ∷ ds)) Clash (Bind (record { var = v; term = d ∷ ds }))
bound_first v d ds more one = ap (λ t. cond (occurs v t) Clash (Bind (record { var = v; term = t }))) (take_terms-append 1 (d ∷ ds) more one)

var_differs : (v : ℕ) (d : Cell) → IsNoVariable d → cell_eq (Var v) d ≡ false
var_differs v (Var _) n = elim n [ ]
var_differs v (Int i) n = refl
var_differs v (Atom a) n = refl
var_differs v (Func f k) n = refl

differs_var : (v : ℕ) (d : Cell) → IsNoVariable d → cell_eq d (Var v) ≡ false
differs_var v (Var _) n = elim n [ ]
differs_var v (Int i) n = refl
differs_var v (Atom a) n = refl
differs_var v (Func f k) n = refl

var_first : (v : ℕ) (cs : List Cell) (d : Cell) (ds : List Cell) → IsNoVariable d → first_disagreement (Var v) cs d ds ≡ bound_to v (d ∷ ds)
var_first v cs (Var _) ds n = elim n [ ]
var_first v cs (Int i) ds n = refl
var_first v cs (Atom a) ds n = refl
var_first v cs (Func f k) ds n = refl

first_var : (v : ℕ) (cs : List Cell) (d : Cell) (ds : List Cell) → IsNoVariable d → first_disagreement d ds (Var v) cs ≡ bound_to v (d ∷ ds)
first_var v cs (Var _) ds n = elim n [ ]
first_var v cs (Int i) ds n = refl
first_var v cs (Atom a) ds n = refl
first_var v cs (Func f k) ds n = refl

module _ (s : Substitution) (a b xs ys : List Cell) (v : ℕ) (d : Cell) (ds : List Cell) (no : IsNoVariable d) (one : is_terms 1 (d ∷ ds) ≡ true) where
  x : Binding
  x = record { var = v; term = d ∷ ds }

  on_left : apply s a ≡ Var v ∷ [] → apply s b ≡ d ∷ ds → disagreement_under s (a ++ xs) (b ++ ys) ≡ cond (occurs v (d ∷ ds)) Clash (Bind (record { var = v; term = d ∷ ds }))
  on_left e f = differ s a b xs ys (Var v) d [] ds e f (var_differs v d no) ∙ var_first v (apply s xs) d (ds ++ apply s ys) no ∙ bound_first v d ds (apply s ys) one

  on_right : apply s a ≡ d ∷ ds → apply s b ≡ Var v ∷ [] → disagreement_under s (a ++ xs) (b ++ ys) ≡ cond (occurs v (d ∷ ds)) Clash (Bind (record { var = v; term = d ∷ ds }))
  on_right e f = differ s a b xs ys d (Var v) ds [] e f (differs_var v d no) ∙ first_var v (apply s ys) d (ds ++ apply s xs) no ∙ bound_first v d ds (apply s xs) one

  one_by : occurs v (d ∷ ds) ≡ false → replace (record { var = v; term = d ∷ ds }) (Var v ∷ []) ≡ replace (record { var = v; term = d ∷ ds }) (d ∷ ds)
  one_by out = replace-one v (d ∷ ds) ∙ sym (replace-apart (record { var = v; term = d ∷ ds }) (d ∷ ds) out)

  pub unify-left : (s2 : Substitution) → apply s a ≡ Var v ∷ [] → apply s b ≡ d ∷ ds → occurs v (d ∷ ds) ≡ false → s2 ≡ s ++ (record { var = v; term = d ∷ ds }) ∷ [] → unify s (a ++ xs) (b ++ ys) ≡ unify s2 xs ys
  unify-left s2 e f out more =
      unify-bound s a b xs ys (record { var = v; term = d ∷ ds }) s2 (on_left e f ∙ ap (λ t. cond t Clash (Bind (record { var = v; term = d ∷ ds }))) out) more
      (ap (replace (record { var = v; term = d ∷ ds })) e ∙ one_by out ∙ sym (ap (replace (record { var = v; term = d ∷ ds })) f))

  pub unify-right : (s2 : Substitution) → apply s a ≡ d ∷ ds → apply s b ≡ Var v ∷ [] → occurs v (d ∷ ds) ≡ false → s2 ≡ s ++ (record { var = v; term = d ∷ ds }) ∷ [] → unify s (a ++ xs) (b ++ ys) ≡ unify s2 xs ys
  unify-right s2 e f out more =
      unify-bound s a b xs ys (record { var = v; term = d ∷ ds }) s2 (on_right e f ∙ ap (λ t. cond t Clash (Bind (record { var = v; term = d ∷ ds }))) out) more
      (ap (replace (record { var = v; term = d ∷ ds })) e ∙ sym (one_by out) ∙ sym (ap (replace (record { var = v; term = d ∷ ds })) f))

  pub unify-left-occurs : apply s a ≡ Var v ∷ [] → apply s b ≡ d ∷ ds → occurs v (d ∷ ds) ≡ true → unify s (a ++ xs) (b ++ ys) ≡ None
  unify-left-occurs e f there = unify-clash s (a ++ xs) (b ++ ys) (on_left e f ∙ ap (λ t. cond t Clash (Bind (record { var = v; term = d ∷ ds }))) there)

  pub unify-right-occurs : apply s a ≡ d ∷ ds → apply s b ≡ Var v ∷ [] → occurs v (d ∷ ds) ≡ true → unify s (a ++ xs) (b ++ ys) ≡ None
  unify-right-occurs e f there = unify-clash s (a ++ xs) (b ++ ys) (on_right e f ∙ ap (λ t. cond t Clash (Bind (record { var = v; term = d ∷ ds }))) there)

-- two variables
module _ (s : Substitution) (a b xs ys : List Cell) (u v : ℕ) (older : u < v) where
  apart : nat_eq u v ≡ false
  apart = ne_eqb u v (λ (e : u ≡ v). omega arith)

  apart_sym : nat_eq v u ≡ false
  apart_sym = ne_eqb v u (λ (e : v ≡ u). omega arith)

  bound_older : (m k : ℕ) → m ≡ v → k ≡ u → bound_to m (Var k ∷ []) ≡ Bind (record { var = v; term = Var u ∷ [] })
  bound_older m k e f =
      (λ i. bound_to (e i) (Var (f i) ∷ []))
      ∙ ap (λ t. cond (t || false) Clash (Bind (record { var = v; term = Var u ∷ [] }))) apart

  one_older : replace (record { var = v; term = Var u ∷ [] }) (Var v ∷ []) ≡ replace (record { var = v; term = Var u ∷ [] }) (Var u ∷ [])
  one_older = replace-one v (Var u ∷ []) ∙ sym (replace-apart (record { var = v; term = Var u ∷ [] }) (Var u ∷ []) (ap (λ t. t || false) apart))

  pub unify-younger-right : (s2 : Substitution) → apply s a ≡ Var u ∷ [] → apply s b ≡ Var v ∷ [] → s2 ≡ s ++ (record { var = v; term = Var u ∷ [] }) ∷ [] → unify s (a ++ xs) (b ++ ys) ≡ unify s2 xs ys
  unify-younger-right s2 e f more =
      unify-bound s a b xs ys (record { var = v; term = Var u ∷ [] }) s2
      (differ s a b xs ys (Var u) (Var v) [] [] e f apart ∙ bound_older (max u v) (min u v) (omega arith) (omega arith)) more
      (ap (replace (record { var = v; term = Var u ∷ [] })) e ∙ sym one_older ∙ sym (ap (replace (record { var = v; term = Var u ∷ [] })) f))

  pub unify-younger-left : (s2 : Substitution) → apply s a ≡ Var v ∷ [] → apply s b ≡ Var u ∷ [] → s2 ≡ s ++ (record { var = v; term = Var u ∷ [] }) ∷ [] → unify s (a ++ xs) (b ++ ys) ≡ unify s2 xs ys
  unify-younger-left s2 e f more =
      unify-bound s a b xs ys (record { var = v; term = Var u ∷ [] }) s2
      (differ s a b xs ys (Var v) (Var u) [] [] e f apart_sym ∙ bound_older (max v u) (min v u) (omega arith) (omega arith)) more
      (ap (replace (record { var = v; term = Var u ∷ [] })) e ∙ one_older ∙ sym (ap (replace (record { var = v; term = Var u ∷ [] })) f))
