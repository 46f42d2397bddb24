-- Each place of a heap holds one term, over variables of the heap.
use Rattle.std.proofs.Common.{◌≡◌, ℕ, zero, suc, ◌+◌, ◌<◌, ◌≤◌, true, List, [], ◌∷◌, ◌++◌, map, length, take, drop, get_or, refl, sym, ◌∙◌, ap, subst, append_assoc, append-nil, arith, length-append, length-drop}
use Rattle.std.specs.List.{flat_map}
use Rattle.std.proofs.lemmas.Bool.{and_from, lt-ltb}
use Rattle.std.proofs.lemmas.List.{length-take-le}
use Rattle.cp_term.specs.declared.cell.Cell.{Cell}
use Rattle.cp_term.specs.declared.cell.Cell.TheVariants.{Var, Int, Func, Atom as AtomCell}
use Rattle.cp_term.specs.Preorder.{is_arity, is_terms, drop_terms, split_terms}
use Rattle.cp_term.specs.Numbering.{next_variable}
use Rattle.cp_term.specs.Substitution.{Binding, Substitution, apply}
use Rattle.cp_term.proofs.lemmas.PreorderLaws.{is_terms-append, take_terms-append, drop_terms-append}
use Rattle.cp_term.proofs.lemmas.SubstitutionLaws.{apply-append, apply-nil, OfTerms, is_terms-apply}
use Rattle.cp_heap.specs.declared.bound.Bound.{Bound}
use Rattle.cp_heap.specs.declared.word.Word.{Word}
use Rattle.cp_heap.specs.declared.word.Word.TheVariants.{Variable, Integer, Atom, Compound}
use Rattle.cp_heap.specs.State.{bindings, IsTrail, HaveVariablesBelow, AreTerms}
use Rattle.cp_heap.specs.Layout.{word_term, terms_from, IsPlaced, ArePlaced}
use Rattle.cp_heap.proofs.TrailLaws.{binding, bindings-push}

pub AreTerms-append : (ts us : List (List Cell)) → AreTerms ts → AreTerms us → AreTerms (ts ++ us)
AreTerms-append [] us a b = b
AreTerms-append (t ∷ ts) us a b = (a.0, AreTerms-append ts us a.1 b)

pub AreTerms-drop : (k : ℕ) (ts : List (List Cell)) → AreTerms ts → AreTerms (drop k ts)
AreTerms-drop zero ts a = a
AreTerms-drop (suc k) [] a = a
AreTerms-drop (suc k) (t ∷ ts) a = AreTerms-drop k ts a.1

pub AreTerms-take : (k : ℕ) (ts : List (List Cell)) → AreTerms ts → AreTerms (take k ts)
AreTerms-take zero ts a = tt
AreTerms-take (suc k) [] a = tt
AreTerms-take (suc k) (t ∷ ts) a = (a.0, AreTerms-take k ts a.1)

pub AreTerms-at : (ts : List (List Cell)) (k : ℕ) → AreTerms ts → k < length ts → is_terms 1 (get_or ts k []) ≡ true
AreTerms-at [] k a lt = absurd (omega arith)
AreTerms-at (t ∷ ts) zero a lt = a.0
AreTerms-at (t ∷ ts) (suc k) a lt = AreTerms-at ts k a.1 (omega arith)

-- terms one after another
pub AreTerms-joined : (ts : List (List Cell)) → AreTerms ts → is_terms (length ts) (flat_map (λ t. t) ts) ≡ true
AreTerms-joined [] a = refl
AreTerms-joined (t ∷ ts) a =
    let e : suc (length ts) ≡ 1 + length ts = omega arith in
    ap (λ n. is_terms n (t ++ flat_map (λ t. t) ts)) e ∙ is_terms-append 1 (length ts) t (flat_map (λ t. t) ts) a.0 ∙ AreTerms-joined ts a.1

pub split-joined : (ts : List (List Cell)) → AreTerms ts → split_terms (length ts) (flat_map (λ t. t) ts) ≡ ts
split-joined [] a = refl
split-joined (t ∷ ts) a =
    ap (λ u. u ∷ split_terms (length ts) (drop_terms 1 (t ++ flat_map (λ t. t) ts))) (take_terms-append 1 t (flat_map (λ t. t) ts) a.0)
    ∙ ap (λ cs. t ∷ split_terms (length ts) cs) (drop_terms-append 1 t (flat_map (λ t. t) ts) a.0)
    ∙ ap (λ us. t ∷ us) (split-joined ts a.1)

-- the instances of terms
pub apply-joined : (s : Substitution) (ts : List (List Cell)) → apply s (flat_map (λ t. t) ts) ≡ flat_map (λ t. t) (map (apply s) ts)
apply-joined s [] = apply-nil s
apply-joined s (t ∷ ts) = apply-append s t (flat_map (λ t. t) ts) ∙ ap (λ cs. apply s t ++ cs) (apply-joined s ts)

pub AreTerms-apply : (s : Substitution) (ts : List (List Cell)) → OfTerms s → AreTerms ts → AreTerms (map (apply s) ts)
AreTerms-apply s [] o a = tt
AreTerms-apply s (t ∷ ts) o a = (is_terms-apply s 1 t o a.0, AreTerms-apply s ts o a.1)

-- the words of a heap
word_is_term : (names : List (List ℕ)) (variables at : ℕ) (below : List (List Cell)) (w : Word) → AreTerms below → at ≤ length below → IsPlaced (length names) variables at w → is_terms 1 (word_term names below w) ≡ true
word_is_term names variables at below (Variable v) a le placed = refl
word_is_term names variables at below (Integer i) a le placed = refl
word_is_term names variables at below (Atom n) a le placed = refl
word_is_term names variables at below (Compound k f first) a le placed =
    let ts = take k (drop first below) in
    let len : length ts ≡ k = length-take-le k (drop first below) (simp length-drop (omega arith)) in
    let n : k + 0 ≡ length ts = omega arith in
    let here : is_terms (k + 0) (flat_map (λ t. t) ts) ≡ true =
    ap (λ m. is_terms m (flat_map (λ t. t) ts)) n ∙ AreTerms-joined ts (AreTerms-take k (drop first below) (AreTerms-drop first below a)) in
    and_from (is_arity k) (is_terms (k + 0) (flat_map (λ t. t) ts)) (and_from _ _ (lt-ltb 0 k placed.0) (lt-ltb k 256 placed.1)) here

pub terms_from-AreTerms : (names : List (List ℕ)) (variables at : ℕ) (below : List (List Cell)) (words : List Word) → AreTerms below → at ≡ length below → ArePlaced (length names) variables at words → AreTerms (terms_from names below words)
terms_from-AreTerms names variables at below [] a e placed = a
terms_from-AreTerms names variables at below (w ∷ words) a e placed =
    terms_from-AreTerms names variables (suc at) (below ++ word_term names below w ∷ []) words
    (AreTerms-append below (word_term names below w ∷ []) a (word_is_term names variables at below w a (omega arith) placed.0, tt))
    (omega (arith, length-append below (word_term names below w ∷ []))) placed.1

-- the terms of bindings are terms
OfTerms-push : (s : Substitution) (x : Binding) → OfTerms s → is_terms 1 x.term ≡ true → OfTerms (s ++ x ∷ [])
OfTerms-push [] x o t = (t, tt)
OfTerms-push (b ∷ s) x o t = (o.0, OfTerms-push s x o.1 t)

bindings-OfTerms_from : (terms : List (List Cell)) (variables : ℕ) (earlier later : List Bound) → AreTerms terms → IsTrail terms variables earlier later → OfTerms (bindings terms earlier) → OfTerms (bindings terms (earlier ++ later))
bindings-OfTerms_from terms variables earlier [] a ok o = subst (λ t. OfTerms (bindings terms t)) (sym (append-nil earlier)) o
bindings-OfTerms_from terms variables earlier (b ∷ later) a ok o =
    subst (λ t. OfTerms (bindings terms t)) (append_assoc earlier (b ∷ []) later)
    (bindings-OfTerms_from terms variables (earlier ++ b ∷ []) later a ok.1
    (subst OfTerms (sym (bindings-push terms earlier b))
    (OfTerms-push (bindings terms earlier) (binding terms earlier b) o (is_terms-apply (bindings terms earlier) 1 (get_or terms b.at []) o (AreTerms-at terms b.at a ok.0.place)))))

pub bindings-OfTerms : (terms : List (List Cell)) (variables : ℕ) (trail : List Bound) → AreTerms terms → IsTrail terms variables [] trail → OfTerms (bindings terms trail)
bindings-OfTerms terms variables trail a ok = bindings-OfTerms_from terms variables [] trail a ok tt

-- the variables of the terms
pub next_variable-append : (n : ℕ) (xs ys : List Cell) → next_variable xs ≤ n → next_variable ys ≤ n → next_variable (xs ++ ys) ≤ n
next_variable-append n [] ys a b = b
next_variable-append n (Var v ∷ xs) ys a b = let rec : next_variable (xs ++ ys) ≤ n = next_variable-append n xs ys (omega arith) b in omega arith
next_variable-append n (Int i ∷ xs) ys a b = next_variable-append n xs ys a b
next_variable-append n (AtomCell c ∷ xs) ys a b = next_variable-append n xs ys a b
next_variable-append n (Func f k ∷ xs) ys a b = next_variable-append n xs ys a b

pub below-joined : (n : ℕ) (ts : List (List Cell)) → HaveVariablesBelow n ts → next_variable (flat_map (λ t. t) ts) ≤ n
below-joined n [] a = omega arith
below-joined n (t ∷ ts) a = next_variable-append n t (flat_map (λ t. t) ts) a.0 (below-joined n ts a.1)

pub below-append : (n : ℕ) (ts us : List (List Cell)) → HaveVariablesBelow n ts → HaveVariablesBelow n us → HaveVariablesBelow n (ts ++ us)
below-append n [] us a b = b
below-append n (t ∷ ts) us a b = (a.0, below-append n ts us a.1 b)

pub below-drop : (n k : ℕ) (ts : List (List Cell)) → HaveVariablesBelow n ts → HaveVariablesBelow n (drop k ts)
below-drop n zero ts a = a
below-drop n (suc k) [] a = a
below-drop n (suc k) (t ∷ ts) a = below-drop n k ts a.1

pub below-take : (n k : ℕ) (ts : List (List Cell)) → HaveVariablesBelow n ts → HaveVariablesBelow n (take k ts)
below-take n zero ts a = tt
below-take n (suc k) [] a = tt
below-take n (suc k) (t ∷ ts) a = (a.0, below-take n k ts a.1)

pub below-at : (n : ℕ) (ts : List (List Cell)) (k : ℕ) → HaveVariablesBelow n ts → k < length ts → next_variable (get_or ts k []) ≤ n
below-at n [] k a lt = absurd (omega arith)
below-at n (t ∷ ts) zero a lt = a.0
below-at n (t ∷ ts) (suc k) a lt = below-at n ts k a.1 (omega arith)

word_below : (names : List (List ℕ)) (variables at : ℕ) (below : List (List Cell)) (w : Word) → HaveVariablesBelow variables below → IsPlaced (length names) variables at w → next_variable (word_term names below w) ≤ variables
word_below names variables at below (Variable v) a placed = omega arith
word_below names variables at below (Integer i) a placed = omega arith
word_below names variables at below (Atom n) a placed = omega arith
word_below names variables at below (Compound k f first) a placed = below-joined variables (take k (drop first below)) (below-take variables k (drop first below) (below-drop variables first below a))

pub terms_from-below : (names : List (List ℕ)) (variables at : ℕ) (below : List (List Cell)) (words : List Word) → HaveVariablesBelow variables below → ArePlaced (length names) variables at words → HaveVariablesBelow variables (terms_from names below words)
terms_from-below names variables at below [] a placed = a
terms_from-below names variables at below (w ∷ words) a placed =
    terms_from-below names variables (suc at) (below ++ word_term names below w ∷ []) words
    (below-append variables below (word_term names below w ∷ []) a (word_below names variables at below w a placed.0, tt)) placed.1
