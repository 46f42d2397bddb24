-- One step of unification on a heap.
use Rattle.std.proofs.Common.{◌≡◌, ℕ, ◌<◌, ◌≤◌, ◌⊎◌, inl, inr, Bool, true, false, not, nat_lt, List, [], ◌∷◌, ◌++◌, length, take, get_or, refl, sym, ◌∙◌, ap, subst, arith}
use Rattle.std.specs.Prelude.{None}
use Rattle.std.proofs.lemmas.Bool.{false≢true, ltb-true, ltb-false}
use Rattle.std.proofs.lemmas.List.{get_or-take, length-take-le}
use Rattle.cp_term.specs.declared.cell.Cell.{Cell}
use Rattle.cp_term.specs.declared.cell.Cell.TheVariants.{Var}
use Rattle.cp_term.specs.CellEq.{cell_eq}
use Rattle.cp_term.specs.Numbering.{occurs, next_variable}
use Rattle.cp_term.specs.Substitution.{Substitution, apply}
use Rattle.cp_term.proofs.lemmas.UnificationLaws.{IsNoVariable}
use Rattle.cp_heap.specs.declared.bound.Bound.{Bound}
use Rattle.cp_heap.specs.declared.word.Word.{Word}
use Rattle.cp_heap.specs.declared.word.Word.TheVariants.{Variable, Integer, Atom, Compound}
use Rattle.cp_heap.specs.State.{State, term, substitution, found, IsEnd, HaveVariablesBelow, instance_at, number_of}
use Rattle.cp_heap.specs.Looks.{IsFree}
use Rattle.cp_heap.specs.Layout.{word_term}
use Rattle.cp_heap.specs.Fresh.{AreUncrossed}
use Rattle.cp_heap.specs.Walk.{waiting, places_from, first_cell, argument_places}
use Rattle.cp_heap.proofs.TrailLaws.{unbound}
use Rattle.cp_heap.proofs.ShapeLaws.{below-at}
use Rattle.cp_heap.proofs.FreshLaws.{uncrossed-append}
use Rattle.cp_unify.specs.declared.horizon.Horizon.{Horizon}
use Rattle.cp_unify.specs.Words.{count_of}
use Rattle.cp_unify.specs.Steps.{FirstCellsDiffer, IsHorizon}

-- a variable that is free
pub free_instance : (h : State) (at v : ℕ) → IsFree h at v → instance_at h at ≡ Var v ∷ []
free_instance h at v free = ap (apply (substitution h)) free.variable ∙ unbound h.terms h.trail v free.unbound

pub free_number : (h : State) (at v : ℕ) → IsFree h at v → number_of (term h at) ≡ v
free_number h at v free = ap number_of free.variable

pub free_end : (h : State) (at v : ℕ) → IsFree h at v → IsEnd h at
free_end h at v free u e = let own : v ≡ u = cc (free.variable, e) in subst (λ x. found_none x) own free.unbound
  where
    found_none : ℕ → Type 0
    found_none x = found x h.trail ≡ None

-- a word that is no variable
pub no_variable : (names : List (List ℕ)) (w : Word) → ((v : ℕ) → w ≡ Variable v → ⊥) → IsNoVariable (first_cell names w)
no_variable names (Variable v) none = none v refl
no_variable names (Integer i) none = tt
no_variable names (Atom a) none = tt
no_variable names (Compound k f first) none = tt

pub no_variable_term : (names : List (List ℕ)) (terms : List (List Cell)) (t : List Cell) (w : Word) → t ≡ word_term names terms w → ((v : ℕ) → t ≡ Var v ∷ [] → ⊥) → IsNoVariable (first_cell names w)
no_variable_term names terms t (Variable v) e none = none v e
no_variable_term names terms t (Integer i) e none = tt
no_variable_term names terms t (Atom a) e none = tt
no_variable_term names terms t (Compound k f first) e none = tt

pub not_variable : (t : List Cell) (d : Cell) (ds : List Cell) (m : ℕ) → t ≡ d ∷ ds → IsNoVariable d → t ≡ Var m ∷ [] → ⊥
not_variable t d ds m e other is = let same : d ≡ Var m = cc (e, is) in subst IsNoVariable same other

-- the first cells of two terms
pub differ_from : (a b : List Cell) (c d : Cell) (cs ds : List Cell) → a ≡ c ∷ cs → b ≡ d ∷ ds → cell_eq c d ≡ false → FirstCellsDiffer a b
differ_from a b c d cs ds e f ne = subst (λ t. FirstCellsDiffer t b) (sym e) (subst (λ t. FirstCellsDiffer (c ∷ cs) t) (sym f) ne)

pub differ_to : (a b : List Cell) (c d : Cell) (cs ds : List Cell) → a ≡ c ∷ cs → b ≡ d ∷ ds → FirstCellsDiffer a b → cell_eq c d ≡ false
differ_to a b c d cs ds e f ne = subst (λ t. FirstCellsDiffer (c ∷ cs) t) f (subst (λ t. FirstCellsDiffer t b) e ne)

-- the binding that was made
pub more_is : (s s2 : Substitution) (u v : ℕ) (t t2 : List Cell) → s2 ≡ s ++ (record { var = u; term = t }) ∷ [] → u ≡ v → t ≡ t2 → s2 ≡ s ++ (record { var = v; term = t2 }) ∷ []
more_is s s2 u v t t2 e f g = e ∙ (λ i. s ++ (record { var = f i; term = g i }) ∷ [])

-- a variable does not occur in a term without arguments
pub atomic_apart : (s : State) (v : ℕ) (w : Word) → count_of w ≡ 0 → IsNoVariable (first_cell s.names w) → occurs v (first_cell s.names w ∷ waiting s (argument_places w)) ≡ false
atomic_apart s v (Variable u) z other = elim other [ ]
atomic_apart s v (Integer i) z other = refl
atomic_apart s v (Atom a) z other = refl
atomic_apart s v (Compound k f first) z other = ap (λ j. occurs v (waiting s (places_from first j))) z

atomic_low : (names : List (List ℕ)) (terms : List (List Cell)) (n : ℕ) (w : Word) → count_of w ≡ 0 → IsNoVariable (first_cell names w) → next_variable (word_term names terms w) ≤ n
atomic_low names terms n (Variable u) z other = elim other [ ]
atomic_low names terms n (Integer i) z other = omega arith
atomic_low names terms n (Atom a) z other = omega arith
atomic_low names terms n (Compound k f first) z other =
    subst (λ j. next_variable (word_term names terms (Compound j f first)) ≤ n) (sym z) (omega arith)

-- the terms from before have the variables from before
pub low_at : (n p : ℕ) (terms : List (List Cell)) (at : ℕ) → p ≤ length terms → HaveVariablesBelow n (take p terms) → at < p → next_variable (get_or terms at []) ≤ n
low_at n p terms at le low lt =
    let in_take : at < length (take p terms) = omega (arith, length-take-le p terms le) in
    subst (λ cs. next_variable cs ≤ n) (get_or-take p terms at [] lt) (below-at n (take p terms) at low in_take)

-- a horizon after a binding
pub horizon_bound : (z z2 : Horizon) (h new : State) (v at : ℕ) → new ≡ record h { trail = new.trail } → new.trail ≡ h.trail ++ (record { variable = v; at = at }) ∷ [] → z2 ≡ record z { crossed = z2.crossed }
    → (z2.crossed ≡ false → z.crossed ≡ false) → (z2.crossed ≡ false → (z.variables ≤ v) ⊎ (next_variable (term h at) ≤ z.variables)) → IsHorizon z h → IsHorizon z2 new
horizon_bound z z2 h new v at kept pushed same before apart ok =
    let terms : new.terms ≡ h.terms = ap (λ t. t.terms) kept in
    let zt : z2.terms ≡ z.terms = ap (λ y. y.terms) same in
    let zv : z2.variables ≡ z.variables = ap (λ y. y.variables) same in
    let b : Bound = record { variable = v; at = at } in
    record {
      terms = let a = ok.terms in let n = ap length terms in omega arith;
      written = subst (λ n. HaveVariablesBelow n (take z2.terms new.terms)) (sym zv)
          (subst (λ k. HaveVariablesBelow z.variables (take k new.terms)) (sym zt) (subst (λ ts. HaveVariablesBelow z.variables (take z.terms ts)) (sym terms) ok.written));
      uncrossed = λ e. subst (λ n. AreUncrossed n new.terms new.trail) (sym zv)
          (subst (λ ts. AreUncrossed z.variables ts new.trail) (sym terms)
          (subst (λ bs. AreUncrossed z.variables h.terms bs) (sym pushed)
          (uncrossed-append z.variables h.terms h.trail (b ∷ []) (ok.uncrossed (before e)) (apart e, tt))));
    }

either : (n v u : ℕ) → u < v → (n ≤ v) ⊎ (next_variable (Var u ∷ []) ≤ n)
either n v u lt = go (nat_lt v n) refl
  where
    go : (t : Bool) → nat_lt v n ≡ t → (n ≤ v) ⊎ (next_variable (Var u ∷ []) ≤ n)
    go true e = let below = ltb-true v n e in inr (omega arith)
    go false e = inl (ltb-false v n e)

-- a variable was bound to an older one
pub horizon_older : (z : Horizon) (h new : State) (v u at to : ℕ) → IsFree h at v → IsFree h to u → u < v → new ≡ record h { trail = new.trail }
    → new.trail ≡ h.trail ++ (record { variable = number_of (term h at); at = to }) ∷ [] → IsHorizon z h → IsHorizon z new
horizon_older z h new v u at to free older lt kept pushed ok =
    horizon_bound z z h new v to kept (pushed ∙ (λ i. h.trail ++ (record { variable = free_number h at v free i; at = to }) ∷ [])) refl (λ e. e)
    (λ e. subst (λ t. (z.variables ≤ v) ⊎ (next_variable t ≤ z.variables)) (sym older.variable) (either z.variables v u lt)) ok

-- a variable was bound to another term
pub horizon_term : (z z2 : Horizon) (h new : State) (v at to : ℕ) (w : Word) → IsFree h at v → term h to ≡ word_term h.names h.terms w → IsNoVariable (first_cell h.names w) → new ≡ record h { trail = new.trail }
    → new.trail ≡ h.trail ++ (record { variable = number_of (term h at); at = to }) ∷ [] → z2 ≡ record z { crossed = z2.crossed } → (z2.crossed ≡ false → z.crossed ≡ false)
    → (z2.crossed ≡ false → (z.variables ≤ v) ⊎ ((to < z.terms) ⊎ (count_of w ≡ 0))) → IsHorizon z h → IsHorizon z2 new
horizon_term z z2 h new v at to w free is other kept pushed same before apart ok =
    horizon_bound z z2 h new v to kept (pushed ∙ (λ i. h.trail ++ (record { variable = free_number h at v free i; at = to }) ∷ [])) same before
    (λ e. elim (apart e) [
      | inl late ↦ inl late
      | inr rest ↦ elim rest [
        | inl early ↦ inr (low_at z.variables z.terms h.terms to ok.terms ok.written early)
        | inr none ↦ inr (subst (λ t. next_variable t ≤ z.variables) (sym is) (atomic_low h.names h.terms z.variables w none other))
      ]
    ]) ok

pub not_false : (t : Bool) → not t ≡ false → t ≡ true
not_false true e = refl
not_false false e = absurd (false≢true (sym e))
