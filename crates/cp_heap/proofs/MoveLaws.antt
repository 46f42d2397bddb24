-- A heap stays laid out by each move: a word more, a variable more, a binding more or less, and fewer words and variables.
use Rattle.std.proofs.Common.{◌≡◌, ℕ, zero, suc, ◌+◌, ◌<◌, ◌≤◌, ◌^◌, true, false, cond, nat_eq, ◌-◌, List, [], ◌∷◌, ◌++◌, length, take, get_or, set, refl, sym, ◌∙◌, ap, subst, arith, length-append, length-set}
use Rattle.std.specs.Prelude.{Option, Some, None}
use Rattle.std.proofs.lemmas.Bool.{eqb-true, eqb-false}
use Rattle.std.proofs.lemmas.List.{length-take-le, get_or-take}
use Rattle.std.proofs.Math.ListN.{get_or-append}
use Rattle.std.proofs.Math.Seq.{get_or-append_seam, take-length}
use Rattle.cp_term.specs.declared.cell.Cell.{Cell}
use Rattle.cp_term.specs.declared.cell.Cell.TheVariants.{Var}
use Rattle.cp_term.specs.Numbering.{occurs, next_variable}
use Rattle.cp_term.specs.Substitution.{Substitution, apply}
use Rattle.cp_heap.specs.declared.bound.Bound.{Bound}
use Rattle.cp_heap.specs.declared.mark.Mark.{Mark}
use Rattle.cp_heap.specs.declared.word.Word.{Word}
use Rattle.cp_heap.specs.declared.word.Word.TheVariants.{Variable, Integer, Atom, Compound}
use Rattle.cp_heap.specs.State.{State, bindings_from, bindings, found, MayBind, IsTrail, AreBoundWithin, HaveVariablesBelow, IsLive}
use Rattle.cp_heap.specs.Layout.{word_term, terms_from, IsPlaced, ArePlaced, AreLaidOut}
use Rattle.cp_heap.proofs.ListLaws.{get_or-set, get_or-set-other}
use Rattle.cp_heap.proofs.TermLaws.{terms_from-append, length-terms_from, term_of_word, ArePlaced-append, ArePlaced-more, take-terms_from}
use Rattle.cp_heap.proofs.TrailLaws.{bindings-push, IsTrail-append, IsTrail-front, IsTrail-last, found-push, found-push-own}
use Rattle.cp_heap.proofs.ShapeLaws.{below-at, terms_from-below}

-- two states with equal parts
pub same_state : {terms terms2 : List (List Cell)} {trail trail2 : List Bound} {variables variables2 : ℕ} {names names2 : List (List ℕ)} → terms ≡ terms2 → trail ≡ trail2 → variables ≡ variables2 → names ≡ names2
    → ◌≡◌ {A = State} (record { terms = terms; trail = trail; variables = variables; names = names }) (record { terms = terms2; trail = trail2; variables = variables2; names = names2 })
same_state a b c d = λ i. record { terms = a i; trail = b i; variables = c i; names = d i }

-- what the bindings speak of
pub within_of : (terms : List (List Cell)) (variables : ℕ) (earlier trail : List Bound) → IsTrail terms variables earlier trail → AreBoundWithin variables (length terms) trail
within_of terms variables earlier [] ok = tt
within_of terms variables earlier (b ∷ trail) ok = (ok.0.variable, ok.0.place, within_of terms variables (earlier ++ b ∷ []) trail ok.1)

pub within_more : (m n p q : ℕ) (trail : List Bound) → m ≤ n → p ≤ q → AreBoundWithin m p trail → AreBoundWithin n q trail
within_more m n p q [] a b ok = tt
within_more m n p q (x ∷ trail) a b ok = (omega arith, omega arith, within_more m n p q trail a b ok.2)

pub found_past : (v n p : ℕ) (trail : List Bound) → AreBoundWithin n p trail → n ≤ v → found v trail ≡ None
found_past v n p [] ok le = refl
found_past v n p (b ∷ trail) ok le =
    elim (nat_eq b.variable v) as (λ t. nat_eq b.variable v ≡ t → cond t (Some b.at) (found v trail) ≡ None) [
      | true ↦ λ q. let e : b.variable ≡ v = eqb-true b.variable v q in absurd (omega arith)
      | false ↦ λ q. found_past v n p trail ok.2 le
    ] refl

-- bindings to places at which two heaps agree
module _ (terms terms2 : List (List Cell)) (p : ℕ) (agree : (k : ℕ) → k < p → get_or terms k [] ≡ get_or terms2 k []) where
  pub bindings-agree : (n : ℕ) (s : Substitution) (trail : List Bound) → AreBoundWithin n p trail → bindings_from terms s trail ≡ bindings_from terms2 s trail
  bindings-agree n s [] ok = refl
  bindings-agree n s (b ∷ trail) ok =
      bindings-agree n (s ++ (record { var = b.variable; term = apply s (get_or terms b.at []) }) ∷ []) trail ok.2
      ∙ ap (λ t. bindings_from terms2 (s ++ (record { var = b.variable; term = apply s t }) ∷ []) trail) (agree b.at ok.1)

  pub IsTrail-agree : (n m : ℕ) (earlier later : List Bound) → p ≤ length terms2 → bindings terms earlier ≡ bindings terms2 earlier → AreBoundWithin m p later → IsTrail terms n earlier later → IsTrail terms2 m earlier later
  IsTrail-agree n m earlier [] le e within ok = tt
  IsTrail-agree n m earlier (b ∷ later) le e within ok =
      let same : bindings terms (earlier ++ b ∷ []) ≡ bindings terms2 (earlier ++ b ∷ []) =
      bindings-push terms earlier b ∙ (λ i. e i ++ (record { var = b.variable; term = apply (e i) (agree b.at within.1 i) }) ∷ []) ∙ sym (bindings-push terms2 earlier b) in (
        record {
          variable = within.0;
          place = omega arith;
          unbound = ok.0.unbound;
          apart = (λ i. occurs b.variable (apply (sym e i) (sym (agree b.at within.1) i))) ∙ ok.0.apart;
          older = λ k h. ok.0.older k (agree b.at within.1 ∙ h);
        },
        IsTrail-agree n m (earlier ++ b ∷ []) later le same within.2 ok.1,
      )

-- words that are left
pub ArePlaced-front : (names variables variables2 from t : ℕ) (words : List Word) → ((i u : ℕ) → i < t → i < length words → get_or words i (Variable u) ≡ Variable u → u < variables2) → ArePlaced names variables from words → ArePlaced names variables2 from (take t words)
ArePlaced-front names variables variables2 from zero words low ok = tt
ArePlaced-front names variables variables2 from (suc t) [] low ok = tt
ArePlaced-front names variables variables2 from (suc t) (w ∷ words) low ok =
    (go w (λ u e. low 0 u (omega arith) (omega arith) e) ok.0, ArePlaced-front names variables variables2 (suc from) t words (λ i u a b e. low (suc i) u (omega arith) (omega arith) e) ok.1)
  where
    go : (w : Word) → ((u : ℕ) → w ≡ Variable u → u < variables2) → IsPlaced names variables from w → IsPlaced names variables2 from w
    go (Variable u) low placed = low u refl
    go (Integer i) low placed = tt
    go (Atom a) low placed = placed
    go (Compound k f first) low placed = placed

module _ (names : List (List ℕ)) (words : List Word) (trail : List Bound) (values : List (Option ℕ)) where
  pub laid-word : (w : Word) → AreLaidOut names words trail values → IsPlaced (length names) (length values) (length words) w → length words < 2 ^ 32 - 1 → AreLaidOut names (words ++ w ∷ []) trail values
  laid-word w ok placed fit =
      let terms = terms_from names [] words in
      let more : terms_from names [] (words ++ w ∷ []) ≡ terms ++ word_term names terms w ∷ [] = terms_from-append names [] words (w ∷ []) in
      let trail_more : IsTrail (terms ++ word_term names terms w ∷ []) (length values) [] trail =
      IsTrail-agree terms (terms ++ word_term names terms w ∷ []) (length terms) (λ k lt. sym (get_or-append terms (word_term names terms w ∷ []) [] k lt)) (length values) (length values) [] trail
      (omega (arith, length-append terms (word_term names terms w ∷ []))) refl (within_of terms (length values) [] trail ok.trail) ok.trail in
      let at : length words ≡ 0 + length words = omega arith in
      record {
        words = ArePlaced-append (length names) (length values) 0 words (w ∷ []) ok.words (subst (λ n. IsPlaced (length names) (length values) n w) at placed, tt);
        trail = subst (λ ts. IsTrail ts (length values) [] trail) (sym more) trail_more;
        values = ok.values;
        places_fit = omega (arith, length-append words (w ∷ []));
        bindings_fit = ok.bindings_fit;
        variables_fit = ok.variables_fit;
        names_fit = ok.names_fit;
      }

  pub laid-variable : AreLaidOut names words trail values → length values < 2 ^ 32 - 1 → AreLaidOut names words trail (values ++ None ∷ [])
  laid-variable ok fit =
      let terms = terms_from names [] words in
      let len : length (values ++ None ∷ []) ≡ length values + 1 = length-append values (None ∷ []) in
      let within = within_of terms (length values) [] trail ok.trail in
      record {
        words = ArePlaced-more (length names) (length values) (length names) (length (values ++ None ∷ [])) 0 words (omega arith) (omega arith) ok.words;
        trail = IsTrail-agree terms terms (length terms) (λ k lt. refl) (length values) (length (values ++ None ∷ [])) [] trail (omega arith) refl
            (within_more (length values) (length (values ++ None ∷ [])) (length terms) (length terms) trail (omega arith) (omega arith) within) ok.trail;
        values = λ v lt. elim (nat_eq v (length values)) as (λ t. nat_eq v (length values) ≡ t → get_or (values ++ None ∷ []) v None ≡ found v trail) [
          | true ↦ λ q. let e : v ≡ length values = eqb-true v (length values) q in
              ap (λ k. get_or (values ++ None ∷ []) k None) e ∙ get_or-append_seam values None [] None ∙ sym (found_past v (length values) (length terms) trail within (omega arith))
          | false ↦ λ q. let ne : v ≡ length values → ⊥ = eqb-false v (length values) q in
              let low : v < length values = omega arith in
              get_or-append values (None ∷ []) None v low ∙ ok.values v low
        ] refl;
        places_fit = ok.places_fit;
        bindings_fit = ok.bindings_fit;
        variables_fit = omega arith;
        names_fit = ok.names_fit;
      }

  pub laid-bind : (b : Bound) → AreLaidOut names words trail values → MayBind (terms_from names [] words) (length values) trail b → length trail < 2 ^ 32 - 1 → AreLaidOut names words (trail ++ b ∷ []) (set values b.variable (Some b.at))
  laid-bind b ok may fit =
      let terms = terms_from names [] words in
      let len : length (set values b.variable (Some b.at)) ≡ length values = length-set values b.variable (Some b.at) in
      record {
        words = subst (λ n. ArePlaced (length names) n 0 words) (sym len) ok.words;
        trail = subst (λ n. IsTrail terms n [] (trail ++ b ∷ [])) (sym len) (IsTrail-append terms (length values) [] trail (b ∷ []) ok.trail (may, tt));
        values = λ v lt. elim (nat_eq b.variable v) as (λ t. nat_eq b.variable v ≡ t → get_or (set values b.variable (Some b.at)) v None ≡ found v (trail ++ b ∷ [])) [
          | true ↦ λ q. let e : b.variable ≡ v = eqb-true b.variable v q in
              subst (λ k. get_or (set values b.variable (Some b.at)) k None ≡ found k (trail ++ b ∷ [])) e
              (get_or-set values b.variable (Some b.at) None may.variable ∙ sym (found-push-own trail b may.unbound))
          | false ↦ λ q. let ne : b.variable ≡ v → ⊥ = eqb-false b.variable v q in
              get_or-set-other values b.variable v (Some b.at) None ne ∙ ok.values v (omega arith) ∙ sym (found-push v trail b q)
        ] refl;
        places_fit = ok.places_fit;
        bindings_fit = omega (arith, length-append trail (b ∷ []));
        variables_fit = omega arith;
        names_fit = ok.names_fit;
      }

  pub laid-unbind : (b : Bound) → AreLaidOut names words (trail ++ b ∷ []) values → AreLaidOut names words trail (set values b.variable None)
  laid-unbind b ok =
      let terms = terms_from names [] words in
      let len : length (set values b.variable None) ≡ length values = length-set values b.variable None in
      let last : MayBind terms (length values) trail b = IsTrail-last terms (length values) [] trail b ok.trail in
      let fit = ok.bindings_fit in
      record {
        words = subst (λ n. ArePlaced (length names) n 0 words) (sym len) ok.words;
        trail = subst (λ n. IsTrail terms n [] trail) (sym len) (IsTrail-front terms (length values) [] trail (b ∷ []) ok.trail);
        values = λ v lt. elim (nat_eq b.variable v) as (λ t. nat_eq b.variable v ≡ t → get_or (set values b.variable None) v None ≡ found v trail) [
          | true ↦ λ q. let e : b.variable ≡ v = eqb-true b.variable v q in
              subst (λ k. get_or (set values b.variable None) k None ≡ found k trail) e
              (get_or-set values b.variable None None last.variable ∙ sym last.unbound)
          | false ↦ λ q. let ne : b.variable ≡ v → ⊥ = eqb-false b.variable v q in
              get_or-set-other values b.variable v None None ne ∙ ok.values v (omega arith) ∙ found-push v trail b q
        ] refl;
        places_fit = ok.places_fit;
        bindings_fit = omega (arith, length-append trail (b ∷ []));
        variables_fit = omega arith;
        names_fit = ok.names_fit;
      }

  pub laid-cut : (t n : ℕ) → AreLaidOut names words trail values → t ≤ length words → n ≤ length values → AreBoundWithin n t trail → HaveVariablesBelow n (take t (terms_from names [] words)) → AreLaidOut names (take t words) trail (take n values)
  laid-cut t n ok a b within below =
      let terms = terms_from names [] words in
      let len_terms : length terms ≡ 0 + length words = length-terms_from names [] words in
      let len : length (take t words) ≡ t = length-take-le t words a in
      let len_take : length (take t terms) ≡ t = length-take-le t terms (omega arith) in
      let len_values : length (take n values) ≡ n = length-take-le n values b in
      let low : (i u : ℕ) → i < t → i < length words → get_or words i (Variable u) ≡ Variable u → u < n =
      λ i u x y e.
      let here : get_or terms i [] ≡ Var u ∷ [] = term_of_word names (length values) words i (Variable u) ok.words y ∙ ap (word_term names terms) e in
      let top : next_variable (get_or (take t terms) i []) ≤ n = below-at n (take t terms) i below (omega arith) in
      let top2 : next_variable (Var u ∷ []) ≤ n = subst (λ cs. next_variable cs ≤ n) (get_or-take t terms i [] x ∙ here) top in
      omega arith in
      let placed : ArePlaced (length names) n 0 (take t words) = ArePlaced-front (length names) (length values) n 0 t words low ok.words in
      let kept : IsTrail (take t terms) n [] trail =
      IsTrail-agree terms (take t terms) t (λ k lt. sym (get_or-take t terms k [] lt)) (length values) n [] trail (omega arith) refl within ok.trail in
      let fit_places = ok.places_fit in
      let fit_variables = ok.variables_fit in
      record {
        words = subst (λ m. ArePlaced (length names) m 0 (take t words)) (sym len_values) placed;
        trail = subst (λ m. IsTrail (terms_from names [] (take t words)) m [] trail) (sym len_values) (subst (λ ts. IsTrail ts n [] trail) (take-terms_from names t words a) kept);
        values = λ v lt. let x : v < n = omega arith in get_or-take n values v None x ∙ ok.values v (omega arith);
        places_fit = omega arith;
        bindings_fit = ok.bindings_fit;
        variables_fit = omega arith;
        names_fit = ok.names_fit;
      }

  -- a mark of the heap as it is
  pub laid-live : (mark : Mark) (s : State) → AreLaidOut names words trail values → s.terms ≡ terms_from names [] words → s.trail ≡ trail → s.variables ≡ length values
      → mark.terms ≡ length words → mark.bindings ≡ length trail → mark.variables ≡ length values → IsLive mark s
  laid-live mark s ok a b c d e f =
      let terms = terms_from names [] words in
      let len : length s.terms ≡ length words = ap length a ∙ length-terms_from names [] words ∙ omega arith in
      let all_trail : take mark.bindings s.trail ≡ trail = ap (take mark.bindings) b ∙ ap (λ k. take k trail) e ∙ take-length trail in
      let all_terms : take mark.terms s.terms ≡ terms = ap (λ k. take k s.terms) (d ∙ sym len) ∙ take-length s.terms ∙ a in
      let places : length terms ≡ mark.terms = sym (ap length a) ∙ len ∙ sym d in
      let in_trail : length s.trail ≡ length trail = ap length b in
      record {
        terms = omega arith;
        trail = omega arith;
        variables = omega arith;
        bound_within = subst (λ t. AreBoundWithin mark.variables mark.terms t) (sym all_trail)
            (within_more (length values) mark.variables (length terms) mark.terms trail (omega arith) (omega arith) (within_of terms (length values) [] trail ok.trail));
        written_within = subst (λ ts. HaveVariablesBelow mark.variables ts) (sym all_terms) (subst (λ n. HaveVariablesBelow n terms) (sym f) (terms_from-below names (length values) 0 [] words tt ok.words));
      }
