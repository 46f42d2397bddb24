-- What a trail of bindings makes of terms.
use Rattle.std.proofs.Common.{◌≡◌, ℕ, ◌<◌, ◌||◌, true, false, cond, nat_eq, List, [], ◌∷◌, ◌++◌, length, get_or, refl, sym, ◌∙◌, ap, subst, append_assoc, append-nil}
use Rattle.std.specs.Prelude.{Some, None}
use Rattle.std.proofs.lemmas.Bool.{false≢true, eq-eqb, eqb-true, eqb-false, ne_eqb}
use Rattle.cp_term.specs.declared.cell.Cell.{Cell}
use Rattle.cp_term.specs.declared.cell.Cell.TheVariants.{Var, Int, Atom, Func}
use Rattle.cp_term.specs.Numbering.{occurs}
use Rattle.cp_term.specs.Substitution.{Binding, Substitution, replace, apply}
use Rattle.cp_term.proofs.lemmas.SubstitutionLaws.{apply-after}
use Rattle.cp_heap.specs.declared.bound.Bound.{Bound}
use Rattle.cp_heap.specs.State.{bindings_from, bindings, found, MayBind, IsTrail}

-- a term without the variable stays
pub replace-apart : (x : Binding) (cells : List Cell) → occurs x.var cells ≡ false → replace x cells ≡ cells
replace-apart x [] out = refl
replace-apart x (Var v ∷ cells) out =
    elim (nat_eq v x.var) as (λ t. t || occurs x.var cells ≡ false → cond t x.term (Var v ∷ []) ++ replace x cells ≡ Var v ∷ cells) [
      | true ↦ λ h. absurd (false≢true (sym h))
      | false ↦ λ h. ap (λ cs. Var v ∷ cs) (replace-apart x cells h)
    ] out
replace-apart x (Int i ∷ cells) out = ap (λ cs. Int i ∷ cs) (replace-apart x cells out)
replace-apart x (Atom a ∷ cells) out = ap (λ cs. Atom a ∷ cs) (replace-apart x cells out)
replace-apart x (Func f k ∷ cells) out = ap (λ cs. Func f k ∷ cs) (replace-apart x cells out)

pub replace-own : (x : Binding) → replace x (Var x.var ∷ []) ≡ x.term
replace-own x = ap (λ t. cond t x.term (Var x.var ∷ []) ++ []) (eq-eqb x.var x.var refl) ∙ append-nil x.term

replace-other : (x : Binding) (v : ℕ) → nat_eq x.var v ≡ false → replace x (Var v ∷ []) ≡ Var v ∷ []
replace-other x v ne =
    let apart : nat_eq v x.var ≡ false = ne_eqb v x.var (λ e. eqb-false x.var v ne (sym e)) in
    ap (λ t. cond t x.term (Var v ∷ []) ++ []) apart

module _ (terms : List (List Cell)) where
  -- the binding that this one makes behind others
  abbrev pub binding : List Bound → Bound → Binding
  binding earlier b = record { var = b.variable; term = apply (bindings terms earlier) (get_or terms b.at []) }

  bindings_from-push : (s : Substitution) (trail : List Bound) (b : Bound)
      → bindings_from terms s (trail ++ b ∷ []) ≡ bindings_from terms s trail ++ (record { var = b.variable; term = apply (bindings_from terms s trail) (get_or terms b.at []) }) ∷ []
  bindings_from-push s [] b = refl
  bindings_from-push s (e ∷ trail) b = bindings_from-push (s ++ (record { var = e.variable; term = apply s (get_or terms e.at []) }) ∷ []) trail b

  pub bindings-push : (trail : List Bound) (b : Bound) → bindings terms (trail ++ b ∷ []) ≡ bindings terms trail ++ binding trail b ∷ []
  bindings-push trail b = bindings_from-push [] trail b

  pub apply-push : (trail : List Bound) (b : Bound) (cells : List Cell) → apply (bindings terms (trail ++ b ∷ [])) cells ≡ replace (binding trail b) (apply (bindings terms trail) cells)
  apply-push trail b cells = ap (λ s. apply s cells) (bindings-push trail b) ∙ apply-after (bindings terms trail) (binding trail b ∷ []) cells

  -- what is the same stays the same
  pub same_later : (earlier later : List Bound) (x y : List Cell) → apply (bindings terms earlier) x ≡ apply (bindings terms earlier) y → apply (bindings terms (earlier ++ later)) x ≡ apply (bindings terms (earlier ++ later)) y
  same_later earlier [] x y e = subst (λ t. apply (bindings terms t) x ≡ apply (bindings terms t) y) (sym (append-nil earlier)) e
  same_later earlier (b ∷ later) x y e =
      subst (λ t. apply (bindings terms t) x ≡ apply (bindings terms t) y) (append_assoc earlier (b ∷ []) later)
      (same_later (earlier ++ b ∷ []) later x y (apply-push earlier b x ∙ ap (replace (binding earlier b)) e ∙ sym (apply-push earlier b y)))

  -- a variable that is not bound stays
  unbound_later : (earlier later : List Bound) (v : ℕ) → apply (bindings terms earlier) (Var v ∷ []) ≡ Var v ∷ [] → found v later ≡ None → apply (bindings terms (earlier ++ later)) (Var v ∷ []) ≡ Var v ∷ []
  unbound_later earlier [] v e none = subst (λ t. apply (bindings terms t) (Var v ∷ []) ≡ Var v ∷ []) (sym (append-nil earlier)) e
  unbound_later earlier (b ∷ later) v e none =
      elim (nat_eq b.variable v) as (λ t. nat_eq b.variable v ≡ t → cond t (Some b.at) (found v later) ≡ None → apply (bindings terms (earlier ++ b ∷ later)) (Var v ∷ []) ≡ Var v ∷ []) [
        | true ↦ λ q h. cc
        | false ↦ λ q h.
            subst (λ t. apply (bindings terms t) (Var v ∷ []) ≡ Var v ∷ []) (append_assoc earlier (b ∷ []) later)
            (unbound_later (earlier ++ b ∷ []) later v (apply-push earlier b (Var v ∷ []) ∙ ap (replace (binding earlier b)) e ∙ replace-other (binding earlier b) v q) h)
      ] refl none

  pub unbound : (trail : List Bound) (v : ℕ) → found v trail ≡ None → apply (bindings terms trail) (Var v ∷ []) ≡ Var v ∷ []
  unbound trail v none = unbound_later [] trail v refl none

  -- a variable and the term to which it is bound become one
  bound_later : (variables : ℕ) (earlier later : List Bound) (v at : ℕ) → IsTrail terms variables earlier later → found v later ≡ Some at
      → apply (bindings terms (earlier ++ later)) (Var v ∷ []) ≡ apply (bindings terms (earlier ++ later)) (get_or terms at [])
  bound_later variables earlier [] v at ok e = cc
  bound_later variables earlier (b ∷ later) v at ok e =
      elim (nat_eq b.variable v) as (λ t. nat_eq b.variable v ≡ t → cond t (Some b.at) (found v later) ≡ Some at → apply (bindings terms (earlier ++ b ∷ later)) (Var v ∷ []) ≡ apply (bindings terms (earlier ++ b ∷ later)) (get_or terms at [])) [
        | true ↦ λ q h.
            let own : b.variable ≡ v = eqb-true b.variable v q in
            let place : b.at ≡ at = cc in
            let x = binding earlier b in
            let alone : apply (bindings terms earlier) (Var b.variable ∷ []) ≡ Var b.variable ∷ [] = unbound earlier b.variable ok.0.unbound in
            let left : apply (bindings terms (earlier ++ b ∷ [])) (Var b.variable ∷ []) ≡ x.term =
            apply-push earlier b (Var b.variable ∷ []) ∙ ap (replace x) alone ∙ replace-own x in
            let right : apply (bindings terms (earlier ++ b ∷ [])) (get_or terms b.at []) ≡ x.term =
            apply-push earlier b (get_or terms b.at []) ∙ replace-apart x (apply (bindings terms earlier) (get_or terms b.at [])) ok.0.apart in
            let here : apply (bindings terms ((earlier ++ b ∷ []) ++ later)) (Var b.variable ∷ []) ≡ apply (bindings terms ((earlier ++ b ∷ []) ++ later)) (get_or terms b.at []) =
            same_later (earlier ++ b ∷ []) later (Var b.variable ∷ []) (get_or terms b.at []) (left ∙ sym right) in
            let whole : apply (bindings terms (earlier ++ b ∷ later)) (Var b.variable ∷ []) ≡ apply (bindings terms (earlier ++ b ∷ later)) (get_or terms b.at []) =
            subst (λ t. apply (bindings terms t) (Var b.variable ∷ []) ≡ apply (bindings terms t) (get_or terms b.at [])) (append_assoc earlier (b ∷ []) later) here in
            subst (λ w. apply (bindings terms (earlier ++ b ∷ later)) (Var w ∷ []) ≡ apply (bindings terms (earlier ++ b ∷ later)) (get_or terms at [])) own
            (subst (λ p. apply (bindings terms (earlier ++ b ∷ later)) (Var b.variable ∷ []) ≡ apply (bindings terms (earlier ++ b ∷ later)) (get_or terms p [])) place whole)
        | false ↦ λ q h.
            subst (λ t. apply (bindings terms t) (Var v ∷ []) ≡ apply (bindings terms t) (get_or terms at [])) (append_assoc earlier (b ∷ []) later)
            (bound_later variables (earlier ++ b ∷ []) later v at ok.1 h)
      ] refl e

  pub bound : (variables : ℕ) (trail : List Bound) (v at : ℕ) → IsTrail terms variables [] trail → found v trail ≡ Some at
      → apply (bindings terms trail) (Var v ∷ []) ≡ apply (bindings terms trail) (get_or terms at [])
  bound variables trail v at ok e = bound_later variables [] trail v at ok e

  -- what is known of a binding that was made
  pub record IsMade (variables v at : ℕ) : Type 0 where
    pub variable : v < variables
    pub place : at < length terms
    pub older : (m : ℕ) → get_or terms at [] ≡ Var m ∷ [] → m < v

  pub made : (variables : ℕ) (earlier later : List Bound) (v at : ℕ) → IsTrail terms variables earlier later → found v later ≡ Some at → IsMade variables v at
  made variables earlier [] v at ok e = cc
  made variables earlier (b ∷ later) v at ok e =
      elim (nat_eq b.variable v) as (λ t. nat_eq b.variable v ≡ t → cond t (Some b.at) (found v later) ≡ Some at → IsMade variables v at) [
        | true ↦ λ q h.
            let own : b.variable ≡ v = eqb-true b.variable v q in
            let place : b.at ≡ at = cc in
            subst (λ w. IsMade variables w at) own (subst (λ p. IsMade variables b.variable p) place (record { variable = ok.0.variable; place = ok.0.place; older = ok.0.older }))
        | false ↦ λ q h. made variables (earlier ++ b ∷ []) later v at ok.1 h
      ] refl e

  -- one binding more
  pub IsTrail-append : (variables : ℕ) (earlier trail more : List Bound) → IsTrail terms variables earlier trail → IsTrail terms variables (earlier ++ trail) more → IsTrail terms variables earlier (trail ++ more)
  IsTrail-append variables earlier [] more ok behind = subst (λ t. IsTrail terms variables t more) (append-nil earlier) behind
  IsTrail-append variables earlier (b ∷ trail) more ok behind =
      (ok.0, IsTrail-append variables (earlier ++ b ∷ []) trail more ok.1 (subst (λ t. IsTrail terms variables t more) (sym (append_assoc earlier (b ∷ []) trail)) behind))

  pub IsTrail-front : (variables : ℕ) (earlier trail more : List Bound) → IsTrail terms variables earlier (trail ++ more) → IsTrail terms variables earlier trail
  IsTrail-front variables earlier [] more ok = tt
  IsTrail-front variables earlier (b ∷ trail) more ok = (ok.0, IsTrail-front variables (earlier ++ b ∷ []) trail more ok.1)

  pub IsTrail-last : (variables : ℕ) (earlier trail : List Bound) (b : Bound) → IsTrail terms variables earlier (trail ++ b ∷ []) → MayBind terms variables (earlier ++ trail) b
  IsTrail-last variables earlier [] b ok = subst (λ t. MayBind terms variables t b) (sym (append-nil earlier)) ok.0
  IsTrail-last variables earlier (e ∷ trail) b ok = subst (λ t. MayBind terms variables t b) (append_assoc earlier (e ∷ []) trail) (IsTrail-last variables (earlier ++ e ∷ []) trail b ok.1)

-- the binding that was made last is found last
pub found-push : (v : ℕ) (trail : List Bound) (b : Bound) → nat_eq b.variable v ≡ false → found v (trail ++ b ∷ []) ≡ found v trail
found-push v [] b ne = ap (λ t. cond t (Some b.at) None) ne
found-push v (e ∷ trail) b ne = ap (λ o. cond (nat_eq e.variable v) (Some e.at) o) (found-push v trail b ne)

pub found-push-own : (trail : List Bound) (b : Bound) → found b.variable trail ≡ None → found b.variable (trail ++ b ∷ []) ≡ Some b.at
found-push-own [] b none = ap (λ t. cond t (Some b.at) None) (eq-eqb b.variable b.variable refl)
found-push-own (e ∷ trail) b none =
    elim (nat_eq e.variable b.variable) as (λ t. cond t (Some e.at) (found b.variable trail) ≡ None → cond t (Some e.at) (found b.variable (trail ++ b ∷ [])) ≡ Some b.at) [
      | true ↦ λ h. cc
      | false ↦ λ h. found-push-own trail b h
    ] none
