-- The bindings of a heap leave instances as they are.
use Rattle.std.proofs.Common.{◌≡◌, ◌<◌, ◌≤◌, cond, nat_eq, true, false, ℕ, List, [], ◌∷◌, ◌++◌, length, take, get_or, refl, sym, ◌∙◌, ap, subst, append_assoc, append-nil, arith}
use Rattle.std.proofs.lemmas.Bool.{eqb-true}
use Rattle.std.proofs.Math.Seq.{take-length}
use Rattle.cp_term.specs.declared.cell.Cell.{Cell}
use Rattle.cp_term.specs.declared.cell.Cell.TheVariants.{Var, Int, Atom, Func}
use Rattle.cp_term.specs.Numbering.{next_variable}
use Rattle.cp_term.specs.Substitution.{Binding, Substitution, replace, apply}
use Rattle.cp_term.proofs.lemmas.SubstitutionLaws.{apply-append, apply-Int, apply-Atom, apply-Func}
use Rattle.cp_heap.specs.declared.bound.Bound.{Bound}
use Rattle.cp_heap.specs.State.{State, term, bindings, substitution, MayBind, IsTrail, HaveVariablesBelow, IsWellFormed, instance_at}
use Rattle.cp_heap.proofs.TrailLaws.{binding, apply-push, replace-apart, replace-own, unbound}
use Rattle.cp_heap.proofs.ShapeLaws.{below-at}
use Rattle.cp_heap.proofs.MoveLaws.{within_of}
use Rattle.cp_heap.proofs.FreshLaws.{instance_below, uncrossed_before}

-- a binding whose variable and term have the same instance does nothing
module _ (s : Substitution) (x : Binding) (own : apply s x.term ≡ apply s (Var x.var ∷ [])) where
  bound_already : (d : List Cell) → apply s (replace x d) ≡ apply s d
  bound_already [] = refl
  bound_already (Var v ∷ d) =
      elim (nat_eq v x.var) as (λ t. nat_eq v x.var ≡ t → apply s (cond t x.term (Var v ∷ []) ++ replace x d) ≡ apply s (Var v ∷ d)) [
        | true ↦ λ q.
            apply-append s x.term (replace x d)
            ∙ (λ i. (own ∙ ap (λ u. apply s (Var u ∷ [])) (sym (eqb-true v x.var q))) i ++ bound_already d i)
            ∙ sym (apply-append s (Var v ∷ []) d)
        | false ↦ λ q.
            apply-append s (Var v ∷ []) (replace x d)
            ∙ ap (λ cs. apply s (Var v ∷ []) ++ cs) (bound_already d)
            ∙ sym (apply-append s (Var v ∷ []) d)
      ] refl
  bound_already (Int i ∷ d) = apply-Int s i (replace x d) ∙ ap (λ cs. Int i ∷ cs) (bound_already d) ∙ sym (apply-Int s i d)
  bound_already (Atom a ∷ d) = apply-Atom s a (replace x d) ∙ ap (λ cs. Atom a ∷ cs) (bound_already d) ∙ sym (apply-Atom s a d)
  bound_already (Func f k ∷ d) = apply-Func s f k (replace x d) ∙ ap (λ cs. Func f k ∷ cs) (bound_already d) ∙ sym (apply-Func s f k d)

module _ (terms : List (List Cell)) where
  abbrev Idempotent : List Bound → Type 0
  Idempotent trail = (cells : List Cell) → apply (bindings terms trail) (apply (bindings terms trail) cells) ≡ apply (bindings terms trail) cells

  one_more : (variables : ℕ) (earlier : List Bound) (b : Bound) → MayBind terms variables earlier b → Idempotent earlier → Idempotent (earlier ++ b ∷ [])
  one_more variables earlier b may ih cells =
      let x : Binding = binding terms earlier b in
      let s : Substitution = bindings terms earlier in
      let t : Substitution = bindings terms (earlier ++ b ∷ []) in
      let own : apply t x.term ≡ apply t (Var b.variable ∷ []) =
      apply-push terms earlier b x.term ∙ ap (replace x) (ih (get_or terms b.at []))
      ∙ replace-apart x x.term may.apart
      ∙ sym (replace-own x) ∙ ap (replace x) (sym (unbound terms earlier b.variable may.unbound)) ∙ sym (apply-push terms earlier b (Var b.variable ∷ [])) in
      ap (apply t) (apply-push terms earlier b cells)
      ∙ bound_already t x own (apply s cells)
      ∙ apply-push terms earlier b (apply s cells) ∙ ap (replace x) (ih cells) ∙ sym (apply-push terms earlier b cells)

  all_of : (variables : ℕ) (earlier later : List Bound) → IsTrail terms variables earlier later → Idempotent earlier → Idempotent (earlier ++ later)
  all_of variables earlier [] ok ih = subst Idempotent (sym (append-nil earlier)) ih
  all_of variables earlier (b ∷ later) ok ih =
      subst Idempotent (append_assoc earlier (b ∷ []) later) (all_of variables (earlier ++ b ∷ []) later ok.1 (one_more variables earlier b ok.0 ih))

-- the instance of an instance is the instance
pub instance-again : (h : State) → IsWellFormed h → (cells : List Cell) → apply (substitution h) (apply (substitution h) cells) ≡ apply (substitution h) cells
instance-again h well cells = all_of h.terms h.variables [] h.trail well.trail (λ cs. refl) cells

-- an instance has variables of the heap alone
pub instance-variables : (h : State) → IsWellFormed h → (at : ℕ) → at < length h.terms → next_variable (instance_at h at) ≤ h.variables
instance-variables h well at lt =
    let all : HaveVariablesBelow h.variables (take (length h.terms) h.terms) = subst (HaveVariablesBelow h.variables) (sym (take-length h.terms)) well.written in
    instance_below h.variables h.terms h.trail
    (uncrossed_before h.variables h.terms (length h.terms) h.trail (omega arith) all (within_of h.terms h.variables [] h.trail well.trail))
    (term h at) (below-at h.variables h.terms at well.written lt)
