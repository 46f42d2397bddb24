-- A binding that a caller may make.
use Rattle.std.proofs.Common.{◌≡◌, ℕ, ◌<◌, false, [], ◌∷◌, ◌++◌, length, get_or, refl, sym, ◌∙◌, ap, subst, arith}
use Rattle.std.specs.Prelude.{None}
use Rattle.std.proofs.Math.Seq.{take-length, take-append_seam}
use Rattle.cp_term.specs.declared.cell.Cell.TheVariants.{Var}
use Rattle.cp_term.specs.Numbering.{occurs}
use Rattle.cp_term.specs.Substitution.{apply}
use Rattle.cp_heap.specs.declared.bound.Bound.{Bound}
use Rattle.cp_heap.specs.declared.word.Word.{Word}
use Rattle.cp_heap.specs.declared.word.Word.TheVariants.{Variable, Integer, Atom, Compound}
use Rattle.cp_heap.specs.declared.heap.Heap.TheInside.{Inside}
use Rattle.cp_heap.specs.State.{State, term, found, bindings, substitution, MayBind, IsEnd, Extends, instance_at, number_of}
use Rattle.cp_heap.specs.Looks.{IsFree}
use Rattle.cp_heap.specs.Layout.{word_term, state_of, IsLaidOut}
use Rattle.cp_heap.proofs.TrailLaws.{unbound, bindings-push}
use Rattle.cp_heap.proofs.HeapLaws.{variables, term_is, variable_here, variable_known}

module _ (h : Inside) (ok : IsLaidOut h) (s : State) (is : state_of h ≡ s) where
  pub free_is_variable : (at n : ℕ) (w : Word) → IsFree s at n → w ≡ get_or h.words.items at w → ((v : ℕ) → w ≡ Variable v → ⊥) → ⊥
  free_is_variable at n w free here none = go w (sym (term_is h ok s is at free.place w here) ∙ free.variable) none
    where
      go : (w : Word) → word_term h.names.keys s.terms w ≡ Var n ∷ [] → ((v : ℕ) → w ≡ Variable v → ⊥) → ⊥
      go (Variable v) e none = none v refl
      go (Integer i) e none = cc
      go (Atom a) e none = cc
      go (Compound k f first) e none = cc

  module _ (at end to v : ℕ) (free : IsFree s at (number_of (term s at))) (here : Variable v ≡ get_or h.words.items at (Variable v)) where
    pub number_is : number_of (term s at) ≡ v
    number_is = ap number_of (variable_here h ok s is at v free.place here)

    pub may_bind : end < length s.terms → IsEnd s end → instance_at s end ≡ instance_at s to
        → occurs (number_of (term s at)) (instance_at s to) ≡ false → ((m : ℕ) → instance_at s to ≡ Var m ∷ [] → m < number_of (term s at))
        → MayBind (state_of h).terms (length h.values.items) h.trail.items (record { variable = v; at = end })
    may_bind live is_end same apart older =
        let b : Bound = record { variable = v; at = end } in
        let may : MayBind s.terms s.variables s.trail b = record {
          variable = let k = variable_known h ok s is at v free.place here in let e = variables h ok s is in omega arith;
          place = live;
          unbound = subst (λ n. found n s.trail ≡ None) number_is free.unbound;
          apart = subst (λ n. occurs n (instance_at s end) ≡ false) number_is (ap (occurs (number_of (term s at))) same ∙ apart);
          older = λ m e. subst (λ n. m < n) number_is
              (older m (sym same ∙ ap (apply (substitution s)) e ∙ unbound s.terms s.trail m (is_end m e)));
        } in
        subst (λ t. MayBind t.terms t.variables t.trail b) (sym is) may

    pub bound_is : instance_at s end ≡ instance_at s to → bindings (state_of h).terms (h.trail.items ++ (record { variable = v; at = end }) ∷ []) ≡ substitution s ++ (record { var = number_of (term s at); term = instance_at s to }) ∷ []
    bound_is same =
        bindings-push (state_of h).terms h.trail.items (record { variable = v; at = end })
        ∙ (λ i. substitution (is i) ++ (record { var = v; term = apply (substitution (is i)) (term (is i) end) }) ∷ [])
        ∙ (λ i. substitution s ++ (record { var = sym number_is i; term = same i }) ∷ [])

-- one binding more keeps all else
pub grown : (s : State) (b : Bound) (new : State) → new ≡ record { terms = s.terms; trail = s.trail ++ b ∷ []; variables = s.variables; names = s.names } → Extends s new
grown s b new e = subst (Extends s) (sym e) (record {
  terms = take-length s.terms;
  trail = take-append_seam s.trail (b ∷ []);
  variables = omega arith;
  names = take-length s.names;
})
