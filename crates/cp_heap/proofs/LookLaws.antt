-- What the word at the end of a chain says of a term.
use Rattle.std.proofs.Common.{◌≡◌, ℕ, ◌+◌, ◌<◌, ◌≤◌, true, List, [], ◌∷◌, map, length, take, drop, get_or, refl, sym, ◌∙◌, ap, subst, arith, length-drop}
use Rattle.std.specs.Prelude.{Some, None, slice_get}
use Rattle.std.specs.List.{flat_map}
use Rattle.std.specs.Option.{option_map}
use Rattle.std.proofs.lemmas.Option.{slice_get-get_or, slice_get-map}
use Rattle.std.proofs.lemmas.List.{length-map, length-take-le, get_or-take, get_or-drop}
use Rattle.cp_term.specs.declared.cell.Cell.{Cell}
use Rattle.cp_term.specs.declared.cell.Cell.TheVariants.{Var, Int, Func, Atom as AtomCell}
use Rattle.cp_term.specs.Preorder.{is_terms, split_terms, arguments}
use Rattle.cp_term.specs.Substitution.{apply}
use Rattle.cp_term.proofs.lemmas.SubstitutionLaws.{is_terms-apply, apply-nil, apply-Int, apply-Atom, apply-Func}
use Rattle.cp_heap.specs.declared.word.Word.{Word}
use Rattle.cp_heap.specs.declared.word.Word.TheVariants.{Variable, Integer, Atom, Compound}
use Rattle.cp_heap.specs.declared.heap.Heap.TheInside.{Inside}
use Rattle.cp_heap.specs.State.{State, term, substitution, IsTrail, IsEnd, AreTerms, IsWellFormed, instance_at}
use Rattle.cp_heap.specs.Looks.{name_of}
use Rattle.cp_heap.specs.Layout.{word_term, IsPlaced, state_of, IsLaidOut}
use Rattle.cp_heap.proofs.TrailLaws.{unbound}
use Rattle.cp_heap.proofs.ShapeLaws.{AreTerms-at, AreTerms-drop, AreTerms-take, terms_from-below, apply-joined, split-joined, AreTerms-apply, terms_from-AreTerms, bindings-OfTerms}
use Rattle.cp_heap.proofs.HeapLaws.{term_is, placed}

-- the instance of the term of a word that is no bound variable
abbrev pub word_instance : State → Word → List Cell
word_instance s (Variable v) = Var v ∷ []
word_instance s (Integer i) = Int i ∷ []
word_instance s (Atom a) = AtomCell (get_or s.names a []) ∷ []
word_instance s (Compound k f first) = Func (get_or s.names f []) k ∷ apply (substitution s) (flat_map (λ t. t) (take k (drop first s.terms)))

module _ (h : Inside) (ok : IsLaidOut h) (s : State) (is : state_of h ≡ s) where
  pub names : h.names.keys ≡ s.names
  names = ap (λ t. t.names) is

  pub all_terms : AreTerms s.terms
  all_terms = subst (λ t. AreTerms t.terms) is (terms_from-AreTerms h.names.keys (length h.values.items) 0 [] h.words.items tt refl ok.words)

  pub well_formed : IsWellFormed s
  well_formed = subst IsWellFormed is (record {
    terms = terms_from-AreTerms h.names.keys (length h.values.items) 0 [] h.words.items tt refl ok.words;
    written = terms_from-below h.names.keys (length h.values.items) 0 [] h.words.items tt ok.words;
    trail = ok.trail;
  })

  -- what stands at a place
  pub word_is : (i : ℕ) (w : Word) → i < length s.terms → w ≡ get_or h.words.items i w → term s i ≡ word_term s.names s.terms w
  word_is i w live at = term_is h ok s is i live w at ∙ ap (λ n. word_term n s.terms w) names

  pub word_placed : (i : ℕ) (w : Word) → i < length s.terms → w ≡ get_or h.words.items i w → IsPlaced (length s.names) s.variables i w
  word_placed i w live at =
      subst (λ t. IsPlaced (length t.names) t.variables i w) is (placed h ok s is i live w at)

  pub one_term : (i : ℕ) → i < length s.terms → is_terms 1 (instance_at s i) ≡ true
  one_term i live =
      is_terms-apply (substitution s) 1 (term s i) (bindings-OfTerms s.terms s.variables s.trail all_terms well_formed.trail) (AreTerms-at s.terms i all_terms live)

  pub instance_is : (i : ℕ) (w : Word) → i < length s.terms → w ≡ get_or h.words.items i w → IsEnd s i → instance_at s i ≡ word_instance s w
  instance_is i w live at end = ap (apply (substitution s)) here ∙ go w here
    where
      here : term s i ≡ word_term s.names s.terms w
      here = term_is h ok s is i live w at ∙ ap (λ n. word_term n s.terms w) names

      go : (w : Word) → term s i ≡ word_term s.names s.terms w → apply (substitution s) (word_term s.names s.terms w) ≡ word_instance s w
      go (Variable v) e = unbound s.terms s.trail v (end v e)
      go (Integer j) e = apply-Int (substitution s) j [] ∙ ap (λ cs. Int j ∷ cs) (apply-nil (substitution s))
      go (Atom a) e = apply-Atom (substitution s) (get_or s.names a []) [] ∙ ap (λ cs. AtomCell (get_or s.names a []) ∷ cs) (apply-nil (substitution s))
      go (Compound k f first) e = apply-Func (substitution s) (get_or s.names f []) k (flat_map (λ t. t) (take k (drop first s.terms)))

  -- the name of an atom or a compound stands in the table
  pub atom_name : (i a : ℕ) (w : Word) → i < length s.terms → w ≡ get_or h.words.items i w → IsEnd s i → w ≡ Atom a → slice_get h.names.keys a ≡ name_of (instance_at s i)
  atom_name i a w live at end e =
      let known : a < length h.names.keys = subst (IsPlaced (length h.names.keys) (length h.values.items) i) e (placed h ok s is i live w at) in
      slice_get-get_or h.names.keys a [] known ∙ ap (λ n. Some (get_or n a [])) names
      ∙ sym (ap name_of (instance_is i w live at end ∙ ap (word_instance s) e))

  pub compound_name : (i k f first : ℕ) (w : Word) → i < length s.terms → w ≡ get_or h.words.items i w → IsEnd s i → w ≡ Compound k f first → slice_get h.names.keys f ≡ name_of (instance_at s i)
  compound_name i k f first w live at end e =
      let p : IsPlaced (length h.names.keys) (length h.values.items) i (Compound k f first) = subst (IsPlaced (length h.names.keys) (length h.values.items) i) e (placed h ok s is i live w at) in
      slice_get-get_or h.names.keys f [] p.2 ∙ ap (λ n. Some (get_or n f [])) names
      ∙ sym (ap name_of (instance_is i w live at end ∙ ap (word_instance s) e))

  pub no_name : (i : ℕ) (w : Word) → i < length s.terms → w ≡ get_or h.words.items i w → IsEnd s i → ((a : ℕ) → w ≡ Atom a → ⊥) → ((k f first : ℕ) → w ≡ Compound k f first → ⊥) → None ≡ name_of (instance_at s i)
  no_name i w live at end no_atom no_compound = go w no_atom no_compound ∙ sym (ap name_of (instance_is i w live at end))
    where
      go : (w : Word) → ((a : ℕ) → w ≡ Atom a → ⊥) → ((k f first : ℕ) → w ≡ Compound k f first → ⊥) → None ≡ name_of (word_instance s w)
      go (Variable v) no_atom no_compound = refl
      go (Integer j) no_atom no_compound = refl
      go (Atom a) no_atom no_compound = absurd (no_atom a refl)
      go (Compound k f first) no_atom no_compound = absurd (no_compound k f first refl)

  -- the arguments of what is no compound
  pub no_argument : (i : ℕ) (w : Word) → i < length s.terms → w ≡ get_or h.words.items i w → IsEnd s i → ((k f first : ℕ) → w ≡ Compound k f first → ⊥) → length (arguments (instance_at s i)) ≡ 0
  no_argument i w live at end no_compound = ap (λ cs. length (arguments cs)) (instance_is i w live at end) ∙ go w no_compound
    where
      go : (w : Word) → ((k f first : ℕ) → w ≡ Compound k f first → ⊥) → length (arguments (word_instance s w)) ≡ 0
      go (Variable v) no_compound = refl
      go (Integer j) no_compound = refl
      go (Atom a) no_compound = refl
      go (Compound k f first) no_compound = absurd (no_compound k f first refl)

  pub compound_within : (i k f first : ℕ) (w : Word) → i < length s.terms → w ≡ get_or h.words.items i w → w ≡ Compound k f first → first + k ≤ i
  compound_within i k f first w live at e =
      let p : IsPlaced (length h.names.keys) (length h.values.items) i (Compound k f first) = subst (IsPlaced (length h.names.keys) (length h.values.items) i) e (placed h ok s is i live w at) in p.3

  -- the arguments of a compound are the instances of the terms at its places
  module _ (k f first : ℕ) (within : first + k ≤ length s.terms) where
    len : length (take k (drop first s.terms)) ≡ k
    len = length-take-le k (drop first s.terms) (simp length-drop (omega arith))

    pub arguments_are : arguments (word_instance s (Compound k f first)) ≡ map (apply (substitution s)) (take k (drop first s.terms))
    arguments_are =
        let ts = take k (drop first s.terms) in
        let us = map (apply (substitution s)) ts in
        let n : k + 0 ≡ length us = let a = len in omega (arith, length-map ts (apply (substitution s))) in
        let o = bindings-OfTerms s.terms s.variables s.trail all_terms (subst (λ t. IsTrail t.terms t.variables [] t.trail) is ok.trail) in
        ap (split_terms (k + 0)) (apply-joined (substitution s) ts) ∙ ap (λ m. split_terms m (flat_map (λ t. t) us)) n
        ∙ split-joined us (AreTerms-apply (substitution s) ts o (AreTerms-take k (drop first s.terms) (AreTerms-drop first s.terms all_terms)))

    pub arguments_len : length (arguments (word_instance s (Compound k f first))) ≡ k
    arguments_len = ap length arguments_are ∙ length-map (take k (drop first s.terms)) (apply (substitution s)) ∙ len

    pub argument_at : (index : ℕ) → index < k → slice_get (arguments (word_instance s (Compound k f first))) index ≡ Some (instance_at s (first + index))
    argument_at index lt =
        let ts = take k (drop first s.terms) in
        let in_ts : index < length ts = let a = len in omega arith in
        ap (λ us. slice_get us index) arguments_are ∙ slice_get-map (apply (substitution s)) ts index
        ∙ ap (option_map (apply (substitution s))) (slice_get-get_or ts index [] in_ts)
        ∙ ap (λ t. Some (apply (substitution s) t)) (get_or-take k (drop first s.terms) index [] lt ∙ get_or-drop first s.terms index [])
