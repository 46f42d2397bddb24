-- Lists and compounds of terms of a heap that grew, and their instances.
use Rattle.std.proofs.Common.{◌≡◌, ℕ, zero, suc, ◌+◌, ◌<◌, List, [], ◌∷◌, ◌++◌, map, length, take, append_assoc, ◌≤◌, refl, sym, ◌∙◌, ap, arith}
use Rattle.std.specs.Prelude.{codes, Some, Ok, Err, if◌then◌else◌, unwrap_or, slice_get}
use Rattle.std.proofs.lemmas.List.{map-append, take_all}
use Rattle.std.specs.List.{flat_map}
use Rattle.cp_term.specs.declared.cell.Cell.{Cell}
use Rattle.cp_term.specs.declared.cell.Cell.TheVariants.{Atom, Func}
use Rattle.cp_term.specs.Preorder.{drop_terms, split_terms, arguments}
use Rattle.cp_term.specs.Substitution.{Substitution, apply}
use Rattle.cp_term.specs.Unification.{unify}
use Rattle.cp_term.proofs.lemmas.SubstitutionLaws.{apply-append, apply-nil, apply-Atom, apply-Func}
use Rattle.cp_heap.specs.declared.reference.Ref.{Ref}
use Rattle.cp_heap.specs.State.{State, term, substitution, instance_at, AreRefs, terms_at}
use Rattle.cp_heap.specs.Looks.{name_of}
use Rattle.cp_heap.proofs.lemmas.Growth.{term-stays}
use Rattle.std.proofs.lemmas.Bool.{le-ltb}
use Rattle.cp_goal.specs.Errors.{resource_error}
use Rattle.cp_goal.specs.Lists.{list_term}
use Rattle.cp_goal.specs.Builtins.{by, univ_term}
use Rattle.cp_lists.specs.Growing.{GainsTerms}
use Rattle.cp_lists.specs.Places.{instances}
use Rattle.cp_builtin.specs.Parts.{parts}
use Rattle.cp_builtin.proofs.KindLaws.{apply-word}

pub apply-list_term : (s : Substitution) (ts : List (List Cell)) → apply s (list_term ts) ≡ list_term (map (apply s) ts)
apply-list_term s [] = apply-Atom s (codes "[]") [] ∙ ap (λ cs. Atom (codes "[]") ∷ cs) (apply-nil s)
apply-list_term s (t ∷ ts) =
    apply-Func s (codes ".") 2 (t ++ list_term ts)
    ∙ ap (λ cs. Func (codes ".") 2 ∷ cs) (apply-append s t (list_term ts) ∙ ap (λ cs. apply s t ++ cs) (apply-list_term s ts))

pub apply-all : (s : Substitution) (ts : List (List Cell)) → apply s (flat_map (λ t. t) ts) ≡ flat_map (λ t. t) (map (apply s) ts)
apply-all s [] = apply-nil s
apply-all s (t ∷ ts) = apply-append s t (flat_map (λ t. t) ts) ∙ ap (λ cs. apply s t ++ cs) (apply-all s ts)

pub instances-terms : (h : State) (refs : List Ref) → map (apply (substitution h)) (terms_at h refs) ≡ instances h refs
instances-terms h [] = refl
instances-terms h (r ∷ refs) = ap (λ ts. instance_at h r.at ∷ ts) (instances-terms h refs)

module _ (old new : State) (gains : GainsTerms old new) where
  pub instance-same : (at : ℕ) → at < length old.terms → instance_at new at ≡ instance_at old at
  instance-same at live = λ i. apply (gains.bindings i) (term-stays old new gains.extends at live i)

  pub instances-same : (refs : List Ref) → AreRefs old refs → instances new refs ≡ instances old refs
  instances-same [] live = refl
  instances-same (r ∷ refs) live =
      λ i. instance-same r.at (live 0 r (omega arith)) i ∷ instances-same refs (λ k d lt. live (suc k) d (omega arith)) i

  -- a list, and a compound, of these terms
  pub list_made : (refs : List Ref) (at : ℕ) → term new at ≡ list_term (terms_at old refs) → instance_at new at ≡ list_term (instances old refs)
  list_made refs at made =
      (λ i. apply (gains.bindings i) (made i)) ∙ apply-list_term (substitution old) (terms_at old refs) ∙ ap list_term (instances-terms old refs)

  pub compound_made : (refs : List Ref) (at : ℕ) (f : List ℕ) (k : ℕ) → term new at ≡ Func f k ∷ flat_map (λ t. t) (terms_at old refs)
      → instance_at new at ≡ Func f k ∷ flat_map (λ t. t) (instances old refs)
  compound_made refs at f k made =
      (λ i. apply (gains.bindings i) (made i))
      ∙ apply-Func (substitution old) f k (flat_map (λ t. t) (terms_at old refs))
      ∙ ap (λ cs. Func f k ∷ cs) (apply-all (substitution old) (terms_at old refs) ∙ ap (flat_map (λ t. t)) (instances-terms old refs))

  -- unification of a term from before with what is the same
  pub by_same : (at : ℕ) (t u : List Cell) → at < length old.terms → t ≡ u
      → by (unify (substitution new) (term new at) t) new.variables ≡ by (unify (substitution old) (term old at) u) old.variables
  by_same at t u live same = λ i. by (unify (gains.bindings i) (term-stays old new gains.extends at live i) (same i)) (gains.variables i)

length-split : (n : ℕ) (cells : List Cell) → length (split_terms n cells) ≡ n
length-split zero cells = refl
length-split (suc n) cells = ap suc (length-split n (drop_terms 1 cells))

pub length-arguments : (f : List ℕ) (k : ℕ) (cells : List Cell) → length (arguments (Func f k ∷ cells)) ≡ k
length-arguments f k cells = length-split (k + 0) cells ∙ omega arith

-- one argument more
pub take_got : (xs : List (List Cell)) (i : ℕ) (x : List Cell) → slice_get xs i ≡ Some x → take (i + 1) xs ≡ take i xs ++ x ∷ []
take_got [] i x got = cc
take_got (y ∷ xs) zero x got = ap (λ o. unwrap_or o [] ∷ []) got
take_got (y ∷ xs) (suc i) x got = ap (λ n. take n (y ∷ xs)) next ∙ ap (λ ys. y ∷ ys) (take_got xs i x got)
  where
    next : suc i + 1 ≡ suc (i + 1)
    next = omega arith

module _ (h : State) (whole : ℕ) (f : List ℕ) (k : ℕ) (rest : List Cell) (compound : instance_at h whole ≡ Func f k ∷ rest) where
  pub arguments-count : length (arguments (instance_at h whole)) ≡ k
  arguments-count = ap (λ cells. length (arguments cells)) compound ∙ length-arguments f k rest

  pub arguments-all : (i : ℕ) → k ≤ i → take i (arguments (instance_at h whole)) ≡ arguments (instance_at h whole)
  arguments-all i le = take_all i (arguments (instance_at h whole)) (let n = arguments-count in omega arith)

  pub arguments-next : (before : List (List Cell)) (refs : List Ref) (r : Ref) (i : ℕ)
      → instances h refs ≡ before ++ take i (arguments (instance_at h whole)) → slice_get (arguments (instance_at h whole)) i ≡ Some (instance_at h r.at)
      → instances h (refs ++ r ∷ []) ≡ before ++ take (i + 1) (arguments (instance_at h whole))
  arguments-next before refs r i are got =
      map-append (λ r. instance_at h r.at) refs (r ∷ [])
      ∙ ap (λ ts. ts ++ instance_at h r.at ∷ []) are
      ∙ append_assoc before (take i (arguments (instance_at h whole))) (instance_at h r.at ∷ [])
      ∙ ap (λ ts. before ++ ts) (sym (take_got (arguments (instance_at h whole)) i (instance_at h r.at) got))

-- the name that is seen is that of the cells
pub name_seen : (cells : List Cell) (f n : List ℕ) → Some n ≡ name_of cells → name_of cells ≡ Some f → n ≡ f
name_seen cells f n named own = ap (λ o. unwrap_or o []) (named ∙ own)

module _ (old new : State) (gains : GainsTerms old new) (whole : ℕ) (live : whole < length old.terms) where
  pub compound_told : (f n : List ℕ) (k : ℕ) (rest : List Cell) (head : Ref) (refs : List Ref)
      → instance_at old whole ≡ Func f k ∷ rest → Some n ≡ name_of (instance_at old whole) → term new head.at ≡ Atom n ∷ []
      → instances new refs ≡ instances new (head ∷ []) ++ arguments (instance_at new whole)
      → instances new refs ≡ parts (instance_at old whole)
  compound_told f n k rest head refs compound named made are =
      let same : n ≡ f = name_seen (instance_at old whole) f n named (ap name_of compound) in
      let first : instance_at new head.at ≡ Atom f ∷ [] =
      ap (apply (substitution new)) (made ∙ ap (λ m. Atom m ∷ []) same) ∙ apply-word (substitution new) f in
      are
      ∙ (λ i. first i ∷ arguments ((instance-same old new gains whole live ∙ compound) i))
      ∙ sym (ap parts compound)

  pub compound_named : (f n : List ℕ) (refs : List Ref) (at : ℕ)
      → instance_at old whole ≡ Atom f ∷ [] → Some n ≡ name_of (instance_at old whole)
      → term new at ≡ Func n (length refs) ∷ flat_map (λ t. t) (terms_at old refs)
      → instance_at new at ≡ Func f (length refs) ∷ flat_map (λ t. t) (instances old refs)
  compound_named f n refs at atom named made =
      let same : n ≡ f = name_seen (instance_at old whole) f n named (ap name_of atom) in
      compound_made old new gains refs at f (length refs) (made ∙ ap (λ m. Func m (length refs) ∷ flat_map (λ t. t) (terms_at old refs)) same)

-- the compound of an atom and of 1 to 255 arguments
pub univ_named : (a : List ℕ) (ts : List (List Cell)) → 0 < length ts → length ts ≤ 255 → univ_term (Atom a ∷ []) ts ≡ Ok (Func a (length ts) ∷ flat_map (λ t. t) ts)
univ_named a [] some few = absurd (omega arith)
univ_named a (t ∷ ts) some few =
    ap (λ b. if b then Err (resource_error (codes "arity")) else Ok (Func a (length (t ∷ ts)) ∷ flat_map (λ t. t) (t ∷ ts))) (le-ltb 255 (length (t ∷ ts)) few)

pub length-instances : (h : State) (refs : List Ref) → length (instances h refs) ≡ length refs
length-instances h [] = refl
length-instances h (r ∷ refs) = ap suc (length-instances h refs)

pub univ_told : (h : State) (cells : List Cell) (a : List ℕ) (refs : List Ref) → cells ≡ Atom a ∷ [] → 0 < length refs → length refs ≤ 255
    → univ_term cells (instances h refs) ≡ Ok (Func a (length refs) ∷ flat_map (λ t. t) (instances h refs))
univ_told h cells a refs atom some few =
    let n = length-instances h refs in
    ap (λ cs. univ_term cs (instances h refs)) atom
    ∙ univ_named a (instances h refs) (omega arith) (omega arith)
    ∙ ap (λ k. Ok (Func a k ∷ flat_map (λ t. t) (instances h refs))) n
