-- What a goal is without the modules in front of it.
use Rattle.std.proofs.Common.{◌≡◌, ℕ, zero, suc, ◌<◌, true, false, Bool, List, [], ◌∷◌, ◌++◌, length, take, slice_index_or, refl, sym, ◌∙◌, ap, arith}
use Rattle.std.specs.Prelude.{if◌then◌else◌, codes}
use Rattle.std.specs.List.{flat_map}
use Rattle.std.proofs.lemmas.Bool.{false≢true}
use Rattle.cp_term.specs.declared.cell.Cell.{Cell}
use Rattle.cp_term.specs.declared.cell.Cell.TheVariants.{Var, Int, Atom, Func}
use Rattle.cp_term.specs.Preorder.{is_terms}
use Rattle.cp_goal.specs.Folds.{of_terms}
use Rattle.cp_goal.specs.Builtins.{is_atom}
use Rattle.cp_heap.specs.declared.reference.Ref.{Ref}
use Rattle.cp_heap.specs.State.{State, instance_at}
use Rattle.cp_heap.specs.Looks.{name_of}
use Rattle.cp_code.specs.Bodies.{is, Seen, Peeled, as_it_is, seen_in, peeled_pair, peeled_cells, peeled_of, seen_from}
use Rattle.cp_code.specs.Requests.{has_module}
use Rattle.cp_request.specs.Shapes.{has_name, HasNoArguments, IsPair, IsQualified}
use Rattle.cp_request.proofs.Terms.{atom_alone}
use Rattle.cp_request.proofs.Folds.{of_one, length-arguments, cells_of_one}

unpeeled : List Cell → Peeled
unpeeled cells = record { cells = cells; seen = as_it_is cells }

term_peeled : List Cell → Peeled
term_peeled cells = slice_index_or (of_terms peeled_of cells) 0 (unpeeled cells)

term_peeled-cells : (cells : List Cell) → is_terms 1 cells ≡ true → (term_peeled cells).cells ≡ cells
unfolding term_peeled
term_peeled-cells cells h = cells_of_one peeled_of (λ (p : Peeled). p.cells) (λ c parts. refl) (unpeeled cells) cells h

-- ---- no module in front

no_module : (cells : List Cell) (f m : List ℕ) (first : List Cell) (seen : List ℕ → Seen) → ((n : List ℕ) → first ≡ Atom n ∷ [] → is f ":" ≡ false) → (t : Bool) → is f ":" ≡ t → (if t then seen_in cells first seen m else as_it_is cells m) ≡ as_it_is cells m
no_module cells f m first seen none false e = refl
no_module cells f m [] seen none true e = refl
no_module cells f m (Var v ∷ first) seen none true e = refl
no_module cells f m (Int i ∷ first) seen none true e = refl
no_module cells f m (Func g k ∷ first) seen none true e = refl
no_module cells f m (Atom a ∷ c ∷ first) seen none true e = refl
no_module cells f m (Atom a ∷ []) seen none true e = absurd (false≢true (sym (none a refl) ∙ e))

pair-other : (f : List ℕ) (cells : List Cell) (parts : List Peeled) (m : List ℕ) → ((a b : Peeled) → parts ≡ a ∷ b ∷ [] → (n : List ℕ) → a.cells ≡ Atom n ∷ [] → is f ":" ≡ false) → peeled_pair f cells parts m ≡ as_it_is cells m
pair-other f cells [] m none = refl
pair-other f cells (a ∷ []) m none = refl
pair-other f cells (a ∷ b ∷ []) m none = no_module cells f m a.cells b.seen (none a b refl) (is f ":") refl
pair-other f cells (a ∷ b ∷ c ∷ parts) m none = refl

module-of-pair : (f : List ℕ) (k : ℕ) (rest : List Cell) → is_terms 1 (Func f k ∷ rest) ≡ true → has_module (Func f k ∷ rest) ≡ false → (a b : Peeled) → take k (of_terms peeled_of rest) ≡ a ∷ b ∷ [] → (n : List ℕ) → a.cells ≡ Atom n ∷ [] → is f ":" ≡ false
unfolding term_peeled
module-of-pair f k rest h none a b e n atom =
    let two : 2 ≡ k = sym (ap length e) ∙ length-arguments peeled_of f k rest h in
    let cells : Func f k ∷ flat_map (λ (p : Peeled). p.cells) (take k (of_terms peeled_of rest)) ≡ Func f k ∷ rest = term_peeled-cells (Func f k ∷ rest) h in
    let shape : Func f 2 ∷ Atom n ∷ (b.cells ++ []) ≡ Func f k ∷ rest =
    ap (λ cs. Func f 2 ∷ cs ++ (b.cells ++ [])) (sym atom) ∙ ap (λ j. Func f j ∷ a.cells ++ (b.cells ++ [])) two ∙ ap (λ ps. Func f k ∷ flat_map (λ (p : Peeled). p.cells) ps) (sym e) ∙ cells in
    ap has_module shape ∙ none

pub seen-other : (m : List ℕ) (cells : List Cell) → is_terms 1 cells ≡ true → has_module cells ≡ false → seen_from m cells ≡ as_it_is cells m
unfolding seen_from term_peeled unpeeled
seen-other m [] h none = absurd (false≢true h)
seen-other m (Var v ∷ rest) h none = ap (λ cs. as_it_is cs m) (term_peeled-cells (Var v ∷ rest) h)
seen-other m (Int i ∷ rest) h none = ap (λ cs. as_it_is cs m) (term_peeled-cells (Int i ∷ rest) h)
seen-other m (Atom a ∷ rest) h none = ap (λ cs. as_it_is cs m) (term_peeled-cells (Atom a ∷ rest) h)
seen-other m (Func f k ∷ rest) h none =
    pair-other f (peeled_cells (Func f k) (take k (of_terms peeled_of rest))) (take k (of_terms peeled_of rest)) m (module-of-pair f k rest h none)
    ∙ ap (λ cs. as_it_is cs m) (term_peeled-cells (Func f k ∷ rest) h)

-- ---- a module in front

pub seen-inner : (m f inner : List ℕ) (goal : List Cell) → is f ":" ≡ true → is_terms 1 goal ≡ true → seen_from m (Func f 2 ∷ Atom inner ∷ goal) ≡ seen_from inner goal
unfolding seen_from term_peeled unpeeled
seen-inner m f inner goal named h =
    let parts : Peeled → List Peeled = λ p. peeled_of (Atom inner) [] ∷ p ∷ [] in
    ap (λ ps. peeled_pair f (peeled_cells (Func f 2) (take 2 (peeled_of (Atom inner) [] ∷ ps))) (take 2 (peeled_of (Atom inner) [] ∷ ps)) m) (of_one peeled_of (unpeeled goal) goal h)
    ∙ ap (λ t. if t then (term_peeled goal).seen inner else as_it_is (peeled_cells (Func f 2) (parts (term_peeled goal))) m) named

-- ---- at a place of the heap

pub no_pair-module : (cells : List Cell) → HasNoArguments 2 cells → has_module cells ≡ false
no_pair-module [] none = refl
no_pair-module (Var v ∷ rest) none = refl
no_pair-module (Int i ∷ rest) none = refl
no_pair-module (Atom a ∷ rest) none = refl
no_pair-module (Func f zero ∷ rest) none = refl
no_pair-module (Func f (suc zero) ∷ rest) none = refl
no_pair-module (Func f (suc (suc zero)) ∷ rest) none = absurd (none f rest refl)
no_pair-module (Func f (suc (suc (suc k))) ∷ rest) none = refl

other-name : (f : List ℕ) (cells : List Cell) → is f ":" ≡ false → has_module (Func f 2 ∷ cells) ≡ false
other-name f [] e = refl
other-name f (Var v ∷ cells) e = refl
other-name f (Int i ∷ cells) e = refl
other-name f (Atom a ∷ cells) e = e
other-name f (Func g k ∷ cells) e = refl

other-first : (f : List ℕ) (a b : List Cell) → is_terms 1 a ≡ true → is_atom a ≡ false → has_module (Func f 2 ∷ a ++ b) ≡ false
other-first f [] b h e = absurd (false≢true h)
other-first f (Var v ∷ a) b h e = refl
other-first f (Int i ∷ a) b h e = refl
other-first f (Atom n ∷ a) b h e = absurd (false≢true (sym e))
other-first f (Func g k ∷ a) b h e = refl

named-pair : (h : State) (at : Ref) (p : Ref × Ref) (t : Bool) (u : IsPair h at p) → has_name (codes ":") (name_of (instance_at h at.at)) ≡ t → is u.name ":" ≡ t
named-pair h at p t u e = sym (ap (λ cs. has_name (codes ":") (name_of cs)) u.shape) ∙ e

pub unnamed : (h : State) (at : Ref) (p : Ref × Ref) → IsPair h at p → has_name (codes ":") (name_of (instance_at h at.at)) ≡ false → has_module (instance_at h at.at) ≡ false
unnamed h at p u e = ap has_module u.shape ∙ other-name u.name (instance_at h p.0.at ++ instance_at h p.1.at) (named-pair h at p false u e)

pub unqualified : (h : State) (at : Ref) (p : Ref × Ref) → IsPair h at p → is_atom (instance_at h p.0.at) ≡ false → has_module (instance_at h at.at) ≡ false
unqualified h at p u e = ap has_module u.shape ∙ other-first u.name (instance_at h p.0.at) (instance_at h p.1.at) u.first_term e

pub is_qualified : (h : State) (at : Ref) (p : Ref × Ref) → IsPair h at p → has_name (codes ":") (name_of (instance_at h at.at)) ≡ true → is_atom (instance_at h p.0.at) ≡ true → IsQualified h at p
is_qualified h at p u named atom =
    let inner = atom_alone (instance_at h p.0.at) u.first_term atom in
    record {
      colon = u.name;
      inner = inner.0;
      named = named-pair h at p true u named;
      module_is = inner.1;
      shape = u.shape ∙ ap (λ cs. Func u.name 2 ∷ cs ++ instance_at h p.1.at) inner.1;
      goal_term = u.second_term;
      module_place = u.first_place;
      goal_place = u.second_place;
    }

pub seen-step : (h : State) (at : Ref) (p : Ref × Ref) (m : List ℕ) (q : IsQualified h at p) → seen_from m (instance_at h at.at) ≡ seen_from q.inner (instance_at h p.1.at)
seen-step h at p m q = ap (seen_from m) q.shape ∙ seen-inner m q.colon q.inner (instance_at h p.1.at) q.named q.goal_term

pub qualified-fewer : (h : State) (at : Ref) (p : Ref × Ref) → IsQualified h at p → length (instance_at h p.1.at) < length (instance_at h at.at)
qualified-fewer h at p q = let n : length (instance_at h at.at) ≡ suc (suc (length (instance_at h p.1.at))) = ap length q.shape in omega arith
