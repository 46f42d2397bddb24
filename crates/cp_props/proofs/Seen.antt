-- What a goal is without the modules in front of it.
use Rattle.std.proofs.Common.{◌≡◌, ℕ, zero, suc, ◌+◌, ◌<◌, true, false, Bool, List, [], ◌∷◌, ◌++◌, length, take, drop, slice_index_or, refl, sym, ◌∙◌, ap, arith, append-nil, append_assoc}
use Rattle.std.specs.Prelude.{if◌then◌else◌}
use Rattle.std.specs.List.{flat_map}
use Rattle.std.proofs.lemmas.Bool.{and_parts, false≢true}
use Rattle.std.proofs.lemmas.List.{length-take-le}
use Rattle.cp_term.specs.declared.cell.Cell.{Cell}
use Rattle.cp_term.specs.declared.cell.Cell.TheVariants.{Var, Int, Atom, Func}
use Rattle.cp_term.specs.Preorder.{arity_of, has_arity, is_terms}
use Rattle.cp_goal.specs.Folds.{of_terms}
use Rattle.cp_goal.proofs.lemmas.Folds.{length-of_terms}
use Rattle.cp_code.specs.Bodies.{is, Seen, Peeled, as_it_is, seen_in, peeled_pair, peeled_cells, peeled_of, seen_from}
use Rattle.cp_code.specs.Requests.{has_module}

-- ---- a term and its arguments

unpeeled : List Cell → Peeled
unpeeled cells = record { cells = cells; seen = as_it_is cells }

one_of : (ps : List Peeled) (d : Peeled) → length ps ≡ 1 → ps ≡ slice_index_or ps 0 d ∷ []
one_of [] d e = absurd (omega arith)
one_of (p ∷ []) d e = refl
one_of (p ∷ q ∷ ps) d e = absurd (omega arith)

peeled_one : (cells : List Cell) → is_terms 1 cells ≡ true → of_terms peeled_of cells ≡ slice_index_or (of_terms peeled_of cells) 0 (unpeeled cells) ∷ []
peeled_one cells h = one_of (of_terms peeled_of cells) (unpeeled cells) (length-of_terms peeled_of 1 cells h)

take-drop-joined : (f : Peeled → List Cell) (k : ℕ) (ps : List Peeled) → flat_map f (take k ps) ++ flat_map f (drop k ps) ≡ flat_map f ps
take-drop-joined f zero ps = refl
take-drop-joined f (suc k) [] = refl
take-drop-joined f (suc k) (p ∷ ps) = append_assoc (f p) (flat_map f (take k ps)) (flat_map f (drop k ps)) ∙ ap (λ t. f p ++ t) (take-drop-joined f k ps)

own : Peeled → List Cell
own p = p.cells

cells_kept : (cells : List Cell) → flat_map own (of_terms peeled_of cells) ≡ cells
unfolding own
cells_kept [] = refl
cells_kept (c ∷ cells) = ap (λ t. c ∷ t) (take-drop-joined own (arity_of c) (of_terms peeled_of cells) ∙ cells_kept cells)

term_peeled : List Cell → Peeled
term_peeled cells = slice_index_or (of_terms peeled_of cells) 0 (unpeeled cells)

term_peeled-cells : (cells : List Cell) → is_terms 1 cells ≡ true → (term_peeled cells).cells ≡ cells
unfolding term_peeled own
term_peeled-cells cells h = sym (append-nil (term_peeled cells).cells) ∙ ap (flat_map own) (sym (peeled_one cells h)) ∙ cells_kept cells

length-arguments : (g : List ℕ) (k : ℕ) (rest : List Cell) → is_terms 1 (Func g k ∷ rest) ≡ true → length (take k (of_terms peeled_of rest)) ≡ k
length-arguments g k rest h =
    let parts = and_parts (has_arity (Func g k)) (is_terms (k + 0) rest) h in
    let all : length (of_terms peeled_of rest) ≡ k + 0 = length-of_terms peeled_of (k + 0) rest parts.1 in
    length-take-le k (of_terms peeled_of rest) (omega arith)

-- ---- no module in front

no_module : (cells : List Cell) (f m : List ℕ) (first : List Cell) (seen : List ℕ → Seen) → ((n : List ℕ) → first ≡ Atom n ∷ [] → is f ":" ≡ false) → (t : Bool) → is f ":" ≡ t → (if t then seen_in cells first seen m else as_it_is cells m) ≡ as_it_is cells m
no_module cells f m first seen none false e = refl
no_module cells f m [] seen none true e = refl
no_module cells f m (Var v ∷ first) seen none true e = refl
no_module cells f m (Int i ∷ first) seen none true e = refl
no_module cells f m (Func g k ∷ first) seen none true e = refl
no_module cells f m (Atom a ∷ c ∷ first) seen none true e = refl
no_module cells f m (Atom a ∷ []) seen none true e = absurd (false≢true (sym (none a refl) ∙ e))

pair-other : (f : List ℕ) (cells : List Cell) (parts : List Peeled) (m : List ℕ) → ((a b : Peeled) → parts ≡ a ∷ b ∷ [] → (n : List ℕ) → a.cells ≡ Atom n ∷ [] → is f ":" ≡ false) → peeled_pair f cells parts m ≡ as_it_is cells m
pair-other f cells [] m none = refl
pair-other f cells (a ∷ []) m none = refl
pair-other f cells (a ∷ b ∷ []) m none = no_module cells f m a.cells b.seen (none a b refl) (is f ":") refl
pair-other f cells (a ∷ b ∷ c ∷ parts) m none = refl

module-of-pair : (f : List ℕ) (k : ℕ) (rest : List Cell) → is_terms 1 (Func f k ∷ rest) ≡ true → has_module (Func f k ∷ rest) ≡ false → (a b : Peeled) → take k (of_terms peeled_of rest) ≡ a ∷ b ∷ [] → (n : List ℕ) → a.cells ≡ Atom n ∷ [] → is f ":" ≡ false
unfolding term_peeled
module-of-pair f k rest h none a b e n atom =
    let two : 2 ≡ k = sym (ap length e) ∙ length-arguments f k rest h in
    let cells : Func f k ∷ flat_map (λ (p : Peeled). p.cells) (take k (of_terms peeled_of rest)) ≡ Func f k ∷ rest = term_peeled-cells (Func f k ∷ rest) h in
    let shape : Func f 2 ∷ Atom n ∷ (b.cells ++ []) ≡ Func f k ∷ rest =
    ap (λ cs. Func f 2 ∷ cs ++ (b.cells ++ [])) (sym atom) ∙ ap (λ j. Func f j ∷ a.cells ++ (b.cells ++ [])) two ∙ ap (λ ps. Func f k ∷ flat_map (λ (p : Peeled). p.cells) ps) (sym e) ∙ cells in
    ap has_module shape ∙ none

pub seen-other : (m : List ℕ) (cells : List Cell) → is_terms 1 cells ≡ true → has_module cells ≡ false → seen_from m cells ≡ as_it_is cells m
unfolding seen_from term_peeled unpeeled
seen-other m [] h none = absurd (false≢true h)
seen-other m (Var v ∷ rest) h none = ap (λ cs. as_it_is cs m) (term_peeled-cells (Var v ∷ rest) h)
seen-other m (Int i ∷ rest) h none = ap (λ cs. as_it_is cs m) (term_peeled-cells (Int i ∷ rest) h)
seen-other m (Atom a ∷ rest) h none = ap (λ cs. as_it_is cs m) (term_peeled-cells (Atom a ∷ rest) h)
seen-other m (Func f k ∷ rest) h none =
    pair-other f (peeled_cells (Func f k) (take k (of_terms peeled_of rest))) (take k (of_terms peeled_of rest)) m (module-of-pair f k rest h none)
    ∙ ap (λ cs. as_it_is cs m) (term_peeled-cells (Func f k ∷ rest) h)

-- ---- a module in front

seen-inner : (m f inner : List ℕ) (goal : List Cell) → is f ":" ≡ true → is_terms 1 goal ≡ true → seen_from m (Func f 2 ∷ Atom inner ∷ goal) ≡ seen_from inner goal
unfolding seen_from term_peeled unpeeled
seen-inner m f inner goal named h =
    let parts : Peeled → List Peeled = λ p. peeled_of (Atom inner) [] ∷ p ∷ [] in
    ap (λ ps. peeled_pair f (peeled_cells (Func f 2) (take 2 (peeled_of (Atom inner) [] ∷ ps))) (take 2 (peeled_of (Atom inner) [] ∷ ps)) m) (peeled_one goal h)
    ∙ ap (λ t. if t then (term_peeled goal).seen inner else as_it_is (peeled_cells (Func f 2) (parts (term_peeled goal))) m) named

-- behind the module stands a goal, which its module sees
pub record Within (m : List ℕ) (cells : List Cell) : Type 0 where
  pub inner : List ℕ
  pub term : is_terms 1 (drop 2 cells) ≡ true
  pub seen : seen_from m cells ≡ seen_from inner (drop 2 cells)
  pub two : 2 < length cells

some_cells : (cells : List Cell) → is_terms 1 cells ≡ true → 0 < length cells
some_cells [] h = absurd (false≢true h)
some_cells (c ∷ cells) h = omega arith

pub within : (m : List ℕ) (cells : List Cell) → is_terms 1 cells ≡ true → has_module cells ≡ true → Within m cells
within m [] h q = absurd (false≢true q)
within m (Var v ∷ cells) h q = absurd (false≢true q)
within m (Int i ∷ cells) h q = absurd (false≢true q)
within m (Atom a ∷ cells) h q = absurd (false≢true q)
within m (Func f zero ∷ cells) h q = absurd (false≢true q)
within m (Func f (suc zero) ∷ cells) h q = absurd (false≢true q)
within m (Func f (suc (suc (suc k))) ∷ cells) h q = absurd (false≢true q)
within m (Func f (suc (suc zero)) ∷ []) h q = absurd (false≢true q)
within m (Func f (suc (suc zero)) ∷ Var v ∷ cells) h q = absurd (false≢true q)
within m (Func f (suc (suc zero)) ∷ Int i ∷ cells) h q = absurd (false≢true q)
within m (Func f (suc (suc zero)) ∷ Func g k ∷ cells) h q = absurd (false≢true q)
within m (Func f (suc (suc zero)) ∷ Atom a ∷ cells) h q =
    let some = some_cells cells h in
    record { inner = a; term = h; seen = seen-inner m f a cells q h; two = omega arith }
