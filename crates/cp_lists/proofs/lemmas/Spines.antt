-- What a term is as a list, by its first cell and its arguments.
use Rattle.std.proofs.Common.{◌≡◌, ◌≢◌, ℕ, suc, ◌+◌, true, List, [], ◌∷◌, ◌++◌, length, take, drop, refl, sym, ◌∙◌, ap, subst, arith}
use Rattle.std.specs.Prelude.{Some, unwrap_or, slice_get, slice_index_or, if◌then◌else◌, codes}
use Rattle.std.specs.List.{flat_map}
use Rattle.std.specs.Str.{bytes_eq}
use Rattle.std.proofs.lemmas.Bool.{and_parts}
use Rattle.std.proofs.lemmas.List.{append-nil, length-take-le, take-append-drop}
use Rattle.std.proofs.lemmas.List.Concat.{flat_map-append}
use Rattle.std.proofs.Math.Nat.{add-zero}
use Rattle.cp_term.specs.declared.cell.Cell.{Cell}
use Rattle.cp_term.specs.declared.cell.Cell.TheVariants.{Func}
use Rattle.cp_term.specs.Preorder.{arity_of, has_arity, is_terms, take_terms, drop_terms, arguments}
use Rattle.cp_term.proofs.lemmas.PreorderLaws.{take_terms-append, take_terms-drop_terms, is_terms-take_terms, is_terms-drop_terms}
use Rattle.cp_goal.specs.Folds.{of_terms}
use Rattle.cp_goal.proofs.lemmas.Folds.{length-of_terms, of_terms-append}
use Rattle.cp_goal.specs.Lists.{Spine, Proper, Partial, Improper, Listed, longer, compound_spine, spine_of, listed_of, spine}
use Rattle.cp_lists.specs.Steps.{behind}

-- the cells of the terms are all cells
cells_of_all : (cells : List Cell) → flat_map (λ (t : Listed). t.cells) (of_terms listed_of cells) ≡ cells
cells_of_all [] = refl
cells_of_all (c ∷ cells) =
    let ts = of_terms listed_of cells in
    let f = λ (t : Listed). t.cells in
    ap (λ xs. c ∷ xs)
    (sym (flat_map-append f (take (arity_of c) ts) (drop (arity_of c) ts)) ∙ ap (flat_map f) (take-append-drop (arity_of c) ts) ∙ cells_of_all cells)

none : Listed
none = record { cells = []; spine = Improper }

only : (ts : List Listed) → length ts ≡ 1 → ts ≡ slice_index_or ts 0 (record { cells = []; spine = Improper }) ∷ []
only [] e = let n : ◌≡◌ {A = ℕ} 0 1 = e in absurd (omega arith)
only (t ∷ []) e = refl
only (t ∷ u ∷ ts) e = let n : suc (suc (length ts)) ≡ 1 = e in absurd (omega arith)

one_spine : (ts : List Listed) (cells : List Cell) → length ts ≡ 1 → flat_map (λ (t : Listed). t.cells) ts ≡ cells
    → ts ≡ (record { cells = cells; spine = (slice_index_or ts 0 (record { cells = []; spine = Improper })).spine }) ∷ []
one_spine [] cells e all = let n : ◌≡◌ {A = ℕ} 0 1 = e in absurd (omega arith)
one_spine (t ∷ []) cells e all =
    let same : t.cells ≡ cells = sym (append-nil t.cells) ∙ all in
    ap (λ (cs : List Cell). (record { cells = cs; spine = t.spine }) ∷ []) same
one_spine (t ∷ u ∷ ts) cells e all = let n : suc (suc (length ts)) ≡ 1 = e in absurd (omega arith)

-- one term is listed with its own cells and its own spine
pub listed_of_one : (cells : List Cell) → is_terms 1 cells ≡ true → of_terms listed_of cells ≡ (record { cells = cells; spine = spine cells }) ∷ []
listed_of_one cells h = one_spine (of_terms listed_of cells) cells (length-of_terms listed_of 1 cells h) (cells_of_all cells)

pub spine-pair : (f : List ℕ) (a b : List Cell) → is_terms 1 a ≡ true → is_terms 1 b ≡ true
    → spine (Func f 2 ∷ a ++ b) ≡ (if bytes_eq f (codes ".") then longer a (spine b) else Improper)
spine-pair f a b ha hb =
    ap (λ ts. spine_of (Func f 2) (take 2 ts))
    (of_terms-append listed_of 1 a b ha
    ∙ ap (λ ts. ts ++ of_terms listed_of b) (listed_of_one a ha)
    ∙ ap (λ ts. (record { cells = a; spine = spine a }) ∷ ts) (listed_of_one b hb))

-- what stands behind a functor of two arguments is these
pub record AreTwo (rest a b : List Cell) : Type 0 where
  pub first : is_terms 1 a ≡ true
  pub second : is_terms 1 b ≡ true
  pub are : rest ≡ a ++ b

whole : (cells : List Cell) → is_terms 1 cells ≡ true → take_terms 1 cells ≡ cells
whole cells h = subst (λ cs. take_terms 1 cs ≡ cells) (append-nil cells) (take_terms-append 1 cells [] h)

pub two : (f : List ℕ) (rest a b : List Cell) → is_terms 1 (Func f 2 ∷ rest) ≡ true → slice_get (arguments (Func f 2 ∷ rest)) 0 ≡ Some a → slice_get (arguments (Func f 2 ∷ rest)) 1 ≡ Some b → AreTwo rest a b
two f rest a b h at_first at_second =
    let inner : is_terms 2 rest ≡ true = h in
    let first : Some (take_terms 1 rest) ≡ Some a = at_first in
    let second : Some (take_terms 1 (drop_terms 1 rest)) ≡ Some b = at_second in
    let ha : is_terms 1 (take_terms 1 rest) ≡ true = is_terms-take_terms 1 1 rest inner in
    let hb : is_terms 1 (drop_terms 1 rest) ≡ true = is_terms-drop_terms 1 1 rest inner in
    let is_a : take_terms 1 rest ≡ a = ap (λ o. unwrap_or o []) first in
    let is_b : drop_terms 1 rest ≡ b = sym (whole (drop_terms 1 rest) hb) ∙ ap (λ o. unwrap_or o []) second in
    record {
      first = subst (λ cs. is_terms 1 cs ≡ true) is_a ha;
      second = subst (λ cs. is_terms 1 cs ≡ true) is_b hb;
      are = sym (take_terms-drop_terms 1 rest) ∙ ap (λ xs. xs ++ drop_terms 1 rest) is_a ∙ ap (λ xs. a ++ xs) is_b;
    }

-- a compound of any other number of arguments
other_spines : (f : List ℕ) (ts : List Listed) → length ts ≢ 2 → compound_spine f ts ≡ Improper
other_spines f [] n = refl
other_spines f (x ∷ []) n = refl
other_spines f (x ∷ y ∷ []) n = absurd (n refl)
other_spines f (x ∷ y ∷ z ∷ ts) n = refl

pub spine-other : (f : List ℕ) (k : ℕ) (rest : List Cell) → is_terms 1 (Func f k ∷ rest) ≡ true → k ≢ 2 → spine (Func f k ∷ rest) ≡ Improper
spine-other f k rest h n =
    let inner : is_terms (k + 0) rest ≡ true = (and_parts (has_arity (Func f k)) (is_terms (k + 0) rest) h).1 in
    let all : length (of_terms listed_of rest) ≡ k = length-of_terms listed_of (k + 0) rest inner ∙ add-zero k in
    let taken : length (take k (of_terms listed_of rest)) ≡ k = length-take-le k (of_terms listed_of rest) (omega arith) in
    other_spines f (take k (of_terms listed_of rest)) (λ q. n (sym taken ∙ q))

-- ---- elements before what stands behind them

pub behind-push : (ts : List (List Cell)) (t : List Cell) (rest : Spine) → behind (ts ++ t ∷ []) rest ≡ behind ts (longer t rest)
behind-push [] t rest = refl
behind-push (u ∷ ts) t rest = ap (longer u) (behind-push ts t rest)

pub behind-nil : (ts : List (List Cell)) → behind ts (Proper []) ≡ Proper ts
behind-nil [] = refl
behind-nil (t ∷ ts) = ap (longer t) (behind-nil ts)

pub behind-partial : (ts : List (List Cell)) → behind ts Partial ≡ Partial
behind-partial [] = refl
behind-partial (t ∷ ts) = ap (longer t) (behind-partial ts)

pub behind-improper : (ts : List (List Cell)) → behind ts Improper ≡ Improper
behind-improper [] = refl
behind-improper (t ∷ ts) = ap (longer t) (behind-improper ts)
