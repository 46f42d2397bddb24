-- How a line grows by its parts.
use Rattle.std.proofs.Common.{◌≡◌, ℕ, ◌+◌, ◌<◌, max, List, [], ◌∷◌, ◌++◌, take, length, get_or, map, refl, sym, ap, subst, ◌∙◌, append_assoc, add_assoc, add-zero, zero-add, arith}
use Rattle.std.specs.Prelude.{Result, Ok, Err, OnOk}
use Rattle.std.proofs.lemmas.List.{append-nil, map-append, take_more}
use Rattle.cp_term.specs.declared.cell.Cell.{Cell}
use Rattle.cp_term.specs.declared.cell.Cell.TheVariants.{Var, Int, Atom, Func}
use Rattle.cp_term.specs.Numbering.{fresh, renamed, next_variable}
use Rattle.cp_log_text.specs.declared.line.Line.{Line}
use Rattle.cp_log_text.specs.Line.{apart_from, variables_in, term_with, functor, element_parts}
use Rattle.cp_log_text.specs.Building.{Gains}

apart_from-append : (n : ℕ) (ps qs : List (List Cell)) → apart_from n (ps ++ qs) ≡ apart_from n ps ++ apart_from (n + variables_in ps) qs
apart_from-append n [] qs = ap (λ (k : ℕ). apart_from k qs) (sym (add-zero n))
apart_from-append n (p ∷ ps) qs =
    ap
    (λ (t : List Cell). fresh n p ++ t)
    (apart_from-append (n + next_variable p) ps qs
    ∙ ap (λ (k : ℕ). apart_from (n + next_variable p) ps ++ apart_from k qs) (add_assoc n (next_variable p) (variables_in ps)))
    ∙ sym (append_assoc (fresh n p) (apart_from (n + next_variable p) ps) (apart_from (n + (next_variable p + variables_in ps)) qs))

variables_in-append : (ps qs : List (List Cell)) → variables_in (ps ++ qs) ≡ variables_in ps + variables_in qs
variables_in-append [] qs = sym (zero-add (variables_in qs))
variables_in-append (p ∷ ps) qs =
    ap (λ (k : ℕ). next_variable p + k) (variables_in-append ps qs) ∙ sym (add_assoc (next_variable p) (variables_in ps) (variables_in qs))

-- first these parts, and then those
pub both : {a b c : Line} {ps qs : List (List Cell)} → Gains a b ps → Gains b c qs → Gains a c (ps ++ qs)
both {a} {b} {c} {ps} {qs} g h = record {
  cells =
      h.cells
      ∙ (λ i. g.cells i ++ apart_from (g.next i) qs)
      ∙ append_assoc a.cells (apart_from a.next ps) (apart_from (a.next + variables_in ps) qs)
      ∙ ap (λ (t : List Cell). a.cells ++ t) (sym (apart_from-append a.next ps qs));
  next =
      h.next
      ∙ ap (λ (k : ℕ). k + variables_in qs) g.next
      ∙ add_assoc a.next (variables_in ps) (variables_in qs)
      ∙ ap (λ (k : ℕ). a.next + k) (sym (variables_in-append ps qs));
}

pub first : {a b c : Line} {p : List Cell} {qs : List (List Cell)} → Gains a b (p ∷ []) → Gains b c qs → Gains a c (p ∷ qs)
first g h = both g h

pub nothing : (a : Line) → Gains a a []
nothing a = record { cells = sym (append-nil a.cells); next = sym (add-zero a.next) }

-- the same parts, told otherwise
pub same : {a b : Line} {ps qs : List (List Cell)} → Gains a b ps → ps ≡ qs → Gains a b qs
same {a} {b} g e = subst (λ (rs : List (List Cell)). Gains a b rs) e g

-- a line that began with nothing
pub whole : {a b : Line} (ps : List (List Cell)) → a.cells ≡ [] → a.next ≡ 0 → Gains a b ps → b.cells ≡ term_with ps
whole {a} {b} ps e z g = g.cells ∙ (λ i. e i ++ apart_from (z i) ps)

next_variable-snoc : (cells : List Cell) (c : Cell) → next_variable (cells ++ c ∷ []) ≡ max (next_variable cells) (next_variable (c ∷ []))
next_variable-snoc [] c = omega arith
next_variable-snoc (Var v ∷ cells) c = let e = next_variable-snoc cells c in omega arith
next_variable-snoc (Int i ∷ cells) c = next_variable-snoc cells c
next_variable-snoc (Atom a ∷ cells) c = next_variable-snoc cells c
next_variable-snoc (Func f k ∷ cells) c = next_variable-snoc cells c

next_shifted : (n m : ℕ) (c : Cell) → max (n + m) (next_variable (renamed (λ v. v + n) c ∷ [])) ≡ n + max m (next_variable (c ∷ []))
next_shifted n m (Var v) = omega arith
next_shifted n m (Int i) = omega arith
next_shifted n m (Atom a) = omega arith
next_shifted n m (Func f k) = omega arith

-- one cell more of a term
pub longer : {a b c : Line} {done : List Cell} (cell : Cell)
    → Gains a b (done ∷ []) → c.cells ≡ b.cells ++ renamed (λ v. v + a.next) cell ∷ [] → c.next ≡ max b.next (next_variable (renamed (λ v. v + a.next) cell ∷ []))
    → Gains a c ((done ++ cell ∷ []) ∷ [])
longer {a} {b} {c} {done} cell g e n =
    let here : List Cell = renamed (λ v. v + a.next) cell ∷ [] in
    record {
      cells =
          e
          ∙ (λ i. (g.cells ∙ ap (λ (t : List Cell). a.cells ++ t) (append-nil (fresh a.next done))) i ++ here)
          ∙ append_assoc a.cells (fresh a.next done) here
          ∙ ap (λ (t : List Cell). a.cells ++ t) (sym (map-append (renamed (λ v. v + a.next)) done (cell ∷ [])) ∙ sym (append-nil (fresh a.next (done ++ cell ∷ []))));
      next =
          n
          ∙ (λ i. max ((g.next ∙ ap (λ (k : ℕ). a.next + k) (add-zero (next_variable done))) i) (next_variable here))
          ∙ next_shifted a.next (next_variable done) cell
          ∙ ap (λ (k : ℕ). a.next + k) (sym (next_variable-snoc done cell) ∙ sym (add-zero (next_variable (done ++ cell ∷ []))));
    }

-- a line that grew unless memory was short, by the same parts told otherwise
pub same_if : {T E : Type 0} (r : Result T E) (a b : Line) {ps qs : List (List Cell)} → OnOk r (Gains a b ps) → ps ≡ qs → OnOk r (Gains a b qs)
same_if (Ok u) a b g e = same g e
same_if (Err x) a b g e = tt

-- the items of a list before the place i, and the one there
pub taken : {X : Type 0} (xs : List X) (i : ℕ) (x : X) → x ≡ get_or xs i x → i < length xs → take i xs ++ x ∷ [] ≡ take (i + 1) xs
taken {X} xs i x e h = ap (λ (y : X). take i xs ++ y ∷ []) e ∙ sym (take_more xs i x h)

-- one element more of a list
elements_snoc : (ts : List (List Cell)) (t : List Cell) → element_parts ts ++ (functor "." 2 ∷ t ∷ []) ≡ element_parts (ts ++ t ∷ [])
elements_snoc [] t = refl
elements_snoc (u ∷ ts) t = ap (λ (ps : List (List Cell)). functor "." 2 ∷ u ∷ ps) (elements_snoc ts t)

pub more_elements : {a b c : Line} (ts : List (List Cell)) (t : List Cell) → Gains a b (element_parts ts) → Gains b c (functor "." 2 ∷ t ∷ []) → Gains a c (element_parts (ts ++ t ∷ []))
more_elements {a} {b} {c} ts t g h = subst (λ (ps : List (List Cell)). Gains a c ps) (elements_snoc ts t) (both g h)

pub more_mapped : {X : Type 0} {a b c : Line} (f : X → List Cell) (xs : List X) (x : X)
    → Gains a b (element_parts (map f xs)) → Gains b c (functor "." 2 ∷ f x ∷ []) → Gains a c (element_parts (map f (xs ++ x ∷ [])))
more_mapped {X} {a} {b} {c} f xs x g h =
    subst (λ (ts : List (List Cell)). Gains a c (element_parts ts)) (sym (map-append f xs (x ∷ []))) (more_elements (map f xs) (f x) g h)
