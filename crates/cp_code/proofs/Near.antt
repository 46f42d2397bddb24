-- What a test of a term by the clauses of a type asks of other terms: they are parts of the term, or the term itself. So two
-- tests that are related there give related answers.
use Rattle.std.proofs.Common.{◌≡◌, refl, ap, subst, ◌∙◌, ℕ, zero, suc, ◌+◌, ◌<◌, ◌≤◌, ◌⊎◌, inl, inr, Bool, true, false, List, [], ◌∷◌, Option, Some, None, length, take, drop, arith, length-append}
use Rattle.std.specs.Prelude.{cond, ◌||◌, nat_eq, slice_index_or, codes}
use Rattle.std.specs.List.{flat_map, list_all, list_any}
use Rattle.std.specs.Str.{bytes_eq}
use Rattle.std.proofs.lemmas.Bool.{and_parts, and_from}
use Rattle.cp_term.specs.declared.cell.Cell.{Cell}
use Rattle.cp_term.specs.declared.cell.Cell.TheVariants.{Var, Int, Atom, Func}
use Rattle.cp_term.specs.CellEq.{cell_eq}
use Rattle.cp_term.specs.Preorder.{arity_of, terms_after, take_terms, drop_terms, arguments}
use Rattle.cp_goal.specs.Folds.{of_terms}
use Rattle.cp_goal.specs.Lists.{Spine, Proper, Partial, Improper, Listed, longer, compound_spine, spine_of, listed_of, spine}
use Rattle.cp_code.specs.Bodies.{is, seen_from}
use Rattle.cp_code.specs.Properties.{Place, with_place, matched, term_at, clause_of, TypeRow, row_named, Test, all_pass, first_name, variable_term, passes, demand_met, goal_met, body_met, fits_places, fits_clause, has_row, test_by}

-- s is t or shorter
abbrev pub Near : List Cell → List Cell → Type 0
Near t s = (s ≡ t) ⊎ (length s < length t)

pub near_length : (t s : List Cell) → Near t s → length s ≤ length t
near_length t s (inl e) = let k : length s ≡ length t = ap length e in omega arith
near_length t s (inr lt) = omega arith

-- ---- parts of lists of terms

taken_near : (n : ℕ) (cells : List Cell) → Near cells (take_terms n cells)
taken_near zero [] = inl refl
taken_near zero (c ∷ cells) = inr (omega arith)
taken_near (suc n) [] = inl refl
taken_near (suc n) (c ∷ cells) =
    elim (taken_near (terms_after c n) cells) [
      | inl e ↦ inl (ap (λ ds. c ∷ ds) e)
      | inr lt ↦ inr (omega arith)
    ]

dropped_length : (n : ℕ) (cells : List Cell) → length (drop_terms n cells) ≤ length cells
dropped_length zero cells = omega arith
dropped_length (suc n) [] = omega arith
dropped_length (suc n) (c ∷ cells) = let h : length (drop_terms (terms_after c n) cells) ≤ length cells = dropped_length (terms_after c n) cells in omega arith

-- what is near the rest of the terms is near all of them
behind_near : (cells s : List Cell) → Near (drop_terms 1 cells) s → Near cells s
behind_near [] s h = h
behind_near (c ∷ cells) s h =
    let a : length s ≤ length (drop_terms (terms_after c 0) cells) = near_length (drop_terms (terms_after c 0) cells) s h in
    let b : length (drop_terms (terms_after c 0) cells) ≤ length cells = dropped_length (terms_after c 0) cells in
    inr (omega arith)

-- ---- the places of a pattern

abbrev AreNear : List Cell → List Place → Type 0
AreNear t [] = Unit {0}
AreNear t (p ∷ places) = Near t p.term × AreNear t places

abbrev ArePlaced : List Cell → Option (List Place) → Type 0
ArePlaced t None = Unit {0}
ArePlaced t (Some places) = AreNear t places

are_near : (t u : List Cell) → ((s : List Cell) → Near u s → Near t s) → (places : List Place) → AreNear u places → AreNear t places
are_near t u f [] h = tt
are_near t u f (p ∷ places) h = (f p.term h.0, are_near t u f places h.1)

are_placed : (t u : List Cell) → ((s : List Cell) → Near u s → Near t s) → (o : Option (List Place)) → ArePlaced u o → ArePlaced t o
are_placed t u f None h = tt
are_placed t u f (Some places) h = are_near t u f places h

with_near : (t : List Cell) (v : ℕ) (s : List Cell) → Near t s → (o : Option (List Place)) → ArePlaced t o → ArePlaced t (with_place v s o)
with_near t v s near None h = tt
with_near t v s near (Some places) h = (near, h)

placed_if : (t : List Cell) (b : Bool) (o : Option (List Place)) → ArePlaced t o → ArePlaced t (cond b o None)
placed_if t true o h = h
placed_if t false o h = tt

behind_cell : (d : Cell) (terms s : List Cell) → Near terms s → Near (d ∷ terms) s
behind_cell d terms s h = let k : length s ≤ length terms = near_length terms s h in inr (omega arith)

matched_near : (pattern t : List Cell) → ArePlaced t (matched pattern t)
matched_near [] t = tt
matched_near (Var v ∷ pattern) t =
    with_near t v (take_terms 1 t) (taken_near 1 t) (matched pattern (drop_terms 1 t))
    (are_placed t (drop_terms 1 t) (behind_near t) (matched pattern (drop_terms 1 t)) (matched_near pattern (drop_terms 1 t)))
matched_near (c ∷ pattern) [] = tt
matched_near (c ∷ pattern) (d ∷ terms) =
    placed_if (d ∷ terms) (cell_eq c d) (matched pattern terms)
    (are_placed (d ∷ terms) terms (behind_cell d terms) (matched pattern terms) (matched_near pattern terms))

-- ---- the elements of a list

abbrev AreBelow : ℕ → List (List Cell) → Type 0
AreBelow n [] = Unit {0}
AreBelow n (t ∷ ts) = (length t < n) × AreBelow n ts

below_more : (m n : ℕ) → m ≤ n → (ts : List (List Cell)) → AreBelow m ts → AreBelow n ts
below_more m n le [] h = tt
below_more m n le (t ∷ ts) h = (let k : length t < m = h.0 in omega arith, below_more m n le ts h.1)

abbrev IsShort : ℕ → Spine → Type 0
IsShort n (Proper ts) = AreBelow n ts
IsShort n Partial = Unit {0}
IsShort n Improper = Unit {0}

short_more : (m n : ℕ) → m ≤ n → (s : Spine) → IsShort m s → IsShort n s
short_more m n le (Proper ts) h = below_more m n le ts h
short_more m n le Partial h = tt
short_more m n le Improper h = tt

short_if : (n : ℕ) (b : Bool) (s : Spine) → IsShort n s → IsShort n (cond b s Improper)
short_if n true s h = h
short_if n false s h = tt

abbrev AreShort : List Listed → Type 0
AreShort [] = Unit {0}
AreShort (l ∷ ls) = IsShort (length l.cells) l.spine × AreShort ls

abbrev size : List Listed → ℕ
size [] = 0
size (l ∷ ls) = length l.cells + size ls

short_taken : (k : ℕ) (ls : List Listed) → AreShort ls → AreShort (take k ls)
short_taken zero ls h = tt
short_taken (suc k) [] h = tt
short_taken (suc k) (l ∷ ls) h = (h.0, short_taken k ls h.1)

short_dropped : (k : ℕ) (ls : List Listed) → AreShort ls → AreShort (drop k ls)
short_dropped zero ls h = h
short_dropped (suc k) [] h = tt
short_dropped (suc k) (l ∷ ls) h = short_dropped k ls h.1

size_split : (k : ℕ) (ls : List Listed) → size (take k ls) + size (drop k ls) ≡ size ls
size_split zero ls = omega arith
size_split (suc k) [] = refl
size_split (suc k) (l ∷ ls) = let h : size (take k ls) + size (drop k ls) ≡ size ls = size_split k ls in omega arith

size_flat : (ls : List Listed) → length (flat_map (λ (l : Listed). l.cells) ls) ≡ size ls
size_flat [] = refl
size_flat (l ∷ ls) =
    let h : length (flat_map (λ (l : Listed). l.cells) ls) ≡ size ls = size_flat ls in
    length-append l.cells (flat_map (λ (l : Listed). l.cells) ls) ∙ ap (λ n. length l.cells + n) h

longer_short : (n : ℕ) (head : List Cell) (s : Spine) → length head < n → IsShort n s → IsShort n (longer head s)
longer_short n head (Proper ts) lt h = (lt, h)
longer_short n head Partial lt h = tt
longer_short n head Improper lt h = tt

compound_short : (f : List ℕ) (ls : List Listed) → AreShort ls → IsShort (suc (size ls)) (compound_spine f ls)
compound_short f [] h = tt
compound_short f (a ∷ []) h = tt
compound_short f (a ∷ b ∷ []) h =
    short_if (suc (size (a ∷ b ∷ []))) (bytes_eq f (codes ".")) (longer a.cells b.spine)
    (longer_short (suc (size (a ∷ b ∷ []))) a.cells b.spine (omega arith) (short_more (length b.cells) (suc (size (a ∷ b ∷ []))) (omega arith) b.spine h.1.0))
compound_short f (a ∷ b ∷ l ∷ ls) h = tt

atom_short : (b : Bool) → IsShort 1 (cond b (Proper []) Improper)
atom_short true = tt
atom_short false = tt

spine_short : (c : Cell) (ls : List Listed) → AreShort ls → IsShort (suc (size ls)) (spine_of c ls)
spine_short (Var v) ls h = tt
spine_short (Int i) ls h = tt
spine_short (Atom a) ls h = short_more 1 (suc (size ls)) (omega arith) _ (atom_short (bytes_eq a (codes "[]")))
spine_short (Func f k) ls h = compound_short f ls h

terms_short : (cells : List Cell) → AreShort (of_terms listed_of cells)
terms_short [] = tt
terms_short (c ∷ cells) =
    let ls : List Listed = take (arity_of c) (of_terms listed_of cells) in
    let e : length (flat_map (λ (l : Listed). l.cells) (take (arity_of c) (of_terms listed_of cells))) ≡ size (take (arity_of c) (of_terms listed_of cells)) = size_flat (take (arity_of c) (of_terms listed_of cells)) in (
      short_more (suc (size (take (arity_of c) (of_terms listed_of cells)))) (length (c ∷ flat_map (λ (l : Listed). l.cells) (take (arity_of c) (of_terms listed_of cells)))) (omega arith) _
          (spine_short c (take (arity_of c) (of_terms listed_of cells)) (short_taken (arity_of c) (of_terms listed_of cells) (terms_short cells))),
      short_dropped (arity_of c) (of_terms listed_of cells) (terms_short cells),
    )

terms_size : (cells : List Cell) → size (of_terms listed_of cells) ≡ length cells
terms_size [] = refl
terms_size (c ∷ cells) =
    let h : size (of_terms listed_of cells) ≡ length cells = terms_size cells in
    let e : length (flat_map (λ (l : Listed). l.cells) (take (arity_of c) (of_terms listed_of cells))) ≡ size (take (arity_of c) (of_terms listed_of cells)) = size_flat (take (arity_of c) (of_terms listed_of cells)) in
    let s : size (take (arity_of c) (of_terms listed_of cells)) + size (drop (arity_of c) (of_terms listed_of cells)) ≡ size (of_terms listed_of cells) = size_split (arity_of c) (of_terms listed_of cells) in
    omega arith

first_short : (ls : List Listed) → AreShort ls → IsShort (size ls) ((slice_index_or ls 0 (record { cells = []; spine = Improper })).spine)
first_short [] h = tt
first_short (l ∷ ls) h = short_more (length l.cells) (size (l ∷ ls)) (omega arith) l.spine h.0

-- the elements of a list are shorter than the list
elements_short : (t : List Cell) → IsShort (length t) (spine t)
elements_short t = subst (λ (n : ℕ). IsShort n (spine t)) (terms_size t) (first_short (of_terms listed_of t) (terms_short t))

-- ---- two tests

module _ (t : List Cell) (test test' : Test) (on : (name : List ℕ) (s : List Cell) → Near t s → test name s ≡ true → test' name s ≡ true) where
  all_on : (name : List ℕ) (ts : List (List Cell)) → AreBelow (length t) ts → list_all (test name) ts ≡ true → list_all (test' name) ts ≡ true
  all_on name [] h p = refl
  all_on name (s ∷ ts) h p =
      let parts = and_parts (test name s) (list_all (test name) ts) p in
      and_from (test' name s) (list_all (test' name) ts) (on name s (inr h.0) parts.0) (all_on name ts h.1 parts.1)

  spine_on : (name : List ℕ) (s : Spine) → IsShort (length t) s → all_pass test name s ≡ true → all_pass test' name s ≡ true
  spine_on name (Proper ts) h p = all_on name ts h p
  spine_on name Partial h p = p
  spine_on name Improper h p = p

  abbrev NearOption : Option (List Cell) → Type 0
  NearOption None = Unit {0}
  NearOption (Some s) = Near t s

  near_if : (b : Bool) (s : List Cell) (o : Option (List Cell)) → Near t s → NearOption o → NearOption (cond b (Some s) o)
  near_if true s o near h = near
  near_if false s o near h = h

  term_near : (v : ℕ) (places : List Place) → AreNear t places → NearOption (term_at v places)
  term_near v [] h = tt
  term_near v (p ∷ places) h = near_if (nat_eq v p.var) p.term (term_at v places) h.0 (term_near v places h.1)

  variable_near : (places : List Place) (y : List Cell) → AreNear t places → NearOption (variable_term places y)
  variable_near places (Var v ∷ cells) h = term_near v places h
  variable_near places y h = tt

  passes_on : (name : List ℕ) (o : Option (List Cell)) → NearOption o → passes (test name) o ≡ true → passes (test' name) o ≡ true
  passes_on name None h p = p
  passes_on name (Some s) h p = on name s h p

  elements_on : (name : List ℕ) (o : Option (List Cell)) → NearOption o → passes (λ s. all_pass test name (spine s)) o ≡ true → passes (λ s. all_pass test' name (spine s)) o ≡ true
  elements_on name None h p = p
  elements_on name (Some s) h p = spine_on name (spine s) (short_more (length s) (length t) (near_length t s h) (spine s) (elements_short s)) p

  demand_on : (places : List Place) → AreNear t places → (name : List ℕ) (parts : List (List Cell)) → demand_met test places name parts ≡ true → demand_met test' places name parts ≡ true
  demand_on places h name (y ∷ []) p = passes_on name (variable_term places y) (variable_near places y h) p
  demand_on places h name (y ∷ u ∷ []) p =
      let parts = and_parts (is name "list") (passes (λ s. all_pass test (first_name u) (spine s)) (variable_term places y)) p in
      and_from (is name "list") (passes (λ s. all_pass test' (first_name u) (spine s)) (variable_term places y)) parts.0
      (elements_on (first_name u) (variable_term places y) (variable_near places y h) parts.1)
  demand_on places h name parts p = p

  goal_on : (places : List Place) → AreNear t places → (cells : List Cell) → goal_met test places cells ≡ true → goal_met test' places cells ≡ true
  goal_on places h (Func f k ∷ cells) p = demand_on places h f (arguments (Func f k ∷ cells)) p
  goal_on places h cells p = p

  each_on : (f g : List Cell → Bool) → ((s : List Cell) → f s ≡ true → g s ≡ true) → (ts : List (List Cell)) → list_all f ts ≡ true → list_all g ts ≡ true
  each_on f g h [] p = refl
  each_on f g h (s ∷ ts) p = let parts = and_parts (f s) (list_all f ts) p in and_from (g s) (list_all g ts) (h s parts.0) (each_on f g h ts parts.1)

  either_on : (b x y x' y' : Bool) → (x ≡ true → x' ≡ true) → (y ≡ true → y' ≡ true) → cond b x y ≡ true → cond b x' y' ≡ true
  either_on true x y x' y' f g p = f p
  either_on false x y x' y' f g p = g p

  body_on : (places : List Place) → AreNear t places → (n : ℕ) (body : List Cell) → body_met n test places body ≡ true → body_met n test' places body ≡ true
  body_on places h zero body p = p
  body_on places h (suc n) (Func f (suc (suc zero)) ∷ cells) p =
      either_on (is f ",") _ _ _ _
      (each_on (body_met n test places) (body_met n test' places) (body_on places h n) (arguments (Func f 2 ∷ cells)))
      (goal_on places h ((seen_from [] (Func f 2 ∷ cells)).goal)) p
  body_on places h (suc n) body p = goal_on places h ((seen_from [] body).goal) p

  places_on : (body : List Cell) (o : Option (List Place)) → ArePlaced t o → fits_places test body o ≡ true → fits_places test' body o ≡ true
  places_on body None h p = p
  places_on body (Some places) h p = body_on places h (suc (length body)) body p

  any_on : (cs : List (List Cell)) → list_any (λ c. fits_clause test t (clause_of c)) cs ≡ true → list_any (λ c. fits_clause test' t (clause_of c)) cs ≡ true
  any_on [] p = p
  any_on (c ∷ cs) p =
      either_of (fits_clause test t (clause_of c)) (list_any (λ c. fits_clause test t (clause_of c)) cs) _ _
      (places_on (clause_of c).body (matched (clause_of c).pattern t) (matched_near (clause_of c).pattern t)) (any_on cs) p
    where
      either_of : (x y x' y' : Bool) → (x ≡ true → x' ≡ true) → (y ≡ true → y' ≡ true) → (x || y) ≡ true → (x' || y') ≡ true
      either_of true y x' y' f g p = ap (λ b. b || y') (f refl)
      either_of false y true y' f g p = refl
      either_of false y false y' f g p = g p

  -- what the clauses of a type say by one test they say by the other
  pub row_on : (o : Option TypeRow) → has_row test t o ≡ true → has_row test' t o ≡ true
  row_on None p = p
  row_on (Some r) p = any_on r.clauses p

  pub test_on : (types : List TypeRow) (o : Option Bool) (name : List ℕ) → test_by types test o name t ≡ true → test_by types test' o name t ≡ true
  test_on types (Some passed) name p = p
  test_on types None name p = row_on (row_named name types) p
