-- What a compound is as a body, by what its arguments are.
use Rattle.std.proofs.Common.{◌≡◌, ℕ, zero, suc, ◌+◌, ◌-◌, ◌<◌, ◌≤◌, true, false, Bool, Some, None, List, [], ◌∷◌, ◌++◌, map, length, take, drop, get_or, slice_index_or, refl, sym, ◌∙◌, ap, append_assoc, append-nil, arith, length-drop, drop-cons}
use Rattle.std.specs.Prelude.{ℤ, ◌&&◌, nat_le, if◌then◌else◌}
use Rattle.std.specs.List.{flat_map}
use Rattle.std.proofs.lemmas.Bool.{and_parts, false≢true, le-leb, lt-leb}
use Rattle.std.proofs.lemmas.List.{take-append-le, drop-append-le, length-take-le}
use Rattle.cp_term.specs.declared.cell.Cell.{Cell}
use Rattle.cp_term.specs.declared.cell.Cell.TheVariants.{Var, Int, Atom, Func}
use Rattle.cp_term.specs.Preorder.{arity_of, has_arity, terms_after, is_terms}
use Rattle.cp_goal.specs.Folds.{of_terms}
use Rattle.cp_heap.specs.State.{AreTerms}
use Rattle.cp_code.specs.Bodies.{CallOf, Plain, Read, read_of, unread, cells_of, body_of, atom_body, compound_body, is, arrow_of, NoArrow}
use Rattle.cp_control.specs.Control.{arrow_in, reading, readings}

-- ---- lists

pub take_first : {A : Type 0} (xs : List A) (i k : ℕ) (d : A) → 0 < k → i < length xs → take k (drop i xs) ≡ get_or xs i d ∷ take (k - 1) (drop (i + 1) xs)
take_first xs i zero d some lt = absurd (omega arith)
take_first xs i (suc k) d some lt =
    let e : suc k - 1 ≡ k = omega arith in
    let f : i + 1 ≡ suc i = omega arith in
    ap (take (suc k)) (drop-cons xs i d lt) ∙ ap (λ n. get_or xs i d ∷ take n (drop (suc i) xs)) (sym e) ∙ ap (λ n. get_or xs i d ∷ take (suc k - 1) (drop n xs)) (sym f)

one_of : {A : Type 0} (xs : List A) (d : A) → length xs ≡ 1 → xs ≡ slice_index_or xs 0 d ∷ []
one_of [] d e = absurd (omega arith)
one_of (x ∷ []) d e = refl
one_of (x ∷ y ∷ xs) d e = absurd (omega arith)

take-drop-joined : {A B : Type 0} (f : A → List B) (k : ℕ) (xs : List A) → flat_map f (take k xs) ++ flat_map f (drop k xs) ≡ flat_map f xs
take-drop-joined f zero xs = refl
take-drop-joined f (suc k) [] = refl
take-drop-joined f (suc k) (x ∷ xs) = append_assoc (f x) (flat_map f (take k xs)) (flat_map f (drop k xs)) ∙ ap (λ t. f x ++ t) (take-drop-joined f k xs)

take-all : {A : Type 0} (xs : List A) (k : ℕ) → k ≡ length xs → take k xs ≡ xs
take-all [] zero e = refl
take-all [] (suc k) e = absurd (omega arith)
take-all (x ∷ xs) zero e = absurd (omega arith)
take-all (x ∷ xs) (suc k) e = ap (λ t. x ∷ t) (take-all xs k (omega arith))

-- ---- folds over terms

terms_after-is : (c : Cell) (n : ℕ) → terms_after c n ≡ n + arity_of c
terms_after-is (Var v) n = omega arith
terms_after-is (Int i) n = omega arith
terms_after-is (Atom a) n = omega arith
terms_after-is (Func f k) n = omega arith

module _ {X : Type 0} (f : Cell → List X → X) where
  length-of_terms : (n : ℕ) (cells : List Cell) → is_terms n cells ≡ true → length (of_terms f cells) ≡ n
  length-of_terms zero [] h = refl
  length-of_terms zero (c ∷ cells) h = absurd (false≢true h)
  length-of_terms (suc n) [] h = absurd (false≢true h)
  length-of_terms (suc n) (c ∷ cells) h =
      let parts = and_parts (has_arity c) (is_terms (terms_after c n) cells) h in
      let all : length (of_terms f cells) ≡ n + arity_of c = length-of_terms (terms_after c n) cells parts.1 ∙ terms_after-is c n in
      let rest : length (drop (arity_of c) (of_terms f cells)) ≡ length (of_terms f cells) - arity_of c = length-drop (arity_of c) (of_terms f cells) in
      omega arith

  arguments_there : (c : Cell) (n : ℕ) (cells : List Cell) → is_terms (terms_after c n) cells ≡ true → arity_of c ≤ length (of_terms f cells)
  arguments_there c n cells h =
      let all : length (of_terms f cells) ≡ n + arity_of c = length-of_terms (terms_after c n) cells h ∙ terms_after-is c n in
      omega arith

  of_terms-append : (n : ℕ) (a b : List Cell) → is_terms n a ≡ true → of_terms f (a ++ b) ≡ of_terms f a ++ of_terms f b
  of_terms-append zero [] b h = refl
  of_terms-append zero (c ∷ a) b h = absurd (false≢true h)
  of_terms-append (suc n) [] b h = absurd (false≢true h)
  of_terms-append (suc n) (c ∷ a) b h =
      let parts = and_parts (has_arity c) (is_terms (terms_after c n) a) h in
      let there = arguments_there c n a parts.1 in
      ap (λ ts. f c (take (arity_of c) ts) ∷ drop (arity_of c) ts) (of_terms-append (terms_after c n) a b parts.1)
      ∙ ap (λ ts. f c ts ∷ drop (arity_of c) (of_terms f a ++ of_terms f b)) (take-append-le (arity_of c) (of_terms f a) (of_terms f b) there)
      ∙ ap (λ ts. f c (take (arity_of c) (of_terms f a)) ∷ ts) (drop-append-le (arity_of c) (of_terms f a) (of_terms f b) there)

  of_joined : (d : X) (ts : List (List Cell)) → AreTerms ts → of_terms f (flat_map (λ t. t) ts) ≡ map (λ t. slice_index_or (of_terms f t) 0 d) ts
  of_joined d [] a = refl
  of_joined d (t ∷ ts) a =
      of_terms-append 1 t (flat_map (λ u. u) ts) a.0
      ∙ ap (λ x. x ++ of_terms f (flat_map (λ u. u) ts)) (one_of (of_terms f t) d (length-of_terms 1 t a.0))
      ∙ ap (λ x. slice_index_or (of_terms f t) 0 d ∷ x) (of_joined d ts a.1)

-- ---- readings

cells_kept : (cells : List Cell) → flat_map (λ (r : Read). r.cells) (of_terms read_of cells) ≡ cells
cells_kept [] = refl
cells_kept (c ∷ cells) =
    ap (λ t. c ∷ t) (take-drop-joined (λ (r : Read). r.cells) (arity_of c) (of_terms read_of cells) ∙ cells_kept cells)

term_read : List Cell → Read
term_read t = slice_index_or (of_terms read_of t) 0 unread

term_read-cells : (t : List Cell) → is_terms 1 t ≡ true → (term_read t).cells ≡ t
unfolding term_read
term_read-cells t h =
    sym (append-nil ((slice_index_or (of_terms read_of t) 0 unread).cells))
    ∙ ap (flat_map (λ (r : Read). r.cells)) (sym (one_of (of_terms read_of t) unread (length-of_terms read_of 1 t h)))
    ∙ cells_kept t

read_is : (t : List Cell) → is_terms 1 t ≡ true → slice_index_or (of_terms read_of t) 0 unread ≡ reading t
unfolding term_read body_of arrow_in
read_is t h = ap (λ c. let r : Read = record { cells = c; body = λ m. body_of m t; arrow = arrow_in t } in r) (term_read-cells t h)

reads_are : (ts : List (List Cell)) → AreTerms ts → map (λ t. slice_index_or (of_terms read_of t) 0 unread) ts ≡ map reading ts
reads_are [] a = refl
reads_are (t ∷ ts) a =
    ap (λ r. r ∷ map (λ u. slice_index_or (of_terms read_of u) 0 unread) ts) (read_is t a.0) ∙ ap (λ x. reading t ∷ x) (reads_are ts a.1)

cells_of_readings : (ts : List (List Cell)) → flat_map (λ (r : Read). r.cells) (map reading ts) ≡ flat_map (λ t. t) ts
cells_of_readings [] = refl
cells_of_readings (t ∷ ts) = ap (λ x. t ++ x) (cells_of_readings ts)

-- what the arguments give
arguments_read : (k : ℕ) (ts : List (List Cell)) → AreTerms ts → length ts ≡ k → take k (of_terms read_of (flat_map (λ t. t) ts)) ≡ map reading ts
arguments_read k ts a e =
    let parts : of_terms read_of (flat_map (λ t. t) ts) ≡ map reading ts = of_joined read_of unread ts a ∙ reads_are ts a in
    ap (take k) parts ∙ take-all (map reading ts) k (sym e ∙ sym (length-map reading ts))
  where
    length-map : {A B : Type 0} (f : A → B) (xs : List A) → length (map f xs) ≡ length xs
    length-map f [] = refl
    length-map f (x ∷ xs) = omega (arith, length-map f xs)

pub compound-body : (m f : List ℕ) (k : ℕ) (ts : List (List Cell)) → AreTerms ts → length ts ≡ k → body_of m (Func f k ∷ flat_map (λ t. t) ts) ≡ compound_body f k (Func f k ∷ flat_map (λ t. t) ts) (map reading ts) m
unfolding body_of
compound-body m f k ts a e =
    ap (λ parts. compound_body f k (cells_of (Func f k) parts) parts m) (arguments_read k ts a e)
    ∙ ap (λ cells. compound_body f k (Func f k ∷ cells) (map reading ts) m) (cells_of_readings ts)

pub compound-arrow : (f : List ℕ) (k : ℕ) (ts : List (List Cell)) → AreTerms ts → length ts ≡ k → arrow_in (Func f k ∷ flat_map (λ t. t) ts) ≡ arrow_of f (map reading ts)
unfolding arrow_in
compound-arrow f k ts a e = ap (arrow_of f) (arguments_read k ts a e)

pub atom-body : (m a : List ℕ) → body_of m (Atom a ∷ []) ≡ atom_body a m
unfolding body_of
atom-body m a = refl

pub integer-body : (m : List ℕ) (i : ℤ) → body_of m (Int i ∷ []) ≡ None
unfolding body_of
integer-body m i = refl

pub variable-body : (m : List ℕ) (v : ℕ) → body_of m (Var v ∷ []) ≡ Some (CallOf m (Var v ∷ []) [])
unfolding body_of
variable-body m v = refl

pub variable-arrow : (v : ℕ) → arrow_in (Var v ∷ []) ≡ NoArrow
unfolding arrow_in
variable-arrow v = refl

pub integer-arrow : (i : ℤ) → arrow_in (Int i ∷ []) ≡ NoArrow
unfolding arrow_in
integer-arrow i = refl

pub atom-arrow : (a : List ℕ) → arrow_in (Atom a ∷ []) ≡ NoArrow
unfolding arrow_in
atom-arrow a = refl

-- ---- arguments side by side

pub first_reading : (terms : List (List Cell)) (first k : ℕ) → 0 < k → first < length terms → readings terms first k ≡ reading (get_or terms first []) ∷ readings terms (first + 1) (k - 1)
first_reading terms first k some lt = ap (map reading) (take_first terms first k [] some lt)

cells-back : (ts : List (List Cell)) → map (λ (r : Read). r.cells) (map reading ts) ≡ ts
cells-back [] = refl
cells-back (t ∷ ts) = ap (λ x. t ∷ x) (cells-back ts)

four_parts : (f : List ℕ) (k : ℕ) (cells : List Cell) (m : List ℕ) (t : List Cell) (ts : List (List Cell)) → 3 ≤ length ts → compound_body f k cells (reading t ∷ map reading ts) m ≡ (if is f "call" && nat_le k 8 then Some (CallOf m t (map (λ (r : Read). r.cells) (map reading ts))) else Some (Plain m cells))
four_parts f k cells m t [] h = absurd (omega arith)
four_parts f k cells m t (b ∷ []) h = absurd (omega arith)
four_parts f k cells m t (b ∷ c ∷ []) h = absurd (omega arith)
four_parts f k cells m t (b ∷ c ∷ d ∷ more) h = refl

pub more-body : (f : List ℕ) (k : ℕ) (cells : List Cell) (m : List ℕ) (terms : List (List Cell)) (first : ℕ) → 3 < k → first + k ≤ length terms → compound_body f k cells (readings terms first k) m ≡ (if is f "call" && nat_le k 8 then Some (CallOf m (get_or terms first []) (take (k - 1) (drop (first + 1) terms))) else Some (Plain m cells))
more-body f k cells m terms first more le =
    let len : length (take (k - 1) (drop (first + 1) terms)) ≡ k - 1 = length-take-le (k - 1) (drop (first + 1) terms) (simp length-drop (omega arith)) in
    ap (λ parts. compound_body f k cells parts m) (first_reading terms first k (omega arith) (omega arith))
    ∙ four_parts f k cells m (get_or terms first []) (take (k - 1) (drop (first + 1) terms)) (omega arith)
    ∙ ap (λ extra. if is f "call" && nat_le k 8 then Some (CallOf m (get_or terms first []) extra) else Some (Plain m cells)) (cells-back (take (k - 1) (drop (first + 1) terms)))

pub more_called : (f : List ℕ) (k : ℕ) (cells : List Cell) (m : List ℕ) (terms : List (List Cell)) (first : ℕ) → 3 < k → first + k ≤ length terms → is f "call" ≡ true → k ≤ 8 → compound_body f k cells (readings terms first k) m ≡ Some (CallOf m (get_or terms first []) (take (k - 1) (drop (first + 1) terms)))
more_called f k cells m terms first more le called few =
    more-body f k cells m terms first more le
    ∙ ap (λ b. if b && nat_le k 8 then Some (CallOf m (get_or terms first []) (take (k - 1) (drop (first + 1) terms))) else Some (Plain m cells)) called
    ∙ ap (λ b. if b then Some (CallOf m (get_or terms first []) (take (k - 1) (drop (first + 1) terms))) else Some (Plain m cells)) (le-leb k 8 few)

pub more_other : (f : List ℕ) (k : ℕ) (cells : List Cell) (m : List ℕ) (terms : List (List Cell)) (first : ℕ) → 3 < k → first + k ≤ length terms → is f "call" ≡ false → compound_body f k cells (readings terms first k) m ≡ Some (Plain m cells)
more_other f k cells m terms first more le other =
    more-body f k cells m terms first more le
    ∙ ap (λ b. if b && nat_le k 8 then Some (CallOf m (get_or terms first []) (take (k - 1) (drop (first + 1) terms))) else Some (Plain m cells)) other

pub more_many : (f : List ℕ) (k : ℕ) (cells : List Cell) (m : List ℕ) (terms : List (List Cell)) (first : ℕ) → 8 < k → first + k ≤ length terms → compound_body f k cells (readings terms first k) m ≡ Some (Plain m cells)
more_many f k cells m terms first many le =
    more-body f k cells m terms first (omega arith) le
    ∙ ap (λ b. if is f "call" && b then Some (CallOf m (get_or terms first []) (take (k - 1) (drop (first + 1) terms))) else Some (Plain m cells)) (lt-leb k 8 many)
    ∙ both (is f "call")
  where
    both : (b : Bool) → (if b && false then Some (CallOf m (get_or terms first []) (take (k - 1) (drop (first + 1) terms))) else Some (Plain m cells)) ≡ Some (Plain m cells)
    both true = refl
    both false = refl

pub arrow-other : (f : List ℕ) (k : ℕ) (terms : List (List Cell)) (first : ℕ) → (k ≡ 2 → ⊥) → first + k ≤ length terms → arrow_of f (readings terms first k) ≡ NoArrow
arrow-other f k terms first other le =
    none (take k (drop first terms)) (λ e. other (sym (length-take-le k (drop first terms) (simp length-drop (omega arith))) ∙ e))
  where
    none : (ts : List (List Cell)) → (length ts ≡ 2 → ⊥) → arrow_of f (map reading ts) ≡ NoArrow
    none [] h = refl
    none (a ∷ []) h = refl
    none (a ∷ b ∷ []) h = absurd (h refl)
    none (a ∷ b ∷ c ∷ ts) h = refl

AreTerms-range : (k i : ℕ) (ts : List (List Cell)) → AreTerms ts → AreTerms (take k (drop i ts))
AreTerms-range k i ts a = front k (drop i ts) (back i ts a)
  where
    back : (i : ℕ) (ts : List (List Cell)) → AreTerms ts → AreTerms (drop i ts)
    back zero ts a = a
    back (suc i) [] a = a
    back (suc i) (t ∷ ts) a = back i ts a.1

    front : (k : ℕ) (ts : List (List Cell)) → AreTerms ts → AreTerms (take k ts)
    front zero ts a = tt
    front (suc k) [] a = tt
    front (suc k) (t ∷ ts) a = (a.0, front k ts a.1)

pub arrow-here : (terms : List (List Cell)) (t : List Cell) (f : List ℕ) (k first : ℕ) → AreTerms terms → t ≡ Func f k ∷ flat_map (λ u. u) (take k (drop first terms)) → first + k ≤ length terms → arrow_in t ≡ arrow_of f (readings terms first k)
arrow-here terms t f k first a e le =
    ap arrow_in e ∙ compound-arrow f k (take k (drop first terms)) (AreTerms-range k first terms a) (length-take-le k (drop first terms) (simp length-drop (omega arith)))

pub body-here : (m : List ℕ) (terms : List (List Cell)) (t : List Cell) (f : List ℕ) (k first : ℕ) → AreTerms terms → t ≡ Func f k ∷ flat_map (λ u. u) (take k (drop first terms)) → first + k ≤ length terms → body_of m t ≡ compound_body f k t (readings terms first k) m
body-here m terms t f k first a e le =
    ap (body_of m) e
    ∙ compound-body m f k (take k (drop first terms)) (AreTerms-range k first terms a) (length-take-le k (drop first terms) (simp length-drop (omega arith)))
    ∙ ap (λ cells. compound_body f k cells (readings terms first k) m) (sym e)
