-- When a term is a body, by what its parts are. It is one for every module or for none.
use Rattle.std.proofs.Common.{◌≡◌, ℕ, zero, suc, ◌+◌, true, false, Bool, Some, None, Option, List, [], ◌∷◌, length, take, drop, refl, sym, ◌∙◌, ap, arith}
use Rattle.std.specs.Prelude.{◌&&◌, ◌||◌, nat_le, if◌then◌else◌, is_some}
use Rattle.cp_term.specs.declared.cell.Cell.{Cell}
use Rattle.cp_term.specs.declared.cell.Cell.TheVariants.{Var, Int, Atom, Func}
use Rattle.cp_term.specs.Preorder.{arity_of}
use Rattle.cp_goal.specs.Folds.{of_terms}
use Rattle.cp_code.specs.Bodies.{Body, Cut, True, Fail, Both, Either, Choose, CallOf, ThrowOf, Plain, Reads, Read, Arrow, NoArrow, IfThen, two_bodies, three_bodies, within_module, either_body, atom_body, unary_body, binary_body, compound_body, arrow_of, cells_of, read_of, is}

-- ---- whether there is a body

two_some : (f : Body → Body → Body) (a b : Option Body) → is_some (two_bodies f a b) ≡ (is_some a && is_some b)
two_some f (Some a) (Some b) = refl
two_some f (Some a) None = refl
two_some f None (Some b) = refl
two_some f None None = refl

three_some : (f : Body → Body → Body → Body) (a b c : Option Body) → is_some (three_bodies f a b c) ≡ ((is_some a && is_some b) && is_some c)
three_some f (Some a) (Some b) (Some c) = refl
three_some f (Some a) (Some b) None = refl
three_some f (Some a) None (Some c) = refl
three_some f (Some a) None None = refl
three_some f None (Some b) (Some c) = refl
three_some f None (Some b) None = refl
three_some f None None (Some c) = refl
three_some f None None None = refl

and-true : (a : Bool) → (a && true) ≡ a
and-true true = refl
and-true false = refl

or-true : (a b : Bool) → (a || b || true) ≡ true
or-true true b = refl
or-true false true = refl
or-true false false = refl

-- the condition and the consequence are bodies just where the whole is
unfoldable pub FitsArrow : Arrow → Reads → List ℕ → Type 0
FitsArrow NoArrow body m = Unit {0}
FitsArrow (IfThen c t) body m = is_some (body m) ≡ (is_some (c m) && is_some (t m))

either_some : (r : Arrow) (a b : Reads) (m : List ℕ) → FitsArrow r a m → is_some (either_body r a b m) ≡ (is_some (a m) && is_some (b m))
unfolding FitsArrow
either_some NoArrow a b m fits = two_some Either (a m) (b m)
either_some (IfThen c t) a b m fits = three_some Choose (c m) (t m) (b m) ∙ ap (λ x. x && is_some (b m)) (sym fits)

pub unary_some : (f : List ℕ) (cells : List Cell) (a : Read) (m : List ℕ) → is_some (unary_body f cells a m) ≡ (if is f "\\+" then is_some (a.body m) else true)
unary_some f cells a m = by_tests (is f "\\+") (is f "call") (is f "throw") (a.body m)
  where
    by_tests : (n c t : Bool) (b : Option Body) → is_some (if n then three_bodies Choose b (Some Fail) (Some True) else if c then Some (CallOf m a.cells []) else if t then Some (ThrowOf m a.cells) else Some (Plain m cells)) ≡ (if n then is_some b else true)
    by_tests true c t b = three_some Choose b (Some Fail) (Some True) ∙ and-true (is_some b && true) ∙ and-true (is_some b)
    by_tests false true t b = refl
    by_tests false false true b = refl
    by_tests false false false b = refl

-- of six, by five tests
of_six : (b1 b2 b3 b4 b5 : Bool) (x1 x2 x3 x4 x5 x6 : Option Body) (x y : Bool) → is_some x1 ≡ x → is_some x2 ≡ x → is_some x3 ≡ x → is_some x4 ≡ y → is_some x5 ≡ true → is_some x6 ≡ true
    → is_some (if b1 then x1 else if b2 then x2 else if b3 then x3 else if b4 then x4 else if b5 then x5 else x6) ≡ (if b1 || b2 || b3 then x else if b4 then y else true)
of_six true b2 b3 b4 b5 x1 x2 x3 x4 x5 x6 x y h1 h2 h3 h4 h5 h6 = h1
of_six false true b3 b4 b5 x1 x2 x3 x4 x5 x6 x y h1 h2 h3 h4 h5 h6 = h2
of_six false false true b4 b5 x1 x2 x3 x4 x5 x6 x y h1 h2 h3 h4 h5 h6 = h3
of_six false false false true b5 x1 x2 x3 x4 x5 x6 x y h1 h2 h3 h4 h5 h6 = h4
of_six false false false false true x1 x2 x3 x4 x5 x6 x y h1 h2 h3 h4 h5 h6 = h5
of_six false false false false false x1 x2 x3 x4 x5 x6 x y h1 h2 h3 h4 h5 h6 = h6

pub binary_some : (f : List ℕ) (cells : List Cell) (a b : Read) (m : List ℕ) → FitsArrow a.arrow a.body m
    → is_some (binary_body f cells a b m) ≡ (if is f "," || is f ";" || is f "->" then is_some (a.body m) && is_some (b.body m) else if is f ":" then is_some (within_module a.cells b.body) else true)
binary_some f cells a b m fits =
    of_six (is f ",") (is f ";") (is f "->") (is f ":") (is f "call") _ _ _ _ _ _ (is_some (a.body m) && is_some (b.body m)) (is_some (within_module a.cells b.body))
    (two_some Both (a.body m) (b.body m)) (either_some a.arrow a.body b.body m fits) (three_some Choose (a.body m) (b.body m) (Some Fail) ∙ and-true (is_some (a.body m) && is_some (b.body m))) refl refl refl

pub other_some : (f : List ℕ) (k : ℕ) (cells : List Cell) (parts : List Read) (m : List ℕ) → (length parts ≡ 1 → ⊥) → (length parts ≡ 2 → ⊥) → is_some (compound_body f k cells parts m) ≡ true
other_some f k cells [] m one two = refl
other_some f k cells (a ∷ []) m one two = absurd (one refl)
other_some f k cells (a ∷ b ∷ []) m one two = absurd (two refl)
other_some f k cells (a ∷ b ∷ c ∷ []) m one two = by_tests (is f "catch") (is f "findall") (is f "call") _ _ _ _
  where
    by_tests : (x y z : Bool) (p q r s : Body) → is_some (if x then Some p else if y then Some q else if z then Some r else Some s) ≡ true
    by_tests true y z p q r s = refl
    by_tests false true z p q r s = refl
    by_tests false false true p q r s = refl
    by_tests false false false p q r s = refl
other_some f k cells (a ∷ b ∷ c ∷ d ∷ more) m one two = by_test (is f "call" && nat_le k 8) _ _
  where
    by_test : (x : Bool) (p q : Body) → is_some (if x then Some p else Some q) ≡ true
    by_test true p q = refl
    by_test false p q = refl

-- ---- for every module or for none

pub record IsSteady (r : Read) : Type 0 where
  pub same : (m n : List ℕ) → is_some (r.body m) ≡ is_some (r.body n)
  pub arrow_fits : (m : List ℕ) → FitsArrow r.arrow r.body m

abbrev pub AreSteady : List Read → Type 0
AreSteady [] = Unit {0}
AreSteady (r ∷ rs) = IsSteady r × AreSteady rs

arrow_steady : (f : List ℕ) (cells : List Cell) (a b : Read) → IsSteady a → (m : List ℕ) (t : Bool) → is f "->" ≡ t → FitsArrow (if t then IfThen a.body b.body else NoArrow) (binary_body f cells a b) m
unfolding FitsArrow
arrow_steady f cells a b sa m true e =
    let x = is_some (a.body m) && is_some (b.body m) in
    let y = if is f ":" then is_some (within_module a.cells b.body) else true in
    binary_some f cells a b m (sa.arrow_fits m)
    ∙ ap (λ t. if is f "," || is f ";" || t then x else y) e
    ∙ ap (λ t. if t then x else y) (or-true (is f ",") (is f ";"))
arrow_steady f cells a b sa m false e = tt

compound_steady : (f : List ℕ) (k : ℕ) (cells : List Cell) (parts : List Read) → AreSteady parts → IsSteady (let r : Read = record { cells = cells; body = compound_body f k cells parts; arrow = arrow_of f parts } in r)
unfolding FitsArrow
compound_steady f k cells [] s = record { same = λ m n. refl; arrow_fits = λ m. tt }
compound_steady f k cells (a ∷ []) s = record {
  same = λ m n. unary_some f cells a m ∙ ap (λ x. if is f "\\+" then x else true) (s.0.same m n) ∙ sym (unary_some f cells a n);
  arrow_fits = λ m. tt;
}
compound_steady f k cells (a ∷ b ∷ []) s =
    let y = if is f ":" then is_some (within_module a.cells b.body) else true in
    record {
      same = λ m n.
          binary_some f cells a b m (s.0.arrow_fits m)
          ∙ ap (λ x. if is f "," || is f ";" || is f "->" then x && is_some (b.body m) else y) (s.0.same m n)
          ∙ ap (λ x. if is f "," || is f ";" || is f "->" then is_some (a.body n) && x else y) (s.1.0.same m n)
          ∙ sym (binary_some f cells a b n (s.0.arrow_fits n));
      arrow_fits = λ m. arrow_steady f cells a b s.0 m (is f "->") refl;
    }
compound_steady f k cells (a ∷ b ∷ c ∷ more) s =
    let one : length (a ∷ b ∷ c ∷ more) ≡ 1 → ⊥ = λ e. omega arith in
    let two : length (a ∷ b ∷ c ∷ more) ≡ 2 → ⊥ = λ e. omega arith in
    record {
      same = λ m n. other_some f k cells (a ∷ b ∷ c ∷ more) m one two ∙ sym (other_some f k cells (a ∷ b ∷ c ∷ more) n one two);
      arrow_fits = λ m. tt;
    }

pub atom_some : (a m : List ℕ) → is_some (atom_body a m) ≡ true
atom_some a m = by_tests (is a "!") (is a "true") (is a "fail") _
  where
    by_tests : (x y z : Bool) (p : Body) → is_some (if x then Some Cut else if y then Some True else if z then Some Fail else Some p) ≡ true
    by_tests true y z p = refl
    by_tests false true z p = refl
    by_tests false false true p = refl
    by_tests false false false p = refl

read_steady : (c : Cell) (parts : List Read) → AreSteady parts → IsSteady (read_of c parts)
unfolding FitsArrow
read_steady (Var v) parts s = record { same = λ m n. refl; arrow_fits = λ m. tt }
read_steady (Int i) parts s = record { same = λ m n. refl; arrow_fits = λ m. tt }
read_steady (Atom a) parts s = record { same = λ m n. atom_some a m ∙ sym (atom_some a n); arrow_fits = λ m. tt }
read_steady (Func f k) parts s =
    let r = compound_steady f k (cells_of (Func f k) parts) parts s in
    record { same = r.same; arrow_fits = r.arrow_fits }

pub take_steady : (k : ℕ) (rs : List Read) → AreSteady rs → AreSteady (take k rs)
take_steady zero rs s = tt
take_steady (suc k) [] s = tt
take_steady (suc k) (r ∷ rs) s = (s.0, take_steady k rs s.1)

pub drop_steady : (k : ℕ) (rs : List Read) → AreSteady rs → AreSteady (drop k rs)
drop_steady zero rs s = s
drop_steady (suc k) [] s = s
drop_steady (suc k) (r ∷ rs) s = drop_steady k rs s.1

pub all_steady : (cells : List Cell) → AreSteady (of_terms read_of cells)
all_steady [] = tt
all_steady (c ∷ cells) =
    (read_steady c (take (arity_of c) (of_terms read_of cells)) (take_steady (arity_of c) (of_terms read_of cells) (all_steady cells)), drop_steady (arity_of c) (of_terms read_of cells) (all_steady cells))
