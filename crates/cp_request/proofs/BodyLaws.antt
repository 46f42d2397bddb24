-- When a term is a body, by its parts. It is one for every module or for none.
use Rattle.std.proofs.Common.{◌≡◌, ℕ, zero, suc, ◌+◌, true, false, Bool, Some, None, Option, List, [], ◌∷◌, ◌++◌, length, take, drop, slice_index_or, refl, sym, ◌∙◌, ap, subst, arith, length-append}
use Rattle.std.specs.Prelude.{◌&&◌, ◌||◌, nat_le, if◌then◌else◌, codes, is_some, ℤ}
use Rattle.std.proofs.lemmas.Bool.{false≢true}
use Rattle.cp_term.specs.declared.cell.Cell.{Cell}
use Rattle.cp_term.specs.declared.cell.Cell.TheVariants.{Var, Int, Atom, Func}
use Rattle.cp_term.specs.Preorder.{arity_of, is_terms}
use Rattle.cp_goal.specs.Folds.{of_terms}
use Rattle.cp_goal.specs.Builtins.{is_atom}
use Rattle.cp_heap.specs.declared.reference.Ref.{Ref}
use Rattle.cp_heap.specs.State.{State, instance_at}
use Rattle.cp_heap.specs.Looks.{name_of}
use Rattle.cp_code.specs.Bodies.{Body, Cut, True, Fail, Both, Either, Choose, CallOf, ThrowOf, Plain, Reads, Read, Arrow, NoArrow, IfThen, two_bodies, three_bodies, within_module, either_body, atom_body, unary_body, binary_body, compound_body, arrow_of, cells_of, read_of, unread, body_of, is}
use Rattle.cp_request.specs.declared.parts.Parts.TheVariants.{NoGoal, Goal, One, Two}
use Rattle.cp_request.specs.Shapes.{has_name, HasNoArguments, IsCompound, IsUnary, IsPair}
use Rattle.cp_request.specs.Parts.{is_body_at, is_junction, IsMadeOf}
use Rattle.cp_request.proofs.Terms.{atom_alone}
use Rattle.cp_request.proofs.Folds.{of_one, of_two, length-arguments, cells_of_one}

-- ---- whether there is a body

two_some : (f : Body → Body → Body) (a b : Option Body) → is_some (two_bodies f a b) ≡ (is_some a && is_some b)
two_some f (Some a) (Some b) = refl
two_some f (Some a) None = refl
two_some f None (Some b) = refl
two_some f None None = refl

three_some : (f : Body → Body → Body → Body) (a b c : Option Body) → is_some (three_bodies f a b c) ≡ ((is_some a && is_some b) && is_some c)
three_some f (Some a) (Some b) (Some c) = refl
three_some f (Some a) (Some b) None = refl
three_some f (Some a) None (Some c) = refl
three_some f (Some a) None None = refl
three_some f None (Some b) (Some c) = refl
three_some f None (Some b) None = refl
three_some f None None (Some c) = refl
three_some f None None None = refl

and-true : (a : Bool) → (a && true) ≡ a
and-true true = refl
and-true false = refl

or-true : (a b : Bool) → (a || b || true) ≡ true
or-true true b = refl
or-true false true = refl
or-true false false = refl

-- the condition and the consequence are bodies just where the whole is
FitsArrow : Arrow → Reads → List ℕ → Type 0
FitsArrow NoArrow body m = Unit {0}
FitsArrow (IfThen c t) body m = is_some (body m) ≡ (is_some (c m) && is_some (t m))

either_some : (r : Arrow) (a b : Reads) (m : List ℕ) → FitsArrow r a m → is_some (either_body r a b m) ≡ (is_some (a m) && is_some (b m))
unfolding FitsArrow
either_some NoArrow a b m fits = two_some Either (a m) (b m)
either_some (IfThen c t) a b m fits = three_some Choose (c m) (t m) (b m) ∙ ap (λ x. x && is_some (b m)) (sym fits)

unary_some : (f : List ℕ) (cells : List Cell) (a : Read) (m : List ℕ) → is_some (unary_body f cells a m) ≡ (if is f "\\+" then is_some (a.body m) else true)
unary_some f cells a m = by_tests (is f "\\+") (is f "call") (is f "throw") (a.body m)
  where
    by_tests : (n c t : Bool) (b : Option Body) → is_some (if n then three_bodies Choose b (Some Fail) (Some True) else if c then Some (CallOf m a.cells []) else if t then Some (ThrowOf m a.cells) else Some (Plain m cells)) ≡ (if n then is_some b else true)
    by_tests true c t b = three_some Choose b (Some Fail) (Some True) ∙ and-true (is_some b && true) ∙ and-true (is_some b)
    by_tests false true t b = refl
    by_tests false false true b = refl
    by_tests false false false b = refl

-- of six, by five tests
of_six : (b1 b2 b3 b4 b5 : Bool) (x1 x2 x3 x4 x5 x6 : Option Body) (x y : Bool) → is_some x1 ≡ x → is_some x2 ≡ x → is_some x3 ≡ x → is_some x4 ≡ y → is_some x5 ≡ true → is_some x6 ≡ true
    → is_some (if b1 then x1 else if b2 then x2 else if b3 then x3 else if b4 then x4 else if b5 then x5 else x6) ≡ (if b1 || b2 || b3 then x else if b4 then y else true)
of_six true b2 b3 b4 b5 x1 x2 x3 x4 x5 x6 x y h1 h2 h3 h4 h5 h6 = h1
of_six false true b3 b4 b5 x1 x2 x3 x4 x5 x6 x y h1 h2 h3 h4 h5 h6 = h2
of_six false false true b4 b5 x1 x2 x3 x4 x5 x6 x y h1 h2 h3 h4 h5 h6 = h3
of_six false false false true b5 x1 x2 x3 x4 x5 x6 x y h1 h2 h3 h4 h5 h6 = h4
of_six false false false false true x1 x2 x3 x4 x5 x6 x y h1 h2 h3 h4 h5 h6 = h5
of_six false false false false false x1 x2 x3 x4 x5 x6 x y h1 h2 h3 h4 h5 h6 = h6

binary_some : (f : List ℕ) (cells : List Cell) (a b : Read) (m : List ℕ) → FitsArrow a.arrow a.body m
    → is_some (binary_body f cells a b m) ≡ (if is f "," || is f ";" || is f "->" then is_some (a.body m) && is_some (b.body m) else if is f ":" then is_some (within_module a.cells b.body) else true)
binary_some f cells a b m fits =
    of_six (is f ",") (is f ";") (is f "->") (is f ":") (is f "call") _ _ _ _ _ _ (is_some (a.body m) && is_some (b.body m)) (is_some (within_module a.cells b.body))
    (two_some Both (a.body m) (b.body m)) (either_some a.arrow a.body b.body m fits) (three_some Choose (a.body m) (b.body m) (Some Fail) ∙ and-true (is_some (a.body m) && is_some (b.body m))) refl refl refl

other_some : (f : List ℕ) (k : ℕ) (cells : List Cell) (parts : List Read) (m : List ℕ) → (length parts ≡ 1 → ⊥) → (length parts ≡ 2 → ⊥) → is_some (compound_body f k cells parts m) ≡ true
other_some f k cells [] m one two = refl
other_some f k cells (a ∷ []) m one two = absurd (one refl)
other_some f k cells (a ∷ b ∷ []) m one two = absurd (two refl)
other_some f k cells (a ∷ b ∷ c ∷ []) m one two = by_tests (is f "catch") (is f "findall") (is f "call") _ _ _ _
  where
    by_tests : (x y z : Bool) (p q r s : Body) → is_some (if x then Some p else if y then Some q else if z then Some r else Some s) ≡ true
    by_tests true y z p q r s = refl
    by_tests false true z p q r s = refl
    by_tests false false true p q r s = refl
    by_tests false false false p q r s = refl
other_some f k cells (a ∷ b ∷ c ∷ d ∷ more) m one two = by_test (is f "call" && nat_le k 8) _ _
  where
    by_test : (x : Bool) (p q : Body) → is_some (if x then Some p else Some q) ≡ true
    by_test true p q = refl
    by_test false p q = refl

-- ---- for every module or for none

record IsSteady (r : Read) : Type 0 where
  same : (m n : List ℕ) → is_some (r.body m) ≡ is_some (r.body n)
  arrow_fits : (m : List ℕ) → FitsArrow r.arrow r.body m

AreSteady : List Read → Type 0
AreSteady [] = Unit {0}
AreSteady (r ∷ rs) = IsSteady r × AreSteady rs

arrow_steady : (f : List ℕ) (cells : List Cell) (a b : Read) → IsSteady a → (m : List ℕ) (t : Bool) → is f "->" ≡ t → FitsArrow (if t then IfThen a.body b.body else NoArrow) (binary_body f cells a b) m
unfolding FitsArrow
arrow_steady f cells a b sa m true e =
    let x = is_some (a.body m) && is_some (b.body m) in
    let y = if is f ":" then is_some (within_module a.cells b.body) else true in
    binary_some f cells a b m (sa.arrow_fits m)
    ∙ ap (λ t. if is f "," || is f ";" || t then x else y) e
    ∙ ap (λ t. if t then x else y) (or-true (is f ",") (is f ";"))
arrow_steady f cells a b sa m false e = tt

compound_steady : (f : List ℕ) (k : ℕ) (cells : List Cell) (parts : List Read) → AreSteady parts → IsSteady (let r : Read = record { cells = cells; body = compound_body f k cells parts; arrow = arrow_of f parts } in r)
unfolding FitsArrow AreSteady
compound_steady f k cells [] s = record { same = λ m n. refl; arrow_fits = λ m. tt }
compound_steady f k cells (a ∷ []) s = record {
  same = λ m n. unary_some f cells a m ∙ ap (λ x. if is f "\\+" then x else true) (s.0.same m n) ∙ sym (unary_some f cells a n);
  arrow_fits = λ m. tt;
}
compound_steady f k cells (a ∷ b ∷ []) s =
    let y = if is f ":" then is_some (within_module a.cells b.body) else true in
    record {
      same = λ m n.
          binary_some f cells a b m (s.0.arrow_fits m)
          ∙ ap (λ x. if is f "," || is f ";" || is f "->" then x && is_some (b.body m) else y) (s.0.same m n)
          ∙ ap (λ x. if is f "," || is f ";" || is f "->" then is_some (a.body n) && x else y) (s.1.0.same m n)
          ∙ sym (binary_some f cells a b n (s.0.arrow_fits n));
      arrow_fits = λ m. arrow_steady f cells a b s.0 m (is f "->") refl;
    }
compound_steady f k cells (a ∷ b ∷ c ∷ more) s =
    let one : length (a ∷ b ∷ c ∷ more) ≡ 1 → ⊥ = λ e. omega arith in
    let two : length (a ∷ b ∷ c ∷ more) ≡ 2 → ⊥ = λ e. omega arith in
    record {
      same = λ m n. other_some f k cells (a ∷ b ∷ c ∷ more) m one two ∙ sym (other_some f k cells (a ∷ b ∷ c ∷ more) n one two);
      arrow_fits = λ m. tt;
    }

atom_some : (a m : List ℕ) → is_some (atom_body a m) ≡ true
atom_some a m = by_tests (is a "!") (is a "true") (is a "fail") _
  where
    by_tests : (x y z : Bool) (p : Body) → is_some (if x then Some Cut else if y then Some True else if z then Some Fail else Some p) ≡ true
    by_tests true y z p = refl
    by_tests false true z p = refl
    by_tests false false true p = refl
    by_tests false false false p = refl

read_steady : (c : Cell) (parts : List Read) → AreSteady parts → IsSteady (read_of c parts)
unfolding FitsArrow
read_steady (Var v) parts s = record { same = λ m n. refl; arrow_fits = λ m. tt }
read_steady (Int i) parts s = record { same = λ m n. refl; arrow_fits = λ m. tt }
read_steady (Atom a) parts s = record { same = λ m n. atom_some a m ∙ sym (atom_some a n); arrow_fits = λ m. tt }
read_steady (Func f k) parts s =
    let r = compound_steady f k (cells_of (Func f k) parts) parts s in
    record { same = r.same; arrow_fits = r.arrow_fits }

take_steady : (k : ℕ) (rs : List Read) → AreSteady rs → AreSteady (take k rs)
unfolding AreSteady
take_steady zero rs s = tt
take_steady (suc k) [] s = tt
take_steady (suc k) (r ∷ rs) s = (s.0, take_steady k rs s.1)

drop_steady : (k : ℕ) (rs : List Read) → AreSteady rs → AreSteady (drop k rs)
unfolding AreSteady
drop_steady zero rs s = s
drop_steady (suc k) [] s = s
drop_steady (suc k) (r ∷ rs) s = drop_steady k rs s.1

all_steady : (cells : List Cell) → AreSteady (of_terms read_of cells)
unfolding AreSteady
all_steady [] = tt
all_steady (c ∷ cells) =
    (read_steady c (take (arity_of c) (of_terms read_of cells)) (take_steady (arity_of c) (of_terms read_of cells) (all_steady cells)), drop_steady (arity_of c) (of_terms read_of cells) (all_steady cells))

first_steady : (rs : List Read) → AreSteady rs → IsSteady (slice_index_or rs 0 unread)
unfolding AreSteady FitsArrow
first_steady [] s = record { same = λ m n. refl; arrow_fits = λ m. tt }
first_steady (r ∷ rs) s = s.0

term_read : List Cell → Read
term_read t = slice_index_or (of_terms read_of t) 0 unread

term_steady : (t : List Cell) → IsSteady (term_read t)
unfolding term_read
term_steady t = first_steady (of_terms read_of t) (all_steady t)

pub body-steady : (m n : List ℕ) (t : List Cell) → is_some (body_of m t) ≡ is_some (body_of n t)
unfolding body_of term_read
body-steady m n t = (term_steady t).same m n

-- ---- the parts of a compound

term_read-cells : (t : List Cell) → is_terms 1 t ≡ true → (term_read t).cells ≡ t
unfolding term_read
term_read-cells t h = cells_of_one read_of (λ (r : Read). r.cells) (λ c parts. refl) unread t h

unary-body : (f m : List ℕ) (a : List Cell) → is_terms 1 a ≡ true → is_some (body_of m (Func f 1 ∷ a)) ≡ (if is f "\\+" then is_some (body_of m a) else true)
unfolding body_of term_read
unary-body f m a ha =
    ap (λ parts. is_some (compound_body f 1 (cells_of (Func f 1) (take 1 parts)) (take 1 parts) m)) (of_one read_of unread a ha)
    ∙ unary_some f (cells_of (Func f 1) (term_read a ∷ [])) (term_read a) m

pair-body : (f m : List ℕ) (a b : List Cell) → is_terms 1 a ≡ true → is_terms 1 b ≡ true
    → is_some (body_of m (Func f 2 ∷ a ++ b)) ≡ (if is f "," || is f ";" || is f "->" then is_some (body_of m a) && is_some (body_of m b) else if is f ":" then is_some (within_module a (λ n. body_of n b)) else true)
unfolding body_of term_read
pair-body f m a b ha hb =
    let x = is_some ((term_read a).body m) && is_some ((term_read b).body m) in
    ap (λ parts. is_some (compound_body f 2 (cells_of (Func f 2) (take 2 parts)) (take 2 parts) m)) (of_two read_of unread a b ha hb)
    ∙ binary_some f (cells_of (Func f 2) (term_read a ∷ term_read b ∷ [])) (term_read a) (term_read b) m ((term_steady a).arrow_fits m)
    ∙ ap (λ cells. if is f "," || is f ";" || is f "->" then x else if is f ":" then is_some (within_module cells (term_read b).body) else true) (term_read-cells a ha)

other-body : (f m : List ℕ) (k : ℕ) (rest : List Cell) → is_terms 1 (Func f k ∷ rest) ≡ true → (k ≡ 1 → ⊥) → (k ≡ 2 → ⊥) → is_some (body_of m (Func f k ∷ rest)) ≡ true
unfolding body_of
other-body f m k rest h one two =
    let taken = length-arguments read_of f k rest h in
    other_some f k (cells_of (Func f k) (take k (of_terms read_of rest))) (take k (of_terms read_of rest)) m (λ e. one (sym taken ∙ e)) (λ e. two (sym taken ∙ e))

within-atom : (n : List ℕ) (cells : List Cell) (body : Reads) → cells ≡ Atom n ∷ [] → within_module cells body ≡ body n
within-atom n cells body e = ap (λ cs. within_module cs body) e

within-other : (cells : List Cell) (body : Reads) → is_terms 1 cells ≡ true → is_atom cells ≡ false → is_some (within_module cells body) ≡ false
within-other [] body h o = absurd (false≢true h)
within-other (Var v ∷ cells) body h o = refl
within-other (Int i ∷ cells) body h o = refl
within-other (Atom a ∷ cells) body h o = absurd (false≢true (sym o))
within-other (Func f k ∷ cells) body h o = refl

-- ---- at a place of the heap

name-unary : (h : State) (at a : Ref) (u : IsUnary h at a) → name_of (instance_at h at.at) ≡ Some u.name
name-unary h at a u = ap name_of u.shape

name-pair : (h : State) (at : Ref) (p : Ref × Ref) (u : IsPair h at p) → name_of (instance_at h at.at) ≡ Some u.name
name-pair h at p u = ap name_of u.shape

pub made_not : (h : State) (at a : Ref) → IsUnary h at a → has_name (codes "\\+") (name_of (instance_at h at.at)) ≡ true → IsMadeOf h at (One a)
made_not h at a u named =
    let is_not : is u.name "\\+" ≡ true = sym (ap (has_name (codes "\\+")) (name-unary h at a u)) ∙ named in
    record {
      body = λ m.
          ap (λ t. is_some (body_of m t)) u.shape ∙ unary-body u.name m (instance_at h a.at) u.term
          ∙ ap (λ t. if t then is_body_at h m a else true) is_not ∙ sym (and-true (is_body_at h m a));
      places = (u.place, tt);
      fewer = let n : length (instance_at h at.at) ≡ suc (length (instance_at h a.at)) = ap length u.shape in omega arith;
    }

pub made_unary : (h : State) (at a : Ref) → IsUnary h at a → has_name (codes "\\+") (name_of (instance_at h at.at)) ≡ false → IsMadeOf h at Goal
made_unary h at a u named =
    let is_not : is u.name "\\+" ≡ false = sym (ap (has_name (codes "\\+")) (name-unary h at a u)) ∙ named in
    record {
      body = λ m.
          ap (λ t. is_some (body_of m t)) u.shape ∙ unary-body u.name m (instance_at h a.at) u.term
          ∙ ap (λ t. if t then is_body_at h m a else true) is_not;
      places = tt;
      fewer = let n : length (instance_at h at.at) ≡ suc (length (instance_at h a.at)) = ap length u.shape in omega arith;
    }

length-pair : (h : State) (at : Ref) (p : Ref × Ref) → IsPair h at p → length (instance_at h at.at) ≡ suc (length (instance_at h p.0.at) + length (instance_at h p.1.at))
length-pair h at p u = ap length u.shape ∙ ap suc (length-append (instance_at h p.0.at) (instance_at h p.1.at))

pair-at : (h : State) (at : Ref) (p : Ref × Ref) → IsPair h at p → (m : List ℕ) (j c : Bool) → is_junction (name_of (instance_at h at.at)) ≡ j → has_name (codes ":") (name_of (instance_at h at.at)) ≡ c
    → is_body_at h m at ≡ (if j then is_body_at h m p.0 && is_body_at h m p.1 else if c then is_some (within_module (instance_at h p.0.at) (λ n. body_of n (instance_at h p.1.at))) else true)
pair-at h at p u m j c is_j is_c =
    let a = instance_at h p.0.at in
    let b = instance_at h p.1.at in
    let within = is_some (within_module a (λ n. body_of n b)) in
    let junction : (is u.name "," || is u.name ";" || is u.name "->") ≡ j = sym (ap is_junction (name-pair h at p u)) ∙ is_j in
    let colon : is u.name ":" ≡ c = sym (ap (has_name (codes ":")) (name-pair h at p u)) ∙ is_c in
    ap (λ t. is_some (body_of m t)) u.shape ∙ pair-body u.name m a b u.first_term u.second_term
    ∙ ap (λ t. if t then is_body_at h m p.0 && is_body_at h m p.1 else if is u.name ":" then within else true) junction
    ∙ ap (λ t. if j then is_body_at h m p.0 && is_body_at h m p.1 else if t then within else true) colon

pub made_junction : (h : State) (at : Ref) (p : Ref × Ref) → IsPair h at p → is_junction (name_of (instance_at h at.at)) ≡ true → IsMadeOf h at (Two p.0 p.1)
made_junction h at p u is_j =
    record {
      body = λ m. pair-at h at p u m true _ is_j refl ∙ ap (λ x. is_body_at h m p.0 && x) (sym (and-true (is_body_at h m p.1)));
      places = (u.first_place, (u.second_place, tt));
      fewer = let n = length-pair h at p u in omega arith;
    }

pub made_within : (h : State) (at : Ref) (p : Ref × Ref) → IsPair h at p → is_junction (name_of (instance_at h at.at)) ≡ false → has_name (codes ":") (name_of (instance_at h at.at)) ≡ true → is_atom (instance_at h p.0.at) ≡ true → IsMadeOf h at (One p.1)
made_within h at p u is_j is_c atom =
    let inner = atom_alone (instance_at h p.0.at) u.first_term atom in
    record {
      body = λ m.
          pair-at h at p u m false true is_j is_c
          ∙ ap is_some (within-atom inner.0 (instance_at h p.0.at) (λ n. body_of n (instance_at h p.1.at)) inner.1)
          ∙ body-steady inner.0 m (instance_at h p.1.at) ∙ sym (and-true (is_body_at h m p.1));
      places = (u.second_place, tt);
      fewer = let n = length-pair h at p u in omega arith;
    }

pub made_wrong : (h : State) (at : Ref) (p : Ref × Ref) → IsPair h at p → is_junction (name_of (instance_at h at.at)) ≡ false → has_name (codes ":") (name_of (instance_at h at.at)) ≡ true → is_atom (instance_at h p.0.at) ≡ false → IsMadeOf h at NoGoal
made_wrong h at p u is_j is_c other =
    record {
      body = λ m. pair-at h at p u m false true is_j is_c ∙ within-other (instance_at h p.0.at) (λ n. body_of n (instance_at h p.1.at)) u.first_term other;
      places = tt;
      fewer = let n = length-pair h at p u in omega arith;
    }

pub made_pair : (h : State) (at : Ref) (p : Ref × Ref) → IsPair h at p → is_junction (name_of (instance_at h at.at)) ≡ false → has_name (codes ":") (name_of (instance_at h at.at)) ≡ false → IsMadeOf h at Goal
made_pair h at p u is_j is_c =
    record {
      body = λ m. pair-at h at p u m false false is_j is_c;
      places = tt;
      fewer = let n = length-pair h at p u in omega arith;
    }

pub made_other : (h : State) (at : Ref) → IsCompound (instance_at h at.at) → HasNoArguments 1 (instance_at h at.at) → HasNoArguments 2 (instance_at h at.at) → IsMadeOf h at Goal
made_other h at u one two =
    let whole : is_terms 1 (Func u.name u.arity ∷ u.rest) ≡ true = subst (λ cs. is_terms 1 cs ≡ true) u.shape u.term in
    record {
      body = λ m.
          ap (λ t. is_some (body_of m t)) u.shape
          ∙ other-body u.name m u.arity u.rest whole (λ e. one u.name u.rest (u.shape ∙ ap (λ k. Func u.name k ∷ u.rest) e)) (λ e. two u.name u.rest (u.shape ∙ ap (λ k. Func u.name k ∷ u.rest) e));
      places = tt;
      fewer = let n : length (instance_at h at.at) ≡ suc (length u.rest) = ap length u.shape in omega arith;
    }

pub made_integer : (h : State) (at : Ref) (i : ℤ) → instance_at h at.at ≡ Int i ∷ [] → IsMadeOf h at NoGoal
unfolding body_of
made_integer h at i e =
    record {
      body = λ m. ap (λ t. is_some (body_of m t)) e;
      places = tt;
      fewer = let n : length (instance_at h at.at) ≡ 1 = ap length e in omega arith;
    }

pub made_variable : (h : State) (at : Ref) (v : ℕ) → instance_at h at.at ≡ Var v ∷ [] → IsMadeOf h at Goal
unfolding body_of
made_variable h at v e =
    record {
      body = λ m. ap (λ t. is_some (body_of m t)) e;
      places = tt;
      fewer = let n : length (instance_at h at.at) ≡ 1 = ap length e in omega arith;
    }

pub made_atom : (h : State) (at : Ref) (a : List ℕ) → instance_at h at.at ≡ Atom a ∷ [] → IsMadeOf h at Goal
unfolding body_of
made_atom h at a e =
    record {
      body = λ m. ap (λ t. is_some (body_of m t)) e ∙ atom_some a m;
      places = tt;
      fewer = let n : length (instance_at h at.at) ≡ 1 = ap length e in omega arith;
    }
