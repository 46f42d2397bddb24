-- The formulas of assertions speak of arguments that there are.
use Rattle.std.proofs.Common.{◌≡◌, ℕ, zero, suc, ◌<◌, Bool, true, false, nat_eq, List, [], ◌∷◌, take, drop, All, arith, refl}
use Rattle.std.specs.Prelude.{Option, Some, None, nat_lt, slice_index_or, codes, if◌then◌else◌}
use Rattle.std.proofs.lemmas.Bool.Decides.{nat_tests}
use Rattle.std.proofs.lemmas.List.Elements.{All-nil, All-cons, All-head, All-tail, All-drop, All-take}
use Rattle.cp_term.specs.declared.cell.Cell.{Cell}
use Rattle.cp_term.specs.declared.cell.Cell.TheVariants.{Var, Int, Atom, Func}
use Rattle.cp_term.specs.Preorder.{arity_of}
use Rattle.cp_goal.specs.Folds.{of_terms}
use Rattle.cp_code.specs.Bodies.{is}
use Rattle.cp_code.specs.Properties.{Prop, Of, ListOf, Both, Either, Always}
use Rattle.cp_assertion.specs.Formulas.{Part, Variable, Word, Positions, Formula, Other, SpeaksOf, formula_of, joined, with_next, times, of_argument, property_part, list_part, binary_part, compound_part, part_of, formula}
use Rattle.cp_assertion.specs.Assertions.{FormulaSpeaksOf, DraftSpeaksOfArguments, Declared, Form, Head, Drafted, NoAssertion, NoHead, IsDraft, declared, form_of, head_in, before_infix, formula_or_always, drafted_head, drafted_body, drafted}

below : (k n : ℕ) → nat_lt k n ≡ true → k < n
below k n e = grind (arith, nat_tests)

positive : (n : ℕ) → nat_eq n 1 ≡ true → 0 < n
positive n e = grind (arith, nat_tests)

-- a formula that is found so far speaks of arguments that there are
abbrev pub IsGood : ℕ → Part → Type 0
IsGood n (Variable v) = Unit {0}
IsGood n (Word a) = Unit {0}
IsGood n (Positions k p) = SpeaksOf n p
IsGood n (Formula p) = SpeaksOf n p
IsGood n Other = Unit {0}

if_good : (n : ℕ) (b : Bool) (x y : Part) → (b ≡ true → IsGood n x) → IsGood n y → IsGood n (if b then x else y)
if_good n true x y p q = p refl
if_good n false x y p q = q

if_speaks : (n : ℕ) (b : Bool) (x y : Option Prop) → (b ≡ true → FormulaSpeaksOf n x) → FormulaSpeaksOf n y → FormulaSpeaksOf n (if b then x else y)
if_speaks n true x y p q = p refl
if_speaks n false x y p q = q

formula-speaks : (n : ℕ) (p : Part) → IsGood n p → FormulaSpeaksOf n (formula_of n p)
formula-speaks n (Variable v) g = tt
formula-speaks n (Word a) g = if_speaks n (is a "true") (Some Always) (if nat_eq n 1 then Some (Of a 0) else None) (λ e. tt) (if_speaks n (nat_eq n 1) (Some (Of a 0)) None (positive n) tt)
formula-speaks n (Positions k p) g = if_speaks n (nat_eq k n) (Some p) None (λ e. g) tt
formula-speaks n (Formula p) g = g
formula-speaks n Other g = tt

both-good : (n : ℕ) (p q : Option Prop) → FormulaSpeaksOf n p → FormulaSpeaksOf n q → IsGood n (joined Both p q)
both-good n (Some p) (Some q) g h = (g, h)
both-good n (Some p) None g h = tt
both-good n None q g h = tt

either-good : (n : ℕ) (p q : Option Prop) → FormulaSpeaksOf n p → FormulaSpeaksOf n q → IsGood n (joined Either p q)
either-good n (Some p) (Some q) g h = (g, h)
either-good n (Some p) None g h = tt
either-good n None q g h = tt

next-good : (n k : ℕ) (p : Prop) (t : List ℕ) → (k < n → SpeaksOf n p) → IsGood n (with_next n k p t)
next-good n k p t g = if_good n (nat_lt k n) (Positions (suc k) (Both p (Of t k))) Other (λ e. (g (below k n e), below k n e)) tt

argument-good : (n v : ℕ) (p : Prop) → (v < n → SpeaksOf n p) → IsGood n (of_argument n v p)
argument-good n v p g = if_good n (nat_lt v n) (Formula p) Other (λ e. g (below v n e)) tt

first : (n : ℕ) → 1 < n → 0 < n
first n h = omega arith

times-good : (n : ℕ) (a b : Part) → IsGood n a → IsGood n (times n a b)
times-good n (Word a) (Word t) g = next-good n 1 (Of a 0) t (first n)
times-good n (Word a) (Variable v) g = tt
times-good n (Word a) (Positions k p) g = tt
times-good n (Word a) (Formula p) g = tt
times-good n (Word a) Other g = tt
times-good n (Positions k p) (Word t) g = next-good n k p t (λ h. g)
times-good n (Positions k p) (Variable v) g = tt
times-good n (Positions k p) (Positions j q) g = tt
times-good n (Positions k p) (Formula q) g = tt
times-good n (Positions k p) Other g = tt
times-good n (Variable v) b g = tt
times-good n (Formula p) b g = tt
times-good n Other b g = tt

property-good : (n : ℕ) (t : List ℕ) (a : Part) → IsGood n (property_part n t a)
property-good n t (Variable v) = argument-good n v (Of t v) (λ h. h)
property-good n t (Word a) = tt
property-good n t (Positions k p) = tt
property-good n t (Formula p) = tt
property-good n t Other = tt

list-good : (n : ℕ) (a b : Part) → IsGood n (list_part n a b)
list-good n (Variable v) (Word t) = argument-good n v (ListOf t v) (λ h. h)
list-good n (Variable v) (Variable u) = tt
list-good n (Variable v) (Positions k p) = tt
list-good n (Variable v) (Formula p) = tt
list-good n (Variable v) Other = tt
list-good n (Word a) b = tt
list-good n (Positions k p) b = tt
list-good n (Formula p) b = tt
list-good n Other b = tt

binary-good : (n : ℕ) (f : List ℕ) (a b : Part) → IsGood n a → IsGood n b → IsGood n (binary_part n f a b)
binary-good n f a b g h =
    if_good n (is f ",") (joined Both (formula_of n a) (formula_of n b)) _
    (λ e. both-good n (formula_of n a) (formula_of n b) (formula-speaks n a g) (formula-speaks n b h))
    (if_good n (is f ";") (joined Either (formula_of n a) (formula_of n b)) _
    (λ e. either-good n (formula_of n a) (formula_of n b) (formula-speaks n a g) (formula-speaks n b h))
    (if_good n (is f "*") (times n a b) _ (λ e. times-good n a b g)
    (if_good n (is f "list") (list_part n a b) Other (λ e. list-good n a b) tt)))

compound-good : (n : ℕ) (f : List ℕ) (k : ℕ) (parts : List Part) → All (IsGood n) parts → IsGood n (compound_part n f k parts)
compound-good n f zero parts g = tt
compound-good n f (suc zero) [] g = tt
compound-good n f (suc zero) (a ∷ []) g = property-good n f a
compound-good n f (suc zero) (a ∷ b ∷ parts) g = tt
compound-good n f (suc (suc zero)) [] g = tt
compound-good n f (suc (suc zero)) (a ∷ []) g = tt
compound-good n f (suc (suc zero)) (a ∷ b ∷ []) g = binary-good n f a b (All-head (IsGood n) a (b ∷ []) g) (All-head (IsGood n) b [] (All-tail (IsGood n) a (b ∷ []) g))
compound-good n f (suc (suc zero)) (a ∷ b ∷ c ∷ parts) g = tt
compound-good n f (suc (suc (suc k))) parts g = tt

part-good : (n : ℕ) (c : Cell) (parts : List Part) → All (IsGood n) parts → IsGood n (part_of n c parts)
part-good n (Var v) parts g = tt
part-good n (Int i) parts g = tt
part-good n (Atom a) parts g = tt
part-good n (Func f k) parts g = compound-good n f k parts g

terms-good : (n : ℕ) (cells : List Cell) → All (IsGood n) (of_terms (part_of n) cells)
terms-good n [] = All-nil (IsGood n)
terms-good n (c ∷ cells) =
    let rest = of_terms (part_of n) cells in
    All-cons (IsGood n) (part_of n c (take (arity_of c) rest)) (drop (arity_of c) rest)
    (part-good n c (take (arity_of c) rest) (All-take (IsGood n) (arity_of c) rest (terms-good n cells)))
    (All-drop (IsGood n) (arity_of c) rest (terms-good n cells))

at_first : (n : ℕ) (parts : List Part) → All (IsGood n) parts → IsGood n (slice_index_or parts 0 Other)
at_first n [] g = tt
at_first n (p ∷ parts) g = All-head (IsGood n) p parts g

-- the formula that a term is speaks of arguments that there are
pub formula-good : (n : ℕ) (cells : List Cell) → FormulaSpeaksOf n (formula n cells)
unfolding formula
formula-good n cells = formula-speaks n (slice_index_or (of_terms (part_of n) cells) 0 Other) (at_first n (of_terms (part_of n) cells) (terms-good n cells))

always-speaks : (n : ℕ) (cells : Option (List Cell)) → FormulaSpeaksOf n (formula_or_always n cells)
always-speaks n None = tt
always-speaks n (Some cells) = formula-good n (before_infix (codes "+") cells)

-- the formulas of a draft do
abbrev pub DraftedSpeaks : Drafted → Type 0
DraftedSpeaks NoAssertion = Unit {0}
DraftedSpeaks NoHead = Unit {0}
DraftedSpeaks (IsDraft d) = DraftSpeaksOfArguments d

head-speaks : (d : Declared) (form : Form) (h : Option Head) → DraftedSpeaks (drafted_head d form h)
head-speaks d form None = tt
head-speaks d form (Some h) = (always-speaks h.arity form.before, always-speaks h.arity form.after)

body-speaks : (d : Option Declared) → DraftedSpeaks (drafted_body d)
body-speaks None = tt
body-speaks (Some d) = head-speaks d (form_of d.body) (head_in (before_infix (codes "+") (form_of d.body).head))

pub drafted-speaks : (cells : List Cell) → DraftedSpeaks (drafted cells)
unfolding drafted
drafted-speaks cells = body-speaks (declared cells)
