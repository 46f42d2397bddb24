-- The arguments of goals.
use Rattle.std.proofs.Common.{◌≡◌, ℕ, zero, suc, ◌+◌, ◌<◌, ◌≤◌, Bool, true, false, Some, Option, List, [], ◌∷◌, ◌++◌, length, get_or, refl, sym, ◌∙◌, ap, arith}
use Rattle.std.specs.Prelude.{slice_get, unwrap_or, nat_lt, ◌&&◌}
use Rattle.std.specs.List.{flat_map, list_any}
use Rattle.std.proofs.lemmas.Bool.{false≢true}
use Rattle.cp_term.specs.declared.cell.Cell.{Cell}
use Rattle.cp_term.specs.declared.cell.Cell.TheVariants.{Var, Int, Atom, Func}
use Rattle.cp_term.specs.Preorder.{is_terms, take_terms, drop_terms, split_terms, terms_after, arguments, is_arity}
use Rattle.cp_term.specs.Substitution.{Substitution, apply}
use Rattle.cp_term.proofs.lemmas.PreorderLaws.{take_terms-drop_terms, is_terms-drop_terms}
use Rattle.cp_term.proofs.lemmas.SubstitutionLaws.{apply-Func}
use Rattle.cp_builtin.proofs.ListLaws.{length-arguments}
use Rattle.cp_code.specs.Requests.{functor_of}
use Rattle.cp_code.specs.Tree.{with_module, with_modules, qualified}

-- ---- how many there are

arity-same : (f g : List ℕ) (j k : ℕ) → (let a : Option (List ℕ × ℕ) = Some (f, j) in let b : Option (List ℕ × ℕ) = Some (g, k) in a ≡ b) → j ≡ k
arity-same f g j k e =
    let arity : Option (List ℕ × ℕ) → ℕ = λ o. (unwrap_or o (f, j)).1 in
    ap arity e

pub functor-arguments : (g : List Cell) (f : List ℕ) (k : ℕ) → functor_of g ≡ Some (f, k) → length (arguments g) ≡ k
functor-arguments [] f k e = absurd (cc)
functor-arguments (Var v ∷ cells) f k e = absurd (cc)
functor-arguments (Int i ∷ cells) f k e = absurd (cc)
functor-arguments (Atom a ∷ cells) f k e = arity-same a f 0 k e
functor-arguments (Func h j ∷ cells) f k e = length-arguments h j cells ∙ arity-same h f j k e

length-split : (n : ℕ) (cells : List Cell) → length (split_terms n cells) ≡ n
length-split zero cells = refl
length-split (suc n) cells = ap suc (length-split n (drop_terms 1 cells))

pub qualified-length : (m : List ℕ) (marks : List Bool) (t : List Cell) → length (arguments (qualified m marks t)) ≡ length (arguments t)
qualified-length m marks [] = refl
qualified-length m marks (c ∷ cells) =
    length-split (terms_after c 0) (flat_map (λ t. t) (with_modules m marks (arguments (c ∷ cells)))) ∙ sym (length-split (terms_after c 0) cells)

-- an instance has no fewer
pub instance-arguments : (s : Substitution) (t : List Cell) → length (arguments t) ≤ length (arguments (apply s t))
instance-arguments s [] = omega arith
instance-arguments s (Var v ∷ cells) = omega arith
instance-arguments s (Int i ∷ cells) = omega arith
instance-arguments s (Atom a ∷ cells) = omega arith
instance-arguments s (Func f k ∷ cells) =
    let e : length (arguments (apply s (Func f k ∷ cells))) ≡ k = ap (λ x. length (arguments x)) (apply-Func s f k cells) ∙ length-arguments f k (apply s cells) in
    let n = length-arguments f k cells in
    omega arith

-- ---- modules in front of them

pub with-length : (m : List ℕ) (marks : List Bool) (ts : List (List Cell)) → length (with_modules m marks ts) ≡ length ts
with-length m [] ts = refl
with-length m (b ∷ marks) [] = refl
with-length m (b ∷ marks) (t ∷ ts) = ap suc (with-length m marks ts)

pub with-at : (m : List ℕ) (marks : List Bool) (ts : List (List Cell)) (i : ℕ) (t : List Cell) → slice_get ts i ≡ Some t → slice_get (with_modules m marks ts) i ≡ Some (with_module m (get_or marks i false) t)
with-at m [] ts i t e = e
with-at m (b ∷ marks) [] i t e = absurd (cc)
with-at m (b ∷ marks) (x ∷ ts) zero t e = let same : x ≡ t = cc in ap (λ y. Some (with_module m b y)) same
with-at m (b ∷ marks) (x ∷ ts) (suc i) t e = with-at m marks ts i t e

none-marked : (m : List ℕ) (marks : List Bool) (ts : List (List Cell)) → list_any (λ b. b) marks ≡ false → with_modules m marks ts ≡ ts
none-marked m [] ts e = refl
none-marked m (true ∷ marks) ts e = absurd (false≢true (sym e))
none-marked m (false ∷ marks) [] e = refl
none-marked m (false ∷ marks) (t ∷ ts) e = ap (λ xs. t ∷ xs) (none-marked m marks ts e)

joined-split : (n : ℕ) (cells : List Cell) → is_terms n cells ≡ true → flat_map (λ t. t) (split_terms n cells) ≡ cells
joined-split zero [] e = refl
joined-split zero (c ∷ cells) e = absurd (false≢true e)
joined-split (suc n) cells e =
    ap (λ xs. take_terms 1 cells ++ xs) (joined-split n (drop_terms 1 cells) (is_terms-drop_terms 1 n cells (let one : 1 + n ≡ suc n = omega arith in ap (λ k. is_terms k cells) one ∙ e)))
    ∙ take_terms-drop_terms 1 cells

and-second : (a b : Bool) → a && b ≡ true → b ≡ true
and-second true b h = h
and-second false b h = absurd (false≢true h)

and-first : (a b : Bool) → a && b ≡ true → a ≡ true
and-first true b h = refl
and-first false b h = absurd (false≢true h)

pub compound-arity : (t : List Cell) (f : List ℕ) (k : ℕ) (rest : List Cell) → t ≡ Func f k ∷ rest → is_terms 1 t ≡ true → (0 < k) × (k < 256)
compound-arity t f k rest shape h =
    let e : is_arity k && is_terms (k + 0) rest ≡ true = ap (is_terms 1) (sym shape) ∙ h in
    let both : nat_lt 0 k && nat_lt k 256 ≡ true = and-first (is_arity k) (is_terms (k + 0) rest) e in
    let some = and-first (nat_lt 0 k) (nat_lt k 256) both in
    let few = and-second (nat_lt 0 k) (nat_lt k 256) both in
    (grind arith, grind arith)

split-after : (c : Cell) (cells : List Cell) → is_terms 1 (c ∷ cells) ≡ true → is_terms (terms_after c 0) cells ≡ true
split-after (Var v) cells e = e
split-after (Int i) cells e = e
split-after (Atom a) cells e = e
split-after (Func f k) cells e = and-second (is_arity k) (is_terms (k + 0) cells) e

pub whole-qualified : (m : List ℕ) (marks : List Bool) (t : List Cell) → is_terms 1 t ≡ true → list_any (λ b. b) marks ≡ false → t ≡ qualified m marks t
whole-qualified m marks [] e none = refl
whole-qualified m marks (c ∷ cells) e none =
    sym (ap (λ xs. c ∷ flat_map (λ t. t) xs) (none-marked m marks (arguments (c ∷ cells)) none)
    ∙ ap (λ xs. c ∷ xs) (joined-split (terms_after c 0) cells (split-after c cells e)))

with-none : (m : List ℕ) (marks : List Bool) → with_modules m marks [] ≡ []
with-none m [] = refl
with-none m (b ∷ marks) = refl

pub cell-qualified : (m : List ℕ) (marks : List Bool) (c : Cell) → terms_after c 0 ≡ 0 → c ∷ [] ≡ qualified m marks (c ∷ [])
cell-qualified m marks c e =
    sym (ap (λ n. c ∷ flat_map (λ t. t) (with_modules m marks (split_terms n []))) e ∙ ap (λ xs. c ∷ flat_map (λ t. t) xs) (with-none m marks))

pub compound-qualified : (m : List ℕ) (marks : List Bool) (f : List ℕ) (k : ℕ) (cells t : List Cell) → t ≡ Func f k ∷ cells
    → Func f k ∷ flat_map (λ t. t) (with_modules m marks (arguments t)) ≡ qualified m marks t
compound-qualified m marks f k cells t e =
    ap (λ x. Func f k ∷ flat_map (λ t. t) (with_modules m marks (arguments x))) e ∙ sym (ap (qualified m marks) e)
