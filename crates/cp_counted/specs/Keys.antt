-- The key of a term, by which a list of facts can be looked up: the first cell of the first argument of a compound term,
-- where that is no variable. Two terms whose keys do not agree do not unify. This is the project's own account of what
-- Prolog systems call indexing on the first argument.
use Rattle.std.specs.Prelude.{◌≡◌, Bool, true, false, ◌&&◌, nat_eq, List, [], ◌∷◌}
use Rattle.std.specs.Ordering.{int_eq}
use Rattle.std.specs.Str.{bytes_eq}
use Rattle.std.specs.Bool.{Decides}
use Rattle.std.proofs.Common.{refl, subst, ap}
use Rattle.std.proofs.lemmas.Bool.{false≢true, and_parts, and_from}
use Rattle.std.proofs.lemmas.Bool.Decides.{Decides-eqb, Decides-int_eq}
use Rattle.std.proofs.lemmas.Slice.Eq.{bytes_eq-Decides}
use Rattle.cp_term.specs.declared.cell.Cell.{Cell}
use Rattle.cp_term.specs.declared.cell.Cell.TheVariants as cell
use Rattle.cp_counted.specs.declared.key.Key.{Key}
use Rattle.cp_counted.specs.declared.key.Key.TheVariants.{Missing, Int, Atom, Func}

-- the key that begins with this cell
abbrev pub cell_key : Cell → Key
cell_key (cell.Var v) = Missing
cell_key (cell.Int i) = Int i
cell_key (cell.Atom name) = Atom name
cell_key (cell.Func name arity) = Func name arity

abbrev pub argument_key : Cell → List Cell → Key
argument_key (cell.Func name arity) (argument ∷ cells) = cell_key argument
argument_key _ _ = Missing

abbrev pub term_key : List Cell → Key
term_key [] = Missing
term_key (c ∷ cells) = argument_key c cells

-- two keys are the same
abbrev pub key_eq : Key → Key → Bool
key_eq Missing Missing = true
key_eq (Int i) (Int j) = int_eq i j
key_eq (Atom a) (Atom b) = bytes_eq a b
key_eq (Func f j) (Func g k) = bytes_eq f g && nat_eq j k
key_eq _ _ = false

-- one of the two keys is missing, or they are the same
abbrev pub keys_agree : Key → Key → Bool
keys_agree Missing b = true
keys_agree a Missing = true
keys_agree a b = key_eq a b

pub key_eq-refl : (k : Key) → key_eq k k ≡ true
key_eq-refl Missing = refl
key_eq-refl (Int i) = (Decides-int_eq i i).1 refl
key_eq-refl (Atom a) = (bytes_eq-Decides a a).1 refl
key_eq-refl (Func f k) = and_from (bytes_eq f f) (nat_eq k k) ((bytes_eq-Decides f f).1 refl) ((Decides-eqb k k).1 refl)

pub key_eq-true : (k l : Key) → key_eq k l ≡ true → k ≡ l
key_eq-true Missing Missing h = refl
key_eq-true (Int i) (Int j) h = ap (λ k. Int k) ((Decides-int_eq i j).0 h)
key_eq-true (Atom a) (Atom b) h = ap (λ n. Atom n) ((bytes_eq-Decides a b).0 h)
key_eq-true (Func f j) (Func g k) h =
    let parts = and_parts (bytes_eq f g) (nat_eq j k) h in
    λ i. Func ((bytes_eq-Decides f g).0 parts.0 i) ((Decides-eqb j k).0 parts.1 i)
key_eq-true Missing (Int j) h = absurd (false≢true h)
key_eq-true Missing (Atom b) h = absurd (false≢true h)
key_eq-true Missing (Func g k) h = absurd (false≢true h)
key_eq-true (Int i) Missing h = absurd (false≢true h)
key_eq-true (Int i) (Atom b) h = absurd (false≢true h)
key_eq-true (Int i) (Func g k) h = absurd (false≢true h)
key_eq-true (Atom a) Missing h = absurd (false≢true h)
key_eq-true (Atom a) (Int j) h = absurd (false≢true h)
key_eq-true (Atom a) (Func g k) h = absurd (false≢true h)
key_eq-true (Func f j) Missing h = absurd (false≢true h)
key_eq-true (Func f j) (Int i) h = absurd (false≢true h)
key_eq-true (Func f j) (Atom b) h = absurd (false≢true h)

pub key_eq-Decides : (k l : Key) → Decides (key_eq k l) (k ≡ l)
key_eq-Decides k l = (key_eq-true k l, λ e. subst (λ x. key_eq k x ≡ true) e (key_eq-refl k))
