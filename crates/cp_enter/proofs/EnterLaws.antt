-- A term that is run as a goal.
use Rattle.std.proofs.Common.{◌≡◌, ℕ, suc, ◌<◌, true, false, Some, None, Option, List, [], ◌∷◌, length, refl, sym, ◌∙◌, ap, arith}
use Rattle.std.specs.Prelude.{is_some, map, codes, if◌then◌else◌, Ok, Err}
use Rattle.std.proofs.lemmas.Bool.{false≢true}
use Rattle.cp_term.specs.declared.cell.Cell.{Cell}
use Rattle.cp_term.specs.Substitution.{Substitution, apply}
use Rattle.cp_goal.specs.Errors.{instantiation_error, type_error}
use Rattle.cp_code.specs.Bodies.{Body, Seen, seen_from}
use Rattle.cp_code.specs.Programs.{or_fail}
use Rattle.cp_code.specs.Requests.{is_qualified, is_unbound}
use Rattle.cp_code.specs.Tree as tree
use Rattle.cp_code.specs.Tree.{extended, longer}
use Rattle.cp_code.specs.Machine as machine
use Rattle.cp_run.specs.Gaining.{raise_row}
use Rattle.cp_enter.specs.Rows.{enter_row, body_row, opened_row}

pub opened-body : (o : Option Body) (inner : ℕ) (g ctx : List Cell) (rest : List tree.Item) (s : Substitution) (next level units : ℕ) (copies : List (List Cell)) (fs : List machine.Frame)
    → is_some o ≡ true → inner ≡ suc level
    → opened_row (or_fail o) inner rest s next level units copies fs ≡ body_row o g ctx rest s next level units copies fs
opened-body None inner g ctx rest s next level units copies fs is e = absurd (false≢true is)
opened-body (Some b) inner g ctx rest s next level units copies fs is e = ap (λ i. opened_row b i rest s next level units copies fs) e

pub no-body : (o : Option Body) (g ctx : List Cell) (rest : List tree.Item) (s : Substitution) (next level units : ℕ) (copies : List (List Cell)) (fs : List machine.Frame)
    → is_some o ≡ false
    → raise_row (type_error (codes "callable") g) ctx rest s next level units copies fs ≡ body_row o g ctx rest s next level units copies fs
no-body None g ctx rest s next level units copies fs is = refl
no-body (Some b) g ctx rest s next level units copies fs is = absurd (false≢true (sym is))

pub some-of : {A : Type 0} (xs : List A) → (xs ≡ [] → ⊥) → 0 < length xs
some-of [] not = absurd (not refl)
some-of (x ∷ xs) not = omega arith

pub extended-some : (g : List Cell) (extra : List (List Cell)) (n : ℕ) → length extra ≡ n → 0 < n → is_qualified g ≡ false → extended g extra ≡ longer g extra
extended-some g [] n len some is = absurd (omega arith)
extended-some g (x ∷ extra) n len some is = ap (λ b. if b then Err (type_error (codes "callable") g) else longer g (x ∷ extra)) is

pub extended-qualified : (g : List Cell) (extra : List (List Cell)) (n : ℕ) → length extra ≡ n → 0 < n → is_qualified g ≡ true → extended g extra ≡ Err (type_error (codes "callable") g)
extended-qualified g [] n len some is = absurd (omega arith)
extended-qualified g (x ∷ extra) n len some is = ap (λ b. if b then Err (type_error (codes "callable") g) else longer g (x ∷ extra)) is

pub unbound-goal : (m : List ℕ) (g : List Cell) (extra : List (List Cell)) (ctx : List Cell) (rest : List tree.Item) (s : Substitution) (next level units : ℕ) (copies : List (List Cell)) (fs : List machine.Frame)
    → (x : Seen) → seen_from m (apply s g) ≡ x → is_unbound x.goal ≡ true
    → raise_row instantiation_error ctx rest s next level units copies fs ≡ enter_row m g extra ctx rest s next level units copies fs
unbound-goal m g extra ctx rest s next level units copies fs x seen is =
    ap (λ b. machine.enters_if b x (map (apply s) extra) ctx rest s next level units copies fs) (sym is)
    ∙ ap (λ (y : Seen). machine.enters_if (is_unbound y.goal) y (map (apply s) extra) ctx rest s next level units copies fs) (sym seen)
