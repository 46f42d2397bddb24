-- The terms inside a fact that says how a goal ended.
use Rattle.std.proofs.Common.{◌≡◌, ℕ, List, [], ◌∷◌, sym, subst, refl, Bool, true, false, rules, Option, Some, None, Bor}
use Rattle.std.specs.Prelude.{◌==◌, ◌&&◌, ℤ, pos, cond, codes, IfSome}
use Rattle.std.specs.Option.{option_copied}
use Rattle.std.specs.Ordering.{int_eq}
use Rattle.std.specs.Str.{bytes_eq}
use Rattle.cp_term.specs.declared.cell.Cell.{Cell}
use Rattle.cp_term.specs.declared.cell.Cell.TheVariants.{Var, Int, Atom, Func}
use Rattle.cp_term.specs.Preorder.{is_terms}
use Rattle.cp_term.specs.Numbering.{is_numbered_from}
use Rattle.cp_top.specs.Ending.{how_in, ball_in}

-- what holds of the cells, if there are any, holds of the slice of them
lent : (P : List Cell → Type 0) (r : Option (Bor (List Cell))) (o : Option (List Cell)) → option_copied r ≡ o → IfSome o P → IfSome r (λ cells. P cells.now)
lent P None o e h = tt
lent P (Some cells) o e h = subst (λ (x : Option (List Cell)). IfSome x P) (sym e) h

when : (P : List Cell → Type 0) (b : Bool) (cells : List Cell) → (b ≡ true → P cells) → IfSome (cond b (Some cells) None) P
when P true cells h = h refl
when P false cells h = tt

is-two : (f : List ℕ) (k : ℕ) (i : ℤ) → (bytes_eq f (codes "ended") && k == 2 && int_eq i (pos 1)) ≡ true → k ≡ 2
is-two f k i e = search rules

is-one : (f : List ℕ) (k : ℕ) → (bytes_eq f (codes "ball") && k == 1) ≡ true → k ≡ 1
is-one f k e = search rules

-- what holds of a term whose first cells are passed over holds of what follows
how-if : (P Q : List Cell → Type 0) → ((f : List ℕ) (k : ℕ) (i : ℤ) (how : List Cell) → k ≡ 2 → P (Func f k ∷ Int i ∷ how) → Q how) → (cells : List Cell) → P cells → IfSome (how_in cells) Q
how-if P Q step [] p = tt
how-if P Q step (Var v ∷ cells) p = tt
how-if P Q step (Int i ∷ cells) p = tt
how-if P Q step (Atom a ∷ cells) p = tt
how-if P Q step (Func f k ∷ []) p = tt
how-if P Q step (Func f k ∷ Var v ∷ cells) p = tt
how-if P Q step (Func f k ∷ Atom a ∷ cells) p = tt
how-if P Q step (Func f k ∷ Func g n ∷ cells) p = tt
how-if P Q step (Func f k ∷ Int i ∷ how) p = when Q (bytes_eq f (codes "ended") && k == 2 && int_eq i (pos 1)) how (λ e. step f k i how (is-two f k i e) p)

ball-if : (P Q : List Cell → Type 0) → ((f : List ℕ) (k : ℕ) (ball : List Cell) → k ≡ 1 → P (Func f k ∷ ball) → Q ball) → (cells : List Cell) → P cells → IfSome (ball_in cells) Q
ball-if P Q step [] p = tt
ball-if P Q step (Var v ∷ cells) p = tt
ball-if P Q step (Int i ∷ cells) p = tt
ball-if P Q step (Atom a ∷ cells) p = tt
ball-if P Q step (Func f k ∷ ball) p = when Q (bytes_eq f (codes "ball") && k == 1) ball (λ e. step f k ball (is-one f k e) p)

pub how-term : (r : Option (Bor (List Cell))) (cells : List Cell) → option_copied r ≡ how_in cells → is_terms 1 cells ≡ true → IfSome r (λ how. is_terms 1 how.now ≡ true)
how-term r cells e t =
    lent (λ how. is_terms 1 how ≡ true) r (how_in cells) e
    (how-if (λ cells. is_terms 1 cells ≡ true) (λ how. is_terms 1 how ≡ true) (λ f k i how two t. subst (λ n. is_terms 1 (Func f n ∷ Int i ∷ how) ≡ true) two t) cells t)

pub how-numbered : (r : Option (Bor (List Cell))) (cells : List Cell) → option_copied r ≡ how_in cells → is_numbered_from 0 cells ≡ true → IfSome r (λ how. is_numbered_from 0 how.now ≡ true)
how-numbered r cells e n =
    lent (λ how. is_numbered_from 0 how ≡ true) r (how_in cells) e
    (how-if (λ cells. is_numbered_from 0 cells ≡ true) (λ how. is_numbered_from 0 how ≡ true) (λ f k i how two n. n) cells n)

pub ball-term : (r : Option (Bor (List Cell))) (cells : List Cell) → option_copied r ≡ ball_in cells → is_terms 1 cells ≡ true → IfSome r (λ ball. is_terms 1 ball.now ≡ true)
ball-term r cells e t =
    lent (λ ball. is_terms 1 ball ≡ true) r (ball_in cells) e
    (ball-if (λ cells. is_terms 1 cells ≡ true) (λ ball. is_terms 1 ball ≡ true) (λ f k ball one t. subst (λ n. is_terms 1 (Func f n ∷ ball) ≡ true) one t) cells t)

pub ball-numbered : (r : Option (Bor (List Cell))) (cells : List Cell) → option_copied r ≡ ball_in cells → is_numbered_from 0 cells ≡ true → IfSome r (λ ball. is_numbered_from 0 ball.now ≡ true)
ball-numbered r cells e n =
    lent (λ ball. is_numbered_from 0 ball ≡ true) r (ball_in cells) e
    (ball-if (λ cells. is_numbered_from 0 cells ≡ true) (λ ball. is_numbered_from 0 ball ≡ true) (λ f k ball one n. n) cells n)
