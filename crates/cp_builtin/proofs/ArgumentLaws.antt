-- Past the last argument of a term.
use Rattle.std.proofs.Common.{◌≡◌, ℕ, zero, suc, ◌-◌, ◌<◌, ◌≤◌, true, List, [], ◌∷◌, length, refl, ◌∙◌, ap, arith}
use Rattle.std.specs.Prelude.{pos, slice_get, Some}
use Rattle.std.proofs.lemmas.Bool.{and_parts}
use Rattle.std.proofs.lemmas.Option.{slice_get_past}
use Rattle.cp_term.specs.declared.cell.Cell.{Cell}
use Rattle.cp_term.specs.Preorder.{has_arity, terms_after, is_terms, drop_terms, split_terms, arguments}
use Rattle.cp_term.specs.Substitution.{Substitution}
use Rattle.cp_term.specs.Unification.{unify}
use Rattle.cp_term.proofs.lemmas.PreorderLaws.{terms_after-arity}
use Rattle.cp_term.proofs.lemmas.TermGraphLaws.{arity_at_most}
use Rattle.cp_goal.specs.Builtins.{by, Fails, argument_if, argument_at}

length-split_terms : (n : ℕ) (cells : List Cell) → length (split_terms n cells) ≡ n
length-split_terms zero cells = refl
length-split_terms (suc n) cells = ap suc (length-split_terms n (drop_terms 1 cells))

pub few_arguments : (t : List Cell) → is_terms 1 t ≡ true → length (arguments t) ≤ 255
few_arguments [] one = omega arith
few_arguments (c ∷ cells) one =
    let arity = arity_at_most c (and_parts (has_arity c) (is_terms (terms_after c 0) cells) one).0 in
    omega (arith, length-split_terms (terms_after c 0) cells, terms_after-arity c 0)

module _ (t x : List Cell) (s : Substitution) (next : ℕ) where
  pub argument-none : argument_at (pos 0) t x s next ≡ Fails
  argument-none = refl

  pub argument-past : (n : ℕ) → length (arguments t) < n → argument_at (pos n) t x s next ≡ Fails
  argument-past zero lt = refl
  argument-past (suc n) lt = ap (λ a. argument_if a x s next) (slice_get_past (arguments t) n (omega arith))

  pub argument-found : (n : ℕ) (a : List Cell) → 0 < n → slice_get (arguments t) (n - 1) ≡ Some a → argument_at (pos n) t x s next ≡ by (unify s x a) next
  argument-found zero a lt e = absurd (omega arith)
  argument-found (suc n) a lt e = ap (λ o. argument_if o x s next) (ap (slice_get (arguments t)) back ∙ e)
    where
      back : n ≡ suc n - 1
      back = omega arith
