-- A name and a number of arguments, and new variables.
use Rattle.std.proofs.Common.{◌≡◌, ℕ, zero, suc, ◌+◌, ◌<◌, List, [], ◌∷◌, ◌++◌, refl, ◌∙◌, ap, arith}
use Rattle.std.specs.Prelude.{Ok}
use Rattle.cp_term.specs.declared.cell.Cell.{Cell}
use Rattle.cp_term.specs.declared.cell.Cell.TheVariants.{Var, Atom, Func}
use Rattle.cp_term.specs.Substitution.{Substitution}
use Rattle.cp_term.specs.Unification.{unify}
use Rattle.cp_term.proofs.lemmas.Sequences.{unify-prefix}
use Rattle.cp_goal.specs.Errors.{with_two}
use Rattle.cp_goal.specs.Builtins.{new_variables, made_term}

pub unify-with_two : (s : Substitution) (name : List ℕ) (a b c d : List Cell) → unify s (with_two name a b) (with_two name c d) ≡ unify s (a ++ b) (c ++ d)
unify-with_two s name a b c d = unify-prefix (Func name 2 ∷ []) (Func name 2 ∷ []) (a ++ b) (c ++ d) s refl

pub new_variables-last : (k next : ℕ) → new_variables (k + 1) next ≡ new_variables k next ++ Var (next + k) ∷ []
new_variables-last zero next = let e : next ≡ next + 0 = omega arith in ap (λ n. Var n ∷ []) e
new_variables-last (suc k) next =
    let e : suc next + k ≡ next + suc k = omega arith in
    let f : suc k + 1 ≡ suc (k + 1) = omega arith in
    ap (λ n. new_variables n next) f
    ∙ ap (λ cs. Var next ∷ cs) (new_variables-last k (suc next))
    ∙ ap (λ n. Var next ∷ new_variables k (suc next) ++ Var n ∷ []) e

pub made_term-atom : (a : List ℕ) (k next : ℕ) → 0 < k → made_term (Atom a ∷ []) k next ≡ Ok (Func a k ∷ new_variables k next)
made_term-atom a zero next some = absurd (omega arith)
made_term-atom a (suc k) next some = refl
