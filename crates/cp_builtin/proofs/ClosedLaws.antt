-- Terms without variables.
use Rattle.std.proofs.Common.{◌≡◌, ℕ, true, List, [], ◌∷◌, refl, ◌∙◌, ap}
use Rattle.std.proofs.lemmas.Bool.{false≢true}
use Rattle.cp_term.specs.declared.cell.Cell.{Cell}
use Rattle.cp_term.specs.declared.cell.Cell.TheVariants.{Var, Int, Atom, Func}
use Rattle.cp_term.specs.Numbering.{fresh, canon}
use Rattle.cp_term.specs.Substitution.{Substitution, apply}
use Rattle.cp_term.proofs.lemmas.SubstitutionLaws.{apply-nil, apply-Int, apply-Atom, apply-Func}
use Rattle.cp_heap.specs.State.{is_ground}
use Rattle.cp_goal.specs.declared.fault.Fault.TheVariants.{ZeroDivisor, IntOverflow, Shift}
use Rattle.cp_goal.specs.declared.why.Why.{Why}
use Rattle.cp_goal.specs.declared.why.Why.TheVariants.{Unbound, NotEvaluable, Faulty}
use Rattle.cp_goal.specs.Evaluation.{why_kind}

pub apply-closed : (s : Substitution) (cells : List Cell) → is_ground cells ≡ true → apply s cells ≡ cells
apply-closed s [] q = apply-nil s
apply-closed s (Var v ∷ cells) q = absurd (false≢true q)
apply-closed s (Int i ∷ cells) q = apply-Int s i cells ∙ ap (λ cs. Int i ∷ cs) (apply-closed s cells q)
apply-closed s (Atom a ∷ cells) q = apply-Atom s a cells ∙ ap (λ cs. Atom a ∷ cs) (apply-closed s cells q)
apply-closed s (Func f k ∷ cells) q = apply-Func s f k cells ∙ ap (λ cs. Func f k ∷ cs) (apply-closed s cells q)

pub fresh-closed : (n : ℕ) (cells : List Cell) → is_ground cells ≡ true → fresh n cells ≡ cells
fresh-closed n [] q = refl
fresh-closed n (Var v ∷ cells) q = absurd (false≢true q)
fresh-closed n (Int i ∷ cells) q = ap (λ cs. Int i ∷ cs) (fresh-closed n cells q)
fresh-closed n (Atom a ∷ cells) q = ap (λ cs. Atom a ∷ cs) (fresh-closed n cells q)
fresh-closed n (Func f k ∷ cells) q = ap (λ cs. Func f k ∷ cs) (fresh-closed n cells q)

pub canon-closed : (cells : List Cell) → is_ground cells ≡ true → canon cells ≡ cells
canon-closed [] q = refl
canon-closed (Var v ∷ cells) q = absurd (false≢true q)
canon-closed (Int i ∷ cells) q = ap (λ cs. Int i ∷ cs) (canon-closed cells q)
canon-closed (Atom a ∷ cells) q = ap (λ cs. Atom a ∷ cs) (canon-closed cells q)
canon-closed (Func f k ∷ cells) q = ap (λ cs. Func f k ∷ cs) (canon-closed cells q)

-- the kind of an error of an expression
pub why-closed : (why : Why) → is_ground (why_kind why) ≡ true
why-closed Unbound = refl
why-closed (NotEvaluable name arity) = refl
why-closed (Faulty ZeroDivisor) = refl
why-closed (Faulty IntOverflow) = refl
why-closed (Faulty (Shift n)) = refl
