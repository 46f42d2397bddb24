-- `M:main` is a term, which a worker that looks for any goal finds.
use Rattle.std.proofs.Common.{◌≡◌, ℕ, List, [], ◌∷◌, true, cond, refl, sym, ap, ◌∙◌}
use Rattle.std.specs.Prelude.{Result, Ok, Err, codes, is_some}
use Rattle.cp_term.specs.declared.cell.Cell.{Cell}
use Rattle.cp_term.specs.declared.cell.Cell.TheVariants.{Atom}
use Rattle.cp_term.specs.declared.term.TermError.{TermError}
use Rattle.cp_term.specs.CellEq.{cell_eq, cell_eq-refl}
use Rattle.cp_term.specs.TermOf.{term_of}
use Rattle.cp_term.specs.Unification.{disagreement, first_disagreement, unifiable_apart, unify_by}
use Rattle.cp_call.specs.Setup.{main_of}
use Rattle.cp_schedule.specs.First.{any_goal}

main_is_term : (m : List ℕ) → term_of (main_of m) ≡ Ok (main_of m)
main_is_term m = refl

pub never_refused : (m : List ℕ) (cells : List Cell) (read : Result (List Cell) TermError) (e : TermError) → cells ≡ main_of m → read ≡ term_of cells → read ≡ Err e → ⊥
never_refused m cells read e is reads refused =
    let same : Ok (main_of m) ≡ Err e = sym (reads ∙ (ap term_of is ∙ main_is_term m)) ∙ refused in cc

pub main_unifies : (m : List ℕ) → unifiable_apart any_goal (main_of m) ≡ true
main_unifies m = ap (λ b.
    is_some (unify_by 0 (record { var = 0; term = main_of m } ∷ []) any_goal (main_of m)
    (cond b (disagreement (Atom (codes "main") ∷ []) (Atom (codes "main") ∷ [])) (first_disagreement (Atom m) (Atom (codes "main") ∷ []) (Atom m) (Atom (codes "main") ∷ [])))))
    (cell_eq-refl (Atom m))
