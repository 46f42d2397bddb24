-- The answers and balls of remote calls.
use Rattle.std.proofs.Common.{◌≡◌, ℕ, zero, suc, ◌+◌, ◌<◌, ◌≤◌, false, nat_eq, List, [], ◌∷◌, ◌++◌, length, get_or, drop, refl, sym, ◌∙◌, ap, arith}
use Rattle.std.specs.Prelude.{nat_lt, Ok, Err, codes, ◌||◌, if◌then◌else◌}
use Rattle.std.proofs.lemmas.List.{length-map}
use Rattle.cp_term.specs.declared.cell.Cell.{Cell}
use Rattle.cp_term.specs.declared.cell.Cell.TheVariants.{Var, Int, Atom, Func}
use Rattle.cp_term.specs.Numbering.{renamed, fresh, canon, occurs}
use Rattle.cp_term.specs.Substitution.{Binding, Substitution, apply}
use Rattle.cp_term.proofs.lemmas.NumberingLaws.{canon-fresh}
use Rattle.cp_term.proofs.lemmas.SubstitutionLaws.{apply-after}
use Rattle.cp_heap.specs.declared.bound.Bound.{Bound}
use Rattle.cp_heap.specs.State.{State, bindings_from, AreBoundWithin, IsWellFormed, substitution}
use Rattle.cp_heap.proofs.TrailLaws.{replace-apart}
use Rattle.cp_heap.proofs.MoveLaws.{within_of}
use Rattle.cp_goal.specs.Errors.{resource_error}
use Rattle.cp_code.specs.Code.{Code}
use Rattle.cp_code.specs.Requests.{handed_out}
use Rattle.cp_code.specs.Machine as machine
use Rattle.cp_run.specs.declared.run.Run.{Run}
use Rattle.cp_run.specs.Shown.{here_of, goals_shown, frames_of, moved}
use Rattle.cp_run.specs.Entering.{IsExtended}
use Rattle.cp_run.specs.Gaining.{throw_copy_row}

-- ---- new variables are not bound

apart-new : (v n : ℕ) (t : List Cell) → v < n → occurs v (fresh n t) ≡ false
apart-new v n [] lt = refl
apart-new v n (Var u ∷ t) lt =
    let ne : nat_eq (u + n) v ≡ false = grind arith in
    ap (λ b. b || occurs v (fresh n t)) ne ∙ apart-new v n t lt
apart-new v n (Int i ∷ t) lt = apart-new v n t lt
apart-new v n (Atom a ∷ t) lt = apart-new v n t lt
apart-new v n (Func f k ∷ t) lt = apart-new v n t lt

new-stays : (terms : List (List Cell)) (n places : ℕ) (s : Substitution) (trail : List Bound) (t : List Cell) → AreBoundWithin n places trail → apply s (fresh n t) ≡ fresh n t
    → apply (bindings_from terms s trail) (fresh n t) ≡ fresh n t
new-stays terms n places s [] t within h = h
new-stays terms n places s (b ∷ trail) t within h =
    let x : Binding = record { var = b.variable; term = apply s (get_or terms b.at []) } in
    new-stays terms n places (s ++ x ∷ []) trail t within.2
    (apply-after s (x ∷ []) (fresh n t) ∙ ap (apply (x ∷ [])) h ∙ replace-apart x (fresh n t) (apart-new b.variable n t within.0))

pub fresh-stays : (h : State) → IsWellFormed h → (t : List Cell) → apply (substitution h) (fresh h.variables t) ≡ fresh h.variables t
fresh-stays h well t = new-stays h.terms h.variables (length h.terms) [] h.trail t (within_of h.terms h.variables [] h.trail well.trail) refl

pub fresh-handed : (n : ℕ) (t : List Cell) → handed_out (fresh n t) ≡ handed_out t
fresh-handed n t =
    ap (λ k. if nat_lt 4096 k then Err (resource_error (codes "term_size")) else Ok (canon (fresh n t))) (length-map t (renamed (λ v. v + n)))
    ∙ ap (λ c. if nat_lt 4096 (length t) then Err (resource_error (codes "term_size")) else Ok c) (canon-fresh n t)

-- what is thrown does not depend on the heap
pub throw-extended : (code : Code) (old new : Run) (rest level : ℕ) (t u ctx : List Cell) → IsExtended old new → rest < length old.goals → handed_out t ≡ handed_out u
    → moved code new rest level (throw_copy_row t ctx) ≡ moved code old rest level (throw_copy_row u ctx)
throw-extended code old new rest level t u ctx e lt h =
    ap (λ o. machine.throws_copy o ctx (goals_shown (here_of new) rest) new.units new.copies (frames_of code new)) h
    ∙ ap (λ gs. machine.throws_copy (handed_out u) ctx gs new.units new.copies (frames_of code new)) (e.goals rest lt)
    ∙ ap (λ n. machine.throws_copy (handed_out u) ctx (goals_shown (here_of old) rest) n new.copies (frames_of code new)) (ap (λ (r : Run). r.units) e.state)
    ∙ ap (λ ts. machine.throws_copy (handed_out u) ctx (goals_shown (here_of old) rest) old.units ts (frames_of code new)) (ap (λ (r : Run). r.copies) e.state)
    ∙ ap (λ fs. machine.throws_copy (handed_out u) ctx (goals_shown (here_of old) rest) old.units old.copies fs) (e.frames code)

-- ---- the next answer

pub drop-at : {A : Type 0} (xs : List A) (n : ℕ) (d : A) → n < length xs → drop n xs ≡ get_or xs n d ∷ drop (n + 1) xs
drop-at [] n d lt = absurd (omega arith)
drop-at (x ∷ xs) zero d lt = refl
drop-at (x ∷ xs) (suc n) d lt =
    let e : suc n + 1 ≡ suc (n + 1) = omega arith in
    drop-at xs n d (omega arith) ∙ ap (λ k. get_or xs n d ∷ drop k (x ∷ xs)) (sym e)

pub drop-past : {A : Type 0} (xs : List A) (n : ℕ) → length xs ≤ n → drop n xs ≡ []
drop-past [] zero le = refl
drop-past [] (suc n) le = refl
drop-past (x ∷ xs) zero le = absurd (omega arith)
drop-past (x ∷ xs) (suc n) le = drop-past xs n (omega arith)
