-- When an error has its own ball.
use Rattle.std.proofs.Common.{◌≡◌, ℕ, ◌<◌, ◌≤◌, cond, List, length, ◌∙◌, ap, refl}
use Rattle.std.specs.Prelude.{codes}
use Rattle.std.proofs.lemmas.Bool.{lt-ltb, le-ltb}
use Rattle.cp_term.specs.declared.cell.Cell.{Cell}
use Rattle.cp_term.specs.Numbering.{canon}
use Rattle.cp_term.specs.Substitution.{apply}
use Rattle.cp_heap.specs.State.{State, term, substitution, instance_at, Extends}
use Rattle.cp_heap.proofs.lemmas.Growth.{term-stays}
use Rattle.cp_goal.specs.Errors.{resource_error}
use Rattle.cp_goal.specs.Builtins.{context, error_term, ball}
use Rattle.cp_builtin.proofs.KindLaws.{apply-with_two}
use Rattle.cp_builtin.proofs.ClosedLaws.{apply-closed, canon-closed}

module _ (kind context : List Cell) where
  pub ball-fits : length (error_term kind context) ≤ 4096 → ball kind context ≡ canon (error_term kind context)
  ball-fits le = ap (λ b. cond b (error_term (resource_error (codes "term_size")) context) (canon (error_term kind context))) (le-ltb 4096 (length (error_term kind context)) le)

  pub ball-too_large : 4096 < length (error_term kind context) → ball kind context ≡ error_term (resource_error (codes "term_size")) context
  ball-too_large lt = ap (λ b. cond b (error_term (resource_error (codes "term_size")) context) (canon (error_term kind context))) (lt-ltb 4096 (length (error_term kind context)) lt)

-- the instance of an error term, from that of its kind
pub error-instance : (old mid new : State) (kind at error : ℕ) (m n : List ℕ) (a : ℕ) → Extends old mid → substitution mid ≡ substitution old → kind < length old.terms → term mid at ≡ context m n a
    → substitution new ≡ substitution mid → term new error ≡ error_term (term mid kind) (term mid at) → instance_at new error ≡ error_term (instance_at old kind) (context m n a)
error-instance old mid new kind at error m n a grown before live here bindings made =
    (λ i. apply ((bindings ∙ before) i) ((made ∙ (λ j. error_term (term-stays old mid grown kind live j) (here j))) i))
    ∙ apply-with_two (substitution old) (codes "error") (term old kind) (context m n a)
    ∙ ap (error_term (instance_at old kind)) (apply-closed (substitution old) (context m n a) refl)

-- the ball that stands for one that is too large
pub substitute-exported : (h : State) (error : ℕ) (m n : List ℕ) (a : ℕ) → term h error ≡ error_term (resource_error (codes "term_size")) (context m n a)
    → canon (instance_at h error) ≡ error_term (resource_error (codes "term_size")) (context m n a)
substitute-exported h error m n a here =
    ap (λ cs. canon (apply (substitution h) cs)) here
    ∙ ap canon (apply-closed (substitution h) (error_term (resource_error (codes "term_size")) (context m n a)) refl)
    ∙ canon-closed (error_term (resource_error (codes "term_size")) (context m n a)) refl
