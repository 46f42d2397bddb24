-- A run whose heap gains terms.
use Rattle.std.proofs.Common.{◌≡◌, ℕ, ◌<◌, ◌≤◌, true, false, cond, List, [], length, get_or, refl, sym, ◌∙◌, ap, arith}
use Rattle.std.specs.Prelude.{nat_lt, Ok, Err, codes}
use Rattle.cp_term.specs.Numbering.{canon}
use Rattle.cp_goal.specs.Errors.{resource_error}
use Rattle.cp_code.specs.Requests.{handed_out}
use Rattle.cp_term.specs.declared.cell.Cell.{Cell}
use Rattle.cp_term.specs.Substitution.{apply}
use Rattle.cp_heap.specs.State.{State}
use Rattle.cp_heap.proofs.lemmas.Growth.{places-more}
use Rattle.cp_lists.specs.Growing.{GainsTerms}
use Rattle.cp_code.specs.Code.{Code}
use Rattle.cp_run.specs.declared.run.Run.{Run}
use Rattle.cp_run.specs.Shown.{here_of, bound, goals_shown, frames_of, moved}
use Rattle.cp_run.specs.Stands.{Holds}
use Rattle.cp_run.specs.Entering.{IsExtended}
use Rattle.cp_run.specs.Gaining.{Row, IsGained}
use Rattle.cp_run.proofs.GrowthLaws.{get-of-grown}
use Rattle.cp_run.proofs.EnteringLaws.{extended-is}

moved-gained : (r : Run) (h : State) → IsExtended r (record r { heap = h }) → GainsTerms r.heap h → (code : Code) (rest level : ℕ) (row : Row) → rest < length r.goals → moved code (record r { heap = h }) rest level row ≡ moved code r rest level row
moved-gained r h e g code rest level row lt =
    let new : Run = record r { heap = h } in
    ap (λ gs. row gs (bound (here_of new)) h.variables level r.units r.copies (frames_of code new)) (e.goals rest lt)
    ∙ ap (λ s. row (goals_shown (here_of r) rest) s h.variables level r.units r.copies (frames_of code new)) g.bindings
    ∙ ap (λ v. row (goals_shown (here_of r) rest) (bound (here_of r)) v level r.units r.copies (frames_of code new)) g.variables
    ∙ ap (λ fs. row (goals_shown (here_of r) rest) (bound (here_of r)) r.heap.variables level r.units r.copies fs) (e.frames code)

pub gained-is : (r : Run) (h : State) → Holds r → GainsTerms r.heap h → IsGained r (record r { heap = h })
gained-is r h holds g =
    let e = extended-is r h holds g.extends in
    let more = places-more r.heap h g.extends in
    record {
      heap = g;
      extended = e;
      lists = refl;
      there = λ at lt. omega arith;
      terms = λ at lt. get-of-grown r.heap.terms h.terms at [] g.extends.terms lt;
      instances = λ at lt.
          ap (λ s. apply s (get_or h.terms at [])) g.bindings
          ∙ ap (apply (bound (here_of r))) (get-of-grown r.heap.terms h.terms at [] g.extends.terms lt);
      moved = moved-gained r h e g;
    }

-- ---- terms that are handed out

pub small-is-handed : (t handed : List Cell) → length t ≤ 4096 → handed ≡ canon t → handed_out t ≡ Ok handed
small-is-handed t handed le e =
    let no : nat_lt 4096 (length t) ≡ false = grind arith in
    ap (λ b. cond b (Err (resource_error (codes "term_size"))) (Ok (canon t))) no ∙ ap Ok (sym e)

pub large-is-not : (t : List Cell) → 4096 < length t → handed_out t ≡ Err (resource_error (codes "term_size"))
large-is-not t lt =
    let yes : nat_lt 4096 (length t) ≡ true = grind arith in
    ap (λ b. cond b (Err (resource_error (codes "term_size"))) (Ok (canon t))) yes
