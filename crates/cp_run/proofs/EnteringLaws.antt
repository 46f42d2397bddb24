-- A run that enters a clause.
use Rattle.std.proofs.Common.{◌≡◌, ℕ, zero, suc, ◌+◌, ◌<◌, Bool, true, cond, Some, None, Option, List, [], ◌∷◌, ◌++◌, reverse, length, get_or, max, refl, sym, ◌∙◌, ap, subst}
use Rattle.std.specs.Prelude.{is_some, IfSome}
use Rattle.std.proofs.lemmas.Bool.{false≢true}
use Rattle.std.specs.Option.{option_map}
use Rattle.cp_term.specs.declared.cell.Cell.{Cell}
use Rattle.cp_term.specs.Numbering.{fresh, next_variable}
use Rattle.cp_term.specs.Substitution.{Substitution, apply}
use Rattle.cp_term.specs.Unification.{Disagreement, Same, Clash, Bind, disagreement, disagreement_under, unify, unify_by}
use Rattle.cp_term.proofs.lemmas.SubstitutionLaws.{apply-after}
use Rattle.cp_heap.specs.declared.reference.Ref.{Ref}
use Rattle.cp_heap.specs.State.{State, Extends}
use Rattle.cp_code.specs.Bodies.{Body, body_of, fresh_body}
use Rattle.cp_code.specs.declared.clause.Clause.{Clause}
use Rattle.cp_code.specs.Clauses.{head_of, body_term}
use Rattle.cp_code.specs.Code.{Code}
use Rattle.cp_code.specs.Programs.{or_fail, body_in, clause_of}
use Rattle.cp_code.specs.Tree as tree
use Rattle.cp_code.specs.Machine as machine
use Rattle.cp_run.specs.declared.goal.Goal.TheVariants as goal
use Rattle.cp_run.specs.declared.clause_parts.ClauseParts.{ClauseParts}
use Rattle.cp_run.specs.declared.frame.Frame.{Frame}
use Rattle.cp_run.specs.declared.item.Item.{Item}
use Rattle.cp_run.specs.declared.item.Item.TheVariants as item
use Rattle.cp_run.specs.declared.moment.Moment.{Moment}
use Rattle.cp_run.specs.declared.run.Run.{Run}
use Rattle.cp_run.specs.Shown.{Here, here, back, bound, instance_in, rules_from, here_of, goals_shown, frames_shown, frames_of, moved}
use Rattle.cp_run.specs.Stands.{HasItem, IsMoment, Holds, Grows, IsPut}
use Rattle.cp_run.specs.Entering.{IsBodyOf, HasGoodBody, HasBody, HasClause, IsExtended, IsBodyPut, body_shown, clause_entered, clause_row}
use Rattle.cp_run.proofs.FreshLaws.{body-fresh}
use Rattle.cp_run.proofs.GrowthLaws.{get-of-grown, HasLists-grow, back-grow, moment-grow, stand-grow, frames-grow, goals-grow, heap-grows}

-- ---- a heap that has grown

with_heap : Run → State → Run
with_heap r h = record r { heap = h }

pub extended-is : (r : Run) (h : State) → Holds r → Extends r.heap h → IsExtended r (record r { heap = h })
extended-is r h holds e =
    let g : Grows (here_of r) (here h r.goals) = heap-grows r.heap h r.goals e in
    record {
      state = refl;
      heap = e;
      holds = record {
        items = HasLists-grow r.heap.terms h.terms r.goals e.terms holds.items;
        frames = stand-grow (reverse r.frames.items) (here_of r) (here h r.goals) g holds.frames;
      };
      goals = λ n lt. goals-grow (here_of r) (here h r.goals) n g holds.items lt;
      frames = λ code. frames-grow code (reverse r.frames.items) (here_of r) (here h r.goals) g holds.frames;
      grows = g;
    }

-- ---- unification of an instance

same_by : (n : ℕ) (s : Substitution) (a' a b : List Cell) (d : Disagreement) → apply s a' ≡ apply s a → unify_by n s a' b d ≡ unify_by n s a b d
same_by n s a' a b Same e = refl
same_by n s a' a b Clash e = refl
same_by zero s a' a b (Bind x) e = refl
same_by (suc n) s a' a b (Bind x) e =
    let more : apply (s ++ x ∷ []) a' ≡ apply (s ++ x ∷ []) a = apply-after s (x ∷ []) a' ∙ ap (apply (x ∷ [])) e ∙ sym (apply-after s (x ∷ []) a) in
    ap (λ t. unify_by n (s ++ x ∷ []) a' b (disagreement t (apply (s ++ x ∷ []) b))) more
    ∙ same_by n (s ++ x ∷ []) a' a b (disagreement_under (s ++ x ∷ []) a b) more

pub unify-instance : (s : Substitution) (a' a b : List Cell) → apply s a' ≡ apply s a → unify s a' b ≡ unify s a b
unify-instance s a' a b e =
    ap (λ t. unify_by (max (next_variable t) (next_variable (apply s b))) s a' b (disagreement t (apply s b))) e
    ∙ same_by (max (next_variable (apply s a)) (next_variable (apply s b))) s a' a b (disagreement_under s a b) e

-- ---- a body in front of a list of goals

pub no-body-put : (r : Run) (m : List ℕ) (body : Option Ref) (rest level : ℕ) → body ≡ None → rest < length r.goals → IsBodyPut r r m body rest level rest
no-body-put r m body rest level e lt =
    let P : Option Ref → Type 0 = λ b. IsBodyPut r r m b rest level rest in
    let none : IsBodyPut r r m None rest level rest = record { place = lt; goals = refl; state = refl; frames = λ code. refl } in
    subst P (sym e) none

pub body-there : (terms : List (List Cell)) (m seer : List ℕ) (body : Option Ref) (at : Ref) (level : ℕ) → body ≡ Some at → seer ≡ m → HasBody terms m body → HasItem terms (item.Goal (goal.Term seer at) level)
body-there terms m seer body at level e f has =
    let P : Option Ref → Type 0 = λ b. HasBody terms m b in
    let Q : List ℕ → Type 0 = λ n. HasItem terms (item.Goal (goal.Term n at) level) in
    subst Q (sym f) (subst P e has)

pub some-body-put : (r new : Run) (m seer : List ℕ) (body : Option Ref) (at : Ref) (rest level n : ℕ) → body ≡ Some at → seer ≡ m → IsPut r new (item.Goal (goal.Term seer at) level) rest n → IsBodyPut r new m body rest level n
some-body-put r new m seer body at rest level n e f put =
    let P : Option Ref → Type 0 = λ b. IsBodyPut r new m b rest level n in
    let some : IsBodyPut r new m (Some at) rest level n = record {
      place = put.place;
      goals = put.goals ∙ ap (λ x. tree.Goal (or_fail (body_of x (get_or r.heap.terms at.at []))) level ∷ goals_shown (here_of r) rest) f;
      state = put.state;
      frames = put.frames;
    } in
    subst P (sym e) some

-- ---- a clause that is entered

some-new : (n : ℕ) (o : Option Body) → is_some (option_map (fresh_body n) o) ≡ is_some o
some-new n None = refl
some-new n (Some b) = refl

fail-new : (n : ℕ) (o : Option Body) → is_some o ≡ true → or_fail (option_map (fresh_body n) o) ≡ fresh_body n (or_fail o)
fail-new n None h = absurd (false≢true h)
fail-new n (Some b) h = refl

pub body-good : (terms : List (List Cell)) (n : ℕ) (m : List ℕ) (body : Option Ref) (b : Option (List Cell)) → option_map (λ (r : Ref). get_or terms r.at []) body ≡ option_map (fresh n) b → IsBodyOf m b → IfSome body (λ r. r.at < length terms) → HasBody terms m body
body-good terms n m None b e good there = tt
body-good terms n m (Some r) None e good there = absurd (cc)
body-good terms n m (Some r) (Some t) e good there =
    let f : get_or terms r.at [] ≡ fresh n t = cc in
    (there, ap (λ x. is_some (body_of m x)) f ∙ ap is_some (body-fresh n m t) ∙ some-new n (body_of m t) ∙ good)

body-before : (terms : List (List Cell)) (n : ℕ) (m : List ℕ) (body : Option Ref) (b : Option (List Cell)) (level : ℕ) (rest : List tree.Item) → option_map (λ (r : Ref). get_or terms r.at []) body ≡ option_map (fresh n) b → IsBodyOf m b
    → body_shown terms m body level rest ≡ tree.body_before (body_in m b) n level rest
body-before terms n m None None level rest e good = refl
body-before terms n m None (Some t) level rest e good = absurd (cc)
body-before terms n m (Some r) None level rest e good = absurd (cc)
body-before terms n m (Some r) (Some t) level rest e good =
    let f : get_or terms r.at [] ≡ fresh n t = cc in
    ap (λ x. tree.Goal (or_fail (body_of m x)) level ∷ rest) f
    ∙ ap (λ o. tree.Goal (or_fail o) level ∷ rest) (body-fresh n m t)
    ∙ ap (λ x. tree.Goal x level ∷ rest) (fail-new n (body_of m t) good)

runs_state : (level : ℕ) → List tree.Item → Substitution → ℕ → ℕ → List (List Cell) → List machine.Frame → machine.State
runs_state level gs s v u c fs = record { point = machine.Runs gs s v level; units = u; copies = c; frames = fs }

same_runs : (level : ℕ) (gs gs' : List tree.Item) (s : Substitution) (v v' u u' : ℕ) (c c' : List (List Cell)) (fs fs' : List machine.Frame) → gs ≡ gs' → v ≡ v' → u ≡ u' → c ≡ c' → fs ≡ fs' → runs_state level gs s v u c fs ≡ runs_state level gs' s v' u' c' fs'
same_runs level gs gs' s v v' u u' c c' fs fs' e1 e2 e3 e4 e5 =
    ap (λ x. runs_state level x s v u c fs) e1 ∙ ap (λ x. runs_state level gs' s x u c fs) e2 ∙ ap (λ x. runs_state level gs' s v' x c fs) e3
    ∙ ap (λ x. runs_state level gs' s v' u' x fs) e4 ∙ ap (λ x. runs_state level gs' s v' u' c' x) e5

frame_at : Code → (pred from goal rest level : ℕ) → List Frame → ℕ → Here → List machine.Frame
frame_at code pred from goal rest level fs v h = machine.Clauses (rules_from code pred from) (instance_in h goal) (goals_shown h rest) (bound h) v level ∷ frames_shown code h fs

pub entered-is : (code : Code) (r0 r1 r2 : Run) (m : Moment) (clause : Clause) (parts : ClauseParts) (unified : Bool) (pred from goal rest level : ℕ)
    → HasClause r0.heap r1.heap clause.whole parts → IsExtended r0 r1 → IsExtended r1 r2 → r2.heap ≡ record r1.heap { trail = r2.heap.trail }
    → unify (bound (here_of r1)) (instance_in (here_of r1) goal) (get_or r1.heap.terms parts.head.at []) ≡ cond unified (Some (bound (here_of r2))) None → unified ≡ true
    → IsMoment m (here_of r0) → back m (here_of r0) ≡ here_of r0 → goal < length r0.heap.terms → rest < length r0.goals → HasGoodBody clause
    → clause_entered code r2 clause.module parts.body m pred from goal rest level ≡ moved code r0 rest level (clause_row (rules_from code pred from) (clause_of clause) (instance_in (here_of r0) goal))
unfolding runs_state frame_at
entered-is code r0 r1 r2 m clause parts unified pred from goal rest level hc x1 x2 kept un is_one now whole goal_there rest_there good =
    let back2 : back m (here_of r2) ≡ here_of r0 = back-grow m (here_of r1) (here_of r2) (moment-grow m (here_of r0) (here_of r1) now x1.grows) x2.grows ∙ back-grow m (here_of r0) (here_of r1) now x1.grows ∙ whole in
    let lists1 : r1.goals ≡ r0.goals = ap (λ (r : Run). r.goals) x1.state in
    let there1 : rest < length r1.goals = subst (λ (l : List (List Item)). rest < length l) (sym lists1) rest_there in
    let fs2 : reverse r2.frames.items ≡ reverse r0.frames.items = ap (λ (r : Run). reverse r.frames.items) x2.state ∙ ap (λ (r : Run). reverse r.frames.items) x1.state in
    let terms2 : r2.heap.terms ≡ r1.heap.terms = ap (λ (h : State). h.terms) kept in
    let next2 : r2.heap.variables ≡ r0.heap.variables + next_variable clause.whole = ap (λ (h : State). h.variables) kept ∙ hc.variables in
    let body2 : option_map (λ (r : Ref). get_or r2.heap.terms r.at []) parts.body ≡ option_map (fresh r0.heap.variables) (body_term clause.whole) = ap (λ ts. option_map (λ (r : Ref). get_or ts r.at []) parts.body) terms2 ∙ hc.body in
    let goals2 : goals_shown (here_of r2) rest ≡ goals_shown (here_of r0) rest = x2.goals rest there1 ∙ x1.goals rest rest_there in
    let s0 = bound (here_of r0) in
    let g0 = instance_in (here_of r0) goal in
    let goal1 : instance_in (here_of r1) goal ≡ g0 =
    ap (λ s. apply s (get_or r1.heap.terms goal [])) hc.bindings ∙ ap (apply s0) (get-of-grown r0.heap.terms r1.heap.terms goal [] x1.heap.terms goal_there) in
    let one : unify s0 g0 (fresh r0.heap.variables (head_of clause.whole)) ≡ Some (bound (here_of r2)) =
    ap (λ h. unify s0 g0 h) (sym hc.head)
    ∙ ap (λ g. unify s0 g (get_or r1.heap.terms parts.head.at [])) (sym goal1)
    ∙ ap (λ s. unify s (instance_in (here_of r1) goal) (get_or r1.heap.terms parts.head.at [])) (sym hc.bindings)
    ∙ un ∙ ap (λ b. cond b (Some (bound (here_of r2))) None) is_one in
    same_runs level _ _ (bound (here_of r2)) _ _ _ _ _ _ _ _
    (ap (body_shown r2.heap.terms clause.module parts.body level) goals2 ∙ body-before r2.heap.terms r0.heap.variables clause.module parts.body (body_term clause.whole) level (goals_shown (here_of r0) rest) body2 good)
    next2
    (ap (λ (r : Run). r.units) x2.state ∙ ap (λ (r : Run). r.units) x1.state)
    (ap (λ (r : Run). r.copies) x2.state ∙ ap (λ (r : Run). r.copies) x1.state)
    (ap (frame_at code pred from goal rest level (reverse r2.frames.items) m.mark.variables) back2
    ∙ ap (λ fs. frame_at code pred from goal rest level fs m.mark.variables (here_of r0)) fs2
    ∙ ap (λ v. frame_at code pred from goal rest level (reverse r0.frames.items) v (here_of r0)) (ap (λ (h : Here). h.variables) whole))
    ∙ ap (λ o. machine.clause_move o (clause_of clause) (rules_from code pred from) g0 (goals_shown (here_of r0) rest) s0 r0.heap.variables level r0.units r0.copies (frames_of code r0)) (sym one)
