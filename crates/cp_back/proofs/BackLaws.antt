-- Rows of the machine on a run that was taken back, or that has grown.
use Rattle.std.proofs.Common.{◌≡◌, ℕ, suc, ◌+◌, ◌<◌, Bool, true, false, cond, Some, None, Option, List, [], length, reverse, get_or, sym, ◌∙◌, ap}
use Rattle.std.specs.Prelude.{codes}
use Rattle.cp_term.specs.declared.cell.Cell.{Cell}
use Rattle.cp_term.specs.Numbering.{fresh, next_variable}
use Rattle.cp_term.specs.Substitution.{Substitution}
use Rattle.cp_term.specs.Unification.{unify}
use Rattle.cp_heap.specs.declared.reference.Ref.{Ref}
use Rattle.cp_goal.specs.Builtins.{context}
use Rattle.cp_goal.specs.Lists.{list_term}
use Rattle.cp_code.specs.Code.{Code}
use Rattle.cp_code.specs.Tree.{apart, variables_in, is_among}
use Rattle.cp_code.specs.Machine as machine
use Rattle.cp_code.specs.Machine.{fail_move, throw_move}
use Rattle.cp_run.specs.declared.moment.Moment.{Moment}
use Rattle.cp_run.specs.declared.frame.Frame.TheVariants as frame
use Rattle.cp_run.specs.declared.run.Run.{Run}
use Rattle.cp_run.specs.Shown.{Here, back, bound, goals_shown, here_of, frames_shown, frames_of, moved}
use Rattle.cp_run.specs.Entering.{IsExtended}
use Rattle.cp_run.proofs.GrowthLaws.{get-of-grown}
use Rattle.cp_enter.specs.Rows.{enter_row}
use Rattle.cp_back.specs.Rows.{unify_row, collect_row, catch_row}
use Rattle.cp_back.specs.Undoing.{IsTakenBack, frames_under}
use Rattle.cp_back.specs.Copies.{AreImported}

-- ---- findall

-- the copies were put on the heap
pub collected-is : (code : Code) (old new : Run) (copies : List (List Cell)) (refs : List Ref) (result : List Cell) (rest level : ℕ)
    → AreImported old.heap new.heap copies refs → IsExtended old new → rest < length old.goals
    → moved code new rest level (unify_row result (list_term (apart old.heap.variables copies))) ≡ moved code old rest level (collect_row result copies)
collected-is code old new copies refs result rest level imported x lt =
    let goals = x.goals rest lt in
    let frames = x.frames code in
    let units : new.units ≡ old.units = ap (λ (r : Run). r.units) x.state in
    let outer : new.copies ≡ old.copies = ap (λ (r : Run). r.copies) x.state in
    λ i. machine.runs_if (unify (imported.bindings i) result (list_term (apart old.heap.variables copies))) (goals i) (imported.variables i) level (units i) (outer i) (frames i)

-- a findall goes on as things were at its moment
pub findall-is : (code : Code) (old now : Run) (m : Moment) (copies outer kept : List (List Cell)) (result : Ref) (rest level : ℕ)
    → IsTakenBack old now m → copies ≡ old.copies → kept ≡ outer
    → moved code (record now { copies = kept }) rest level (collect_row (get_or now.heap.terms result.at []) copies) ≡ fail_move (frames_under code old (frame.Gathering m outer result rest level)) old.units old.copies
findall-is code old now m copies outer kept result rest level taken e f =
    let frames = taken.frames code in
    let units : now.units ≡ old.units = ap (λ (r : Run). r.units) taken.state in
    let at : Here → ℕ → List (List Cell) → List (List Cell) → List machine.Frame → machine.State =
    λ h u cs os fs. machine.runs_if (unify (bound h) (get_or h.terms result.at []) (list_term (apart h.variables cs))) (goals_shown h rest) (h.variables + variables_in cs) level u os fs in
    λ i. at (taken.here i) (units i) (e i) (f i) (frames i)

-- ---- catch

un-some : (o : Option Substitution) (b : Bool) (s : Substitution) → o ≡ cond b (Some s) None → b ≡ true → o ≡ Some s
un-some o b s e t = e ∙ ap (λ x. cond x (Some s) None) t

un-none : (o : Option Substitution) (b : Bool) (s : Substitution) → o ≡ cond b (Some s) None → b ≡ false → o ≡ None
un-none o b s e t = e ∙ ap (λ x. cond x (Some s) None) t

-- a ball that unifies with the ball term of a catch
pub caught-is : (code : Code) (old new : Run) (seer : List ℕ) (pattern recovery : ℕ) (b : List Cell) (ks : List ℕ) (unified : Bool) (rest level : ℕ)
    → unify (bound (here_of old)) (get_or old.heap.terms pattern []) (fresh old.heap.variables b) ≡ cond unified (Some (bound (here_of new))) None → unified ≡ true
    → new.heap.variables ≡ old.heap.variables + next_variable b → IsExtended old new → recovery < length old.heap.terms → rest < length old.goals
    → moved code new rest level (enter_row seer (get_or new.heap.terms recovery []) [] (context seer (codes "catch") 3))
    ≡ moved code old rest level (catch_row seer (get_or old.heap.terms pattern []) (get_or old.heap.terms recovery []) b ks)
caught-is code old new seer pattern recovery b ks unified rest level un is_so variables x there lt =
    let goals = x.goals rest lt in
    let frames = x.frames code in
    let units : new.units ≡ old.units = ap (λ (r : Run). r.units) x.state in
    let copies : new.copies ≡ old.copies = ap (λ (r : Run). r.copies) x.state in
    let same : get_or new.heap.terms recovery [] ≡ get_or old.heap.terms recovery [] = get-of-grown old.heap.terms new.heap.terms recovery [] x.heap.terms there in
    let some = un-some (unify (bound (here_of old)) (get_or old.heap.terms pattern []) (fresh old.heap.variables b)) unified (bound (here_of new)) un is_so in
    (λ i. machine.enters seer (same i) [] (context seer (codes "catch") 3) (goals i) (bound (here_of new)) (variables i) level (units i) (copies i) (frames i))
    ∙ ap (λ o. machine.recovers true o seer (get_or old.heap.terms recovery []) (goals_shown (here_of old) rest) (old.heap.variables + next_variable b) level b ks old.units old.copies (frames_of code old)) (sym some)

-- a ball that does not
pub missed-is : (code : Code) (old new : Run) (seer : List ℕ) (pattern recovery : ℕ) (b : List Cell) (ks : List ℕ) (unified : Bool) (rest level : ℕ)
    → unify (bound (here_of old)) (get_or old.heap.terms pattern []) (fresh old.heap.variables b) ≡ cond unified (Some (bound (here_of new))) None → unified ≡ false → IsExtended old new
    → machine.to (machine.Throws b ks) new.units new.copies (frames_of code new)
    ≡ moved code old rest level (catch_row seer (get_or old.heap.terms pattern []) (get_or old.heap.terms recovery []) b ks)
missed-is code old new seer pattern recovery b ks unified rest level un is_not x =
    let frames = x.frames code in
    let units : new.units ≡ old.units = ap (λ (r : Run). r.units) x.state in
    let copies : new.copies ≡ old.copies = ap (λ (r : Run). r.copies) x.state in
    let none = un-none (unify (bound (here_of old)) (get_or old.heap.terms pattern []) (fresh old.heap.variables b)) unified (bound (here_of new)) un is_not in
    (λ i. machine.to (machine.Throws b ks) (units i) (copies i) (frames i))
    ∙ ap (λ o. machine.recovers true o seer (get_or old.heap.terms recovery []) (goals_shown (here_of old) rest) (old.heap.variables + next_variable b) level b ks old.units old.copies (frames_of code old)) (sym none)

-- a catch that may catch the ball is met as things were at its moment
pub met-is : (code : Code) (old now : Run) (m : Moment) (seer : List ℕ) (pattern recovery : Ref) (b : List Cell) (ks : List ℕ) (rest level : ℕ)
    → IsTakenBack old now m → is_among (suc level) ks ≡ true
    → moved code now rest level (catch_row seer (get_or now.heap.terms pattern.at []) (get_or now.heap.terms recovery.at []) b ks)
    ≡ throw_move (frames_under code old (frame.Catching m seer pattern recovery rest level)) b ks old.units old.copies
met-is code old now m seer pattern recovery b ks rest level taken is_so =
    let frames = taken.frames code in
    let units : now.units ≡ old.units = ap (λ (r : Run). r.units) taken.state in
    let copies : now.copies ≡ old.copies = ap (λ (r : Run). r.copies) taken.state in
    let at : Bool → Here → ℕ → List (List Cell) → List machine.Frame → machine.State =
    λ among h u cs fs. machine.recovers among (unify (bound h) (get_or h.terms pattern.at []) (fresh h.variables b)) seer (get_or h.terms recovery.at []) (goals_shown h rest) (h.variables + next_variable b) level b ks u cs fs in
    (λ i. at true (taken.here i) (units i) (copies i) (frames i))
    ∙ ap (λ among. at among (back m (here_of old)) old.units old.copies (frames_shown code (back m (here_of old)) (reverse old.frames.items))) (sym is_so)

-- one that may not
pub left-is : (code : Code) (fs : List machine.Frame) (o : Option Substitution) (seer : List ℕ) (recovery b : List Cell) (ks : List ℕ) (rest : List _) (next level units : ℕ) (copies : List (List Cell)) (among : Bool)
    → among ≡ false → machine.to (machine.Throws b ks) units copies fs ≡ machine.recovers among o seer recovery rest next level b ks units copies fs
left-is code fs o seer recovery b ks rest next level units copies among is_not =
    ap (λ x. machine.recovers x o seer recovery rest next level b ks units copies fs) (sym is_not)
