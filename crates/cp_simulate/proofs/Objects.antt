-- The shared objects of a run before anybody has asked them.
use Rattle.std.proofs.Common.{◌≡◌, ℕ, zero, suc, ◌+◌, List, [], ◌∷◌, ◌++◌, length, refl, sym, ◌∙◌, ap, arith}
use Rattle.std.specs.Prelude.{map, false}
use Rattle.cp_term.specs.declared.cell.Cell.{Cell}
use Rattle.cp_term.specs.declared.pred_name.PredName.{PredName}
use Rattle.cp_call.specs.Setup.{SharedPred, object_of, opening_goals}
use Rattle.cp_call.specs.Sound.{Object, objects_with}
use Rattle.cp_code.specs.declared.pred_info.PredInfo.{PredInfo}
use Rattle.cp_code.specs.declared.program.Program.{Program}
use Rattle.cp_code.specs.Programs.{shared_pred, objects_of as count_of}
use Rattle.cp_hall.specs.Hall.{HallObject, objects_of, history_at}
use Rattle.cp_simulate.specs.Runs.{objects, unasked}

-- the two lists of goals and behind them the predicates
abbrev pub begun_with : List (List Cell) → (PredName → SharedPred) → List PredName → List HallObject
begun_with goals shared names = map unasked (objects_with goals []) ++ map (λ n. unasked (object_of (shared n))) names

preds_are : (shared : PredName → SharedPred) (names : List PredName) → objects_of (map (λ n. unasked (object_of (shared n))) names) ≡ map object_of (map shared names)
preds_are shared [] = refl
preds_are shared (n ∷ names) = ap (λ os. object_of (shared n) ∷ os) (preds_are shared names)

objects_begin : (goals : List (List Cell)) (shared : PredName → SharedPred) (names : List PredName) → objects_of (begun_with goals shared names) ≡ objects_with goals (map object_of (map shared names))
objects_begin goals shared names = ap (objects_with goals) (preds_are shared names)

preds_unasked : (shared : PredName → SharedPred) (names : List PredName) (p : ℕ) → history_at (map (λ n. unasked (object_of (shared n))) names) p ≡ []
preds_unasked shared [] p = refl
preds_unasked shared (n ∷ names) zero = refl
preds_unasked shared (n ∷ names) (suc p) = preds_unasked shared names p

unasked_begin : (goals : List (List Cell)) (shared : PredName → SharedPred) (names : List PredName) (p : ℕ) → history_at (begun_with goals shared names) p ≡ []
unasked_begin goals shared names zero = refl
unasked_begin goals shared names (suc zero) = refl
unasked_begin goals shared names (suc (suc p)) = preds_unasked shared names p

-- The two lists of goals were made, and the shared predicates were added.
pub record IsMade (p : Program) (preds : List PredInfo) (names : List PredName) (lists hall : List HallObject) : Type 0 where
  pub lists_are : lists ≡ map unasked (objects_with (opening_goals p.first false) [])
  pub preds_are : preds ≡ p.preds
  pub names_are : names ≡ p.shared
  pub hall_is : hall ≡ lists ++ map (λ n. unasked (object_of (shared_pred preds n))) names

made_is : (p : Program) (preds : List PredInfo) (names : List PredName) (lists hall : List HallObject) → IsMade p preds names lists hall → hall ≡ begun_with (opening_goals p.first false) (shared_pred p.preds) p.shared
made_is p preds names lists hall made =
    made.hall_is
    ∙ (ap (λ xs. xs ++ map (λ n. unasked (object_of (shared_pred preds n))) names) made.lists_are
    ∙ (ap (λ ps. map unasked (objects_with (opening_goals p.first false) []) ++ map (λ n. unasked (object_of (shared_pred ps n))) names) made.preds_are
    ∙ ap (begun_with (opening_goals p.first false) (shared_pred p.preds)) made.names_are))

pub objects_are : (p : Program) (preds : List PredInfo) (names : List PredName) (lists hall : List HallObject) → IsMade p preds names lists hall → objects_of hall ≡ objects p
objects_are p preds names lists hall made = ap objects_of (made_is p preds names lists hall made) ∙ objects_begin (opening_goals p.first false) (shared_pred p.preds) p.shared

pub none_asked : (p : Program) (preds : List PredInfo) (names : List PredName) (lists hall : List HallObject) → IsMade p preds names lists hall → (q : ℕ) → history_at hall q ≡ []
none_asked p preds names lists hall made q = ap (λ h. history_at h q) (made_is p preds names lists hall made) ∙ unasked_begin (opening_goals p.first false) (shared_pred p.preds) p.shared q

length_map : {A B : Type 0} (f : A → B) (xs : List A) → length (map f xs) ≡ length xs
length_map f [] = refl
length_map f (x ∷ xs) = ap suc (length_map f xs)

count_with : (goals : List (List Cell)) (preds : List Object) → length (objects_with goals preds) ≡ 2 + length preds
count_with goals preds = omega arith

-- there are as many as the program counts
pub counted : (p : Program) (os : List Object) → os ≡ objects p → count_of p ≡ length os
counted p os e = sym (
    ap length e
    ∙ (count_with (opening_goals p.first false) (map object_of (map (shared_pred p.preds) p.shared))
    ∙ ap (λ n. 2 + n) (length_map object_of (map (shared_pred p.preds) p.shared) ∙ length_map (shared_pred p.preds) p.shared)))
