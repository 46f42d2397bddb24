-- Predicates of modules, and names, each once, and one more behind them.
use Rattle.std.proofs.Common.{◌≡◌, ℕ, refl, sym, ap, ◌∙◌, true, false, List, [], ◌∷◌, ◌++◌}
use Rattle.std.specs.Prelude.{not, cond, filter}
use Rattle.std.specs.List.{list_any}
use Rattle.std.specs.Str.{bytes_eq}
use Rattle.std.proofs.lemmas.Slice.Eq.{bytes_eq-Decides}
use Rattle.cp_term.specs.declared.pred_name.PredName.{PredName}
use Rattle.cp_term.specs.PredNameEq.{pred_name_eq, pred_name_eq-true, pred_name_eq-refl}
use Rattle.cp_link.specs.Linked.{distinct_preds, distinct_names}
use Rattle.cp_link.proofs.DistinctLaws.{Tells, once, with_item, once_more}

-- ---- of predicates of modules

pred_names_tell : Tells pred_name_eq
pred_names_tell = record { alike = pred_name_eq-true; itself = pred_name_eq-refl }

preds_once : (xs : List PredName) → distinct_preds xs ≡ once pred_name_eq xs
preds_once [] = refl
preds_once (x ∷ xs) = ap (λ ys. x ∷ filter (λ q. not (pred_name_eq x q)) ys) (preds_once xs)

preds_more : (xs all : List PredName) (x : PredName) → all ≡ distinct_preds xs → with_item pred_name_eq all x ≡ distinct_preds (xs ++ x ∷ [])
preds_more xs all x e =
    ap (λ ys. with_item pred_name_eq ys x) (e ∙ preds_once xs) ∙ sym (once_more pred_name_eq pred_names_tell xs x) ∙ sym (preds_once (xs ++ x ∷ []))

pub preds_there : (xs all : List PredName) (x : PredName) → all ≡ distinct_preds xs → list_any (pred_name_eq x) all ≡ true → all ≡ distinct_preds (xs ++ x ∷ [])
preds_there xs all x e h = ap (λ b. cond b all (all ++ x ∷ [])) (sym h) ∙ preds_more xs all x e

pub preds_new : (xs all : List PredName) (x : PredName) → all ≡ distinct_preds xs → list_any (pred_name_eq x) all ≡ false → all ++ x ∷ [] ≡ distinct_preds (xs ++ x ∷ [])
preds_new xs all x e h = ap (λ b. cond b all (all ++ x ∷ [])) (sym h) ∙ preds_more xs all x e

-- ---- of names

names_tell : Tells bytes_eq
names_tell = record { alike = λ x y. (bytes_eq-Decides x y).0; itself = λ x. (bytes_eq-Decides x x).1 refl }

names_once : (xs : List (List ℕ)) → distinct_names xs ≡ once bytes_eq xs
names_once [] = refl
names_once (x ∷ xs) = ap (λ ys. x ∷ filter (λ n. not (bytes_eq x n)) ys) (names_once xs)

names_more : (xs all : List (List ℕ)) (x : List ℕ) → all ≡ distinct_names xs → with_item bytes_eq all x ≡ distinct_names (xs ++ x ∷ [])
names_more xs all x e =
    ap (λ ys. with_item bytes_eq ys x) (e ∙ names_once xs) ∙ sym (once_more bytes_eq names_tell xs x) ∙ sym (names_once (xs ++ x ∷ []))

pub names_there : (xs all : List (List ℕ)) (x : List ℕ) → all ≡ distinct_names xs → list_any (bytes_eq x) all ≡ true → all ≡ distinct_names (xs ++ x ∷ [])
names_there xs all x e h = ap (λ b. cond b all (all ++ x ∷ [])) (sym h) ∙ names_more xs all x e

pub names_new : (xs all : List (List ℕ)) (x : List ℕ) → all ≡ distinct_names xs → list_any (bytes_eq x) all ≡ false → all ++ x ∷ [] ≡ distinct_names (xs ++ x ∷ [])
names_new xs all x e h = ap (λ b. cond b all (all ++ x ∷ [])) (sym h) ∙ names_more xs all x e
