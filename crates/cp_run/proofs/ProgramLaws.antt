-- The clauses of a program's predicates.
use Rattle.std.proofs.Common.{◌≡◌, ℕ, zero, suc, ◌+◌, Some, None, Option, List, [], ◌∷◌, map, drop, refl, sym, ◌∙◌, ap, subst, arith, Bor}
use Rattle.std.specs.Prelude.{slice_get, IfSome}
use Rattle.std.specs.Option.{option_map, option_copied}
use Rattle.cp_code.specs.declared.clause.Clause.{Clause}
use Rattle.cp_code.specs.declared.pred_info.PredInfo.{PredInfo}
use Rattle.cp_code.specs.declared.pred_kind.PredKind.{PredKind}
use Rattle.cp_code.specs.declared.pred_kind.PredKind.TheVariants as pred_kind
use Rattle.cp_code.specs.declared.program.Program.{Program}
use Rattle.cp_code.specs.Code as code
use Rattle.cp_code.specs.Programs.{clause_of, pred_of, code_of}
use Rattle.cp_run.specs.Shown.{rules_of_pred, rules_from}
use Rattle.cp_run.specs.Programs.{HasGoodClauses, HasGoodPreds, IsRest}
use Rattle.cp_run.specs.Entering.{HasGoodBody}

get-map : {A B : Type 0} (f : A → B) (xs : List A) (n : ℕ) → slice_get (map f xs) n ≡ option_map f (slice_get xs n)
get-map f [] n = refl
get-map f (x ∷ xs) zero = refl
get-map f (x ∷ xs) (suc n) = get-map f xs n

-- what kind of predicate it is says which clauses it has
pub clauses_of_kind : PredKind → List Clause → List code.Clause
clauses_of_kind pred_kind.Rules cs = map clause_of cs
clauses_of_kind (pred_kind.Concurrent n) cs = []
clauses_of_kind (pred_kind.Plain n) cs = []
clauses_of_kind (pred_kind.Remote n) cs = []

kind-clauses : (p : Program) (info : PredInfo) (k : PredKind) → info.kind ≡ k → rules_of_pred (Some (pred_of p.checks info)) ≡ clauses_of_kind k info.clauses
unfolding clauses_of_kind
kind-clauses p info pred_kind.Rules e = ap (λ k. rules_of_pred (Some (pred_of p.checks (record info { kind = k })))) e
kind-clauses p info (pred_kind.Concurrent n) e = ap (λ k. rules_of_pred (Some (pred_of p.checks (record info { kind = k })))) e
kind-clauses p info (pred_kind.Plain n) e = ap (λ k. rules_of_pred (Some (pred_of p.checks (record info { kind = k })))) e
kind-clauses p info (pred_kind.Remote n) e = ap (λ k. rules_of_pred (Some (pred_of p.checks (record info { kind = k })))) e

found-clauses : (p : Program) (steps pred : ℕ) (info : PredInfo) (k : PredKind) → slice_get p.preds pred ≡ Some info → info.kind ≡ k → rules_of_pred (slice_get (code_of p steps).preds pred) ≡ clauses_of_kind k info.clauses
found-clauses p steps pred info k e f =
    ap rules_of_pred (get-map (pred_of p.checks) p.preds pred ∙ ap (option_map (pred_of p.checks)) e) ∙ kind-clauses p info k f

drop-none : {A : Type 0} (n : ℕ) → (let xs : List A = [] in drop n xs ≡ xs)
drop-none zero = refl
drop-none (suc n) = refl

pub no-rules : (p : Program) (steps pred from : ℕ) (info : PredInfo) (k : PredKind) → slice_get p.preds pred ≡ Some info → info.kind ≡ k → ((cs : List Clause) → clauses_of_kind k cs ≡ []) → rules_from (code_of p steps) pred from ≡ []
no-rules p steps pred from info k e f none = ap (drop from) (found-clauses p steps pred info k e f ∙ none info.clauses) ∙ drop-none from

pub none-concurrent : (n : ℕ) (cs : List Clause) → clauses_of_kind (pred_kind.Concurrent n) cs ≡ []
unfolding clauses_of_kind
none-concurrent n cs = refl

pub none-plain : (n : ℕ) (cs : List Clause) → clauses_of_kind (pred_kind.Plain n) cs ≡ []
unfolding clauses_of_kind
none-plain n cs = refl

pub none-remote : (n : ℕ) (cs : List Clause) → clauses_of_kind (pred_kind.Remote n) cs ≡ []
unfolding clauses_of_kind
none-remote n cs = refl

IsRestOf : List code.Clause → List code.Clause → Option Clause → Type 0
IsRestOf xs ys None = xs ≡ []
IsRestOf xs ys (Some c) = xs ≡ clause_of c ∷ ys

rest-at : (cs : List Clause) (n : ℕ) → IsRestOf (drop n (map clause_of cs)) (drop (n + 1) (map clause_of cs)) (slice_get cs n)
unfolding IsRestOf
rest-at [] zero = refl
rest-at [] (suc n) = refl
rest-at (c ∷ cs) zero = refl
rest-at (c ∷ cs) (suc n) =
    let P : ℕ → Type 0 = λ k. IsRestOf (drop n (map clause_of cs)) (drop k (clause_of c ∷ map clause_of cs)) (slice_get cs n) in
    let e : suc n + 1 ≡ suc (n + 1) = omega arith in
    subst P (sym e) (rest-at cs n)

rest-is : (p : Program) (steps pred from : ℕ) (cs : List Clause) (o : Option Clause) → rules_of_pred (slice_get (code_of p steps).preds pred) ≡ map clause_of cs → IsRestOf (drop from (map clause_of cs)) (drop (from + 1) (map clause_of cs)) o → IsRest (code_of p steps) pred from o
unfolding IsRestOf
rest-is p steps pred from cs None e r = ap (drop from) e ∙ r
rest-is p steps pred from cs (Some c) e r = ap (drop from) e ∙ r ∙ ap (λ xs. clause_of c ∷ drop (from + 1) xs) (sym e)

pub rules-rest : (p : Program) (steps pred from : ℕ) (info : PredInfo) (o : Option Clause) → slice_get p.preds pred ≡ Some info → info.kind ≡ pred_kind.Rules → o ≡ slice_get info.clauses from → IsRest (code_of p steps) pred from o
unfolding clauses_of_kind IsRestOf
rules-rest p steps pred from info o e f g =
    let P : Option Clause → Type 0 = λ x. IsRest (code_of p steps) pred from x in
    subst P (sym g) (rest-is p steps pred from info.clauses (slice_get info.clauses from) (found-clauses p steps pred info pred_kind.Rules e f) (rest-at info.clauses from))

-- ---- bodies

good-pred : (ps : List PredInfo) (n : ℕ) (info : PredInfo) → HasGoodPreds ps → slice_get ps n ≡ Some info → HasGoodClauses info.clauses
good-pred [] n info g e = absurd (cc)
good-pred (p ∷ ps) zero info g e =
    let f : p ≡ info = cc in
    let P : PredInfo → Type 0 = λ x. HasGoodClauses x.clauses in
    subst P f g.0
good-pred (p ∷ ps) (suc n) info g e = good-pred ps n info g.1 e

good-clause : (cs : List Clause) (n : ℕ) (clause : Clause) → HasGoodClauses cs → slice_get cs n ≡ Some clause → HasGoodBody clause
good-clause [] n clause g e = absurd (cc)
good-clause (c ∷ cs) zero clause g e =
    let f : c ≡ clause = cc in
    subst HasGoodBody f g.0
good-clause (c ∷ cs) (suc n) clause g e = good-clause cs n clause g.1 e

pub good-at : (p : Program) (pred from : ℕ) (info : PredInfo) (r : Option (Bor Clause)) → HasGoodPreds p.preds → slice_get p.preds pred ≡ Some info → option_copied r ≡ slice_get info.clauses from → IfSome r (λ c. HasGoodBody c.now)
good-at p pred from info None g e f = tt
good-at p pred from info (Some c) g e f = good-clause info.clauses from c.now (good-pred p.preds pred info g e) (sym f)
