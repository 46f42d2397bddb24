-- The predicate that a module sees has the arity under which it is seen.
use Rattle.std.proofs.Common.{◌≡◌, ℕ, Bool, true, false, cond, nat_eq, Some, None, Option, List, [], ◌∷◌, refl, sym, ◌∙◌, ap}
use Rattle.std.specs.Prelude.{find, slice_get, ◌&&◌, codes}
use Rattle.std.specs.Str.{bytes_eq}
use Rattle.std.specs.Option.{option_map}
use Rattle.std.proofs.lemmas.Bool.{eqb-true, false≢true}
use Rattle.std.proofs.lemmas.List.Quantifiers.{position-Some}
use Rattle.std.proofs.lemmas.Option.{get_or_from_slice_get, slice_get-map}
use Rattle.cp_term.specs.declared.cell.Cell.{Cell}
use Rattle.cp_goal.specs.Builtins.{context}
use Rattle.cp_code.specs.declared.import.Import.{Import}
use Rattle.cp_code.specs.declared.pred_info.PredInfo.{PredInfo}
use Rattle.cp_code.specs.declared.program.Program.{Program}
use Rattle.cp_code.specs.Code.{Code, Pred}
use Rattle.cp_code.specs.Goals.{builtin_goal, seen_pred}
use Rattle.cp_code.specs.Machine as machine
use Rattle.cp_code.specs.Programs.{code_of, pred_of, is_named, own_pred, imports_as, imported_pred, is_of_prelude, or_else, sees}
use Rattle.cp_code.specs.Requests.{functor_of}
use Rattle.cp_run.specs.declared.run.Run.{Run}
use Rattle.cp_run.specs.Shown.{moved}
use Rattle.cp_run.specs.Gaining.{Row}
use Rattle.cp_calls.specs.Rows.{call_row}

and-second : (a b : Bool) → a && b ≡ true → b ≡ true
and-second true b h = h
and-second false b h = absurd (false≢true h)

own-arity : (preds : List PredInfo) (m f : List ℕ) (k n : ℕ) (p : PredInfo) → own_pred preds m f k ≡ Some n → slice_get preds n ≡ Some p → p.name.arity ≡ k
own-arity preds m f k n p at got =
    let test : PredInfo → Bool = λ q. is_named m f k q.name in
    let named : is_named m f k p.name ≡ true = ap test (sym (get_or_from_slice_get preds n p p got)) ∙ (position-Some test preds n p at).1 in
    eqb-true p.name.arity k (and-second (bytes_eq p.name.module m && bytes_eq p.name.name f) (nat_eq p.name.arity k) named)

find-passes : {A : Type 0} (test : A → Bool) (xs : List A) (x : A) → find test xs ≡ Some x → test x ≡ true
find-passes test [] x e = absurd (cc)
find-passes test (y ∷ xs) x e =
    elim (test y) as (λ b. test y ≡ b → cond b (Some y) (find test xs) ≡ Some x → test x ≡ true) [
      | true ↦ λ q h. let same : y ≡ x = cc in ap test (sym same) ∙ q
      | false ↦ λ q h. find-passes test xs x h
    ] refl e

imported-arity : (preds : List PredInfo) (seer f : List ℕ) (k n : ℕ) (p : PredInfo) (o : Option Import) → ((i : Import) → o ≡ Some i → i.pred.arity ≡ k)
    → imported_pred preds o ≡ Some n → slice_get preds n ≡ Some p → p.name.arity ≡ k
imported-arity preds seer f k n p None all at got = absurd (cc)
imported-arity preds seer f k n p (Some i) all at got = own-arity preds i.pred.module i.pred.name i.pred.arity n p at got ∙ all i refl

found-arity : (imports : List Import) (seer f : List ℕ) (k : ℕ) (i : Import) → find (imports_as seer f k) imports ≡ Some i → i.pred.arity ≡ k
found-arity imports seer f k i e =
    let named : imports_as seer f k i ≡ true = find-passes (imports_as seer f k) imports i e in
    eqb-true i.pred.arity k (and-second (bytes_eq i.seer seer && bytes_eq i.pred.name f) (nat_eq i.pred.arity k) named)

prelude-arity : (preds : List PredInfo) (f : List ℕ) (k n : ℕ) (p : PredInfo) (b : Bool) → cond b (own_pred preds (codes "prelude") f k) None ≡ Some n → slice_get preds n ≡ Some p → p.name.arity ≡ k
prelude-arity preds f k n p true at got = own-arity preds (codes "prelude") f k n p at got
prelude-arity preds f k n p false at got = absurd (cc)

one-of : (P : ℕ → Type 0) (x y : Option ℕ) (n : ℕ) → or_else x y ≡ Some n → (x ≡ Some n → P n) → (y ≡ Some n → P n) → P n
one-of P None y n e first second = second e
one-of P (Some m) y n e first second = first e

pub seen-arity : (program : Program) (seer f : List ℕ) (k n : ℕ) (p : PredInfo) → sees program.preds program.imports seer f k ≡ Some n → slice_get program.preds n ≡ Some p → p.name.arity ≡ k
seen-arity program seer f k n p at got =
    let preds = program.preds in
    let imported = imported_pred preds (find (imports_as seer f k) program.imports) in
    let prelude : Option ℕ = cond (is_of_prelude f k) (own_pred preds (codes "prelude") f k) None in
    one-of (λ i. slice_get preds i ≡ Some p → p.name.arity ≡ k) (own_pred preds seer f k) (or_else imported prelude) n at
    (λ e g. own-arity preds seer f k n p e g)
    (λ e. one-of (λ i. slice_get preds i ≡ Some p → p.name.arity ≡ k) imported prelude n e
    (λ e g. imported-arity preds seer f k n p (find (imports_as seer f k) program.imports) (λ i h. found-arity program.imports seer f k i h) e g)
    (λ e g. prelude-arity preds f k n p (is_of_prelude f k) e g))
    got

-- ---- the row of a call

seen_at : Code → Option ℕ → Option Pred
seen_at code None = None
seen_at code (Some n) = slice_get code.preds n

pub seen-none : (program : Program) (budget : ℕ) (seer f : List ℕ) (k : ℕ) → None ≡ sees program.preds program.imports seer f k → seen_pred (code_of program budget) seer f k ≡ None
unfolding seen_at
seen-none program budget seer f k e = ap (seen_at (code_of program budget)) (sym e)

seen-at : (program : Program) (budget : ℕ) (seer f : List ℕ) (k n : ℕ) → Some n ≡ sees program.preds program.imports seer f k → seen_pred (code_of program budget) seer f k ≡ option_map (pred_of program.checks) (slice_get program.preds n)
unfolding seen_at
seen-at program budget seer f k n e = ap (seen_at (code_of program budget)) (sym e) ∙ slice_get-map (pred_of program.checks) program.preds n

pub seen-past : (program : Program) (budget : ℕ) (seer f : List ℕ) (k n : ℕ) → Some n ≡ sees program.preds program.imports seer f k → slice_get program.preds n ≡ None → seen_pred (code_of program budget) seer f k ≡ None
seen-past program budget seer f k n e got = seen-at program budget seer f k n e ∙ ap (option_map (pred_of program.checks)) got

pub seen-some : (program : Program) (budget : ℕ) (seer f : List ℕ) (k n : ℕ) (p : PredInfo) → Some n ≡ sees program.preds program.imports seer f k → slice_get program.preds n ≡ Some p
    → seen_pred (code_of program budget) seer f k ≡ Some (pred_of program.checks p)
seen-some program budget seer f k n p e got = seen-at program budget seer f k n e ∙ ap (option_map (pred_of program.checks)) got

-- the row of what is seen
abbrev pub seen_row : Code → (seer : List ℕ) → Option Pred → (goal error_context : List Cell) → Row
seen_row code m o g ctx rest s next level = machine.called_move code m o g ctx rest s next level

pub call-seen : (code : Code) (r : Run) (rest level : ℕ) (m f : List ℕ) (k : ℕ) (g : List Cell) (o : Option Pred) → functor_of g ≡ Some (f, k) → builtin_goal f k ≡ None → seen_pred code m f k ≡ o
    → moved code r rest level (seen_row code m o g (context m f k)) ≡ moved code r rest level (call_row code m g)
call-seen code r rest level m f k g o functor other seen =
    sym (ap (λ x. moved code r rest level (λ rest s next level. machine.functor_move code m x g rest s next level)) functor
    ∙ ap (λ x. moved code r rest level (λ rest s next level. machine.named_move code m x (f, k) g rest s next level)) other
    ∙ ap (λ x. moved code r rest level (seen_row code m x g (context m f k))) seen)
