-- What the table of a list of imports has to do with the list.
use Rattle.std.proofs.Common.{◌≡◌, ℕ, refl, sym, ap, ◌∙◌, Bool, true, false, Some, None, Option, List, [], ◌∷◌, ◌++◌, map}
use Rattle.std.specs.Prelude.{not, ◌||◌, ◌&&◌, nat_eq, cond, is_some, if◌then◌else◌}
use Rattle.std.specs.List.{list_any}
use Rattle.std.specs.Map.{lookup}
use Rattle.std.specs.Option.{option_map}
use Rattle.std.specs.Str.{bytes_eq}
use Rattle.std.proofs.lemmas.Bool.{false≢true}
use Rattle.std.proofs.lemmas.List.Folds.{list_any-append}
use Rattle.std.proofs.lemmas.Slice.Eq.{bytes_eq-Decides}
use Rattle.indexmap.specs.IndexMap.{insert_entry}
use Rattle.cp_term.specs.declared.pred_name.PredName.{PredName}
use Rattle.cp_declaration.specs.declared.indicator.Indicator.{Indicator}
use Rattle.cp_module.specs.Causes.{same}
use Rattle.cp_link.specs.declared.pred_list.Key.{Key}
use Rattle.cp_link.specs.declared.origin.Origin.{Origin}
use Rattle.cp_link.specs.Imports.{names, is_imported}
use Rattle.cp_link.specs.Refusals.{clashes_with}
use Rattle.cp_link.specs.Keyed.{named, bare, noted, differs, origin_in}
use Rattle.cp_link.specs.Imported.{row_of, AreOrigins}
use Rattle.cp_link.proofs.DistinctLaws.{same_tells, turned}
use Rattle.cp_link.proofs.KeyLaws.{same_key}

-- ---- the table

pub looked_up : (k : Key) (es : List (Key × Origin)) → lookup (same_key k) es ≡ origin_in (map row_of es) (named k)
looked_up k [] = refl
looked_up k (e ∷ es) = go (same_key k e.0) (looked_up k es)
  where
    go : (b : Bool) → lookup (same_key k) es ≡ origin_in (map row_of es) (named k) → cond b (Some e.1) (lookup (same_key k) es) ≡ (if b then Some e.1 else origin_in (map row_of es) (named k))
    go true ih = refl
    go false ih = ih

twice : (b : Bool) (v w x : Option Origin) → (if b then v else x) ≡ (if b then v else if b then w else x)
twice true v w x = refl
twice false v w x = refl

apart : (a b : Bool) (v w x : Option Origin) → (a ≡ true → b ≡ true → ⊥) → (if a then w else if b then v else x) ≡ (if b then v else if a then w else x)
apart true true v w x never = absurd (never refl refl)
apart true false v w x never = refl
apart false b v w x never = refl

inserted : (k : Key) (v : Origin) (es : List (Key × Origin)) (p : Indicator) → origin_in (map row_of (insert_entry same_key es k v)) p ≡ (if same p (named k) then Some v else origin_in (map row_of es) p)
inserted k v [] p = refl
inserted k v (e ∷ es) p = go (same_key k e.0) refl (inserted k v es p)
  where
    go : (b : Bool) → same_key k e.0 ≡ b → origin_in (map row_of (insert_entry same_key es k v)) p ≡ (if same p (named k) then Some v else origin_in (map row_of es) p)
        → origin_in (map row_of (cond b ((e.0, v) ∷ es) (e ∷ insert_entry same_key es k v))) p ≡ (if same p (named k) then Some v else if same p (named e.0) then Some e.1 else origin_in (map row_of es) p)
    go true h ih =
        let is : named k ≡ named e.0 = same_tells.alike (named k) (named e.0) h in
        twice (same p (named e.0)) (Some v) (Some e.1) (origin_in (map row_of es) p)
        ∙ ap (λ q. if same p q then Some v else if same p (named e.0) then Some e.1 else origin_in (map row_of es) p) (sym is)
    go false h ih =
        ap (λ x. if same p (named e.0) then Some e.1 else x) ih
        ∙ apart (same p (named e.0)) (same p (named k)) (Some v) (Some e.1) (origin_in (map row_of es) p)
        (λ at_e at_k. false≢true (sym h ∙ ap (λ q. same (named k) q) (sym (same_tells.alike p (named e.0) at_e)) ∙ ap (λ q. same q p) (sym (same_tells.alike p (named k) at_k)) ∙ same_tells.itself p))

-- a value that is there when it is read is there
pub is_there : {X Y : Type 0} (f : X → Y) (o : Option X) → is_some o ≡ is_some (option_map f o)
is_there f None = refl
is_there f (Some x) = refl

-- ---- one import more

or-false : (b : Bool) → (b || false) ≡ b
or-false true = refl
or-false false = refl

found_more : (b : Bool) (v : Origin) (o : Option Origin) → is_some (if b then Some v else o) ≡ (is_some o || (b || false))
found_more true v (Some o) = refl
found_more true v None = refl
found_more false v o = sym (or-false (is_some o))

one_of : (s x y z : Bool) → (y ≡ true → x ≡ z) → ((s || not x) || not y) ≡ ((s || not y) || (not z || false))
one_of true x y z h = refl
one_of false true true z h = ap (λ b. not b || false) (h refl)
one_of false false true z h = ap (λ b. not b || false) (h refl)
one_of false true false z h = refl
one_of false false false z h = refl

noted_differs : (o : Option Origin) (m n : List ℕ) → differs (Some (noted o m)) n ≡ (differs o n || (not (bytes_eq n m) || false))
noted_differs None m n = sym (or-false (not (bytes_eq n m)))
noted_differs (Some o) m n =
    one_of o.several (bytes_eq o.module_name m) (bytes_eq n o.module_name) (bytes_eq n m)
    (λ e. ap (λ q. bytes_eq q m) (sym ((bytes_eq-Decides n o.module_name).0 e)))

others_more : (rows : List (Indicator × Origin)) (i p : PredName) (b : Bool) → same (bare i) (bare p) ≡ b
    → differs (if b then Some (noted (origin_in rows (bare p)) p.module) else origin_in rows (bare i)) i.module
    ≡ (differs (origin_in rows (bare i)) i.module || ((b && not (bytes_eq i.module p.module)) || false))
others_more rows i p true e =
    noted_differs (origin_in rows (bare p)) p.module i.module
    ∙ ap (λ q. differs (origin_in rows q) i.module || (not (bytes_eq i.module p.module) || false)) (sym (same_tells.alike (bare i) (bare p) e))
others_more rows i p false e = sym (or-false (differs (origin_in rows (bare i)) i.module))

and_three : (a b c : Bool) → ((a && b) && c) ≡ (a && b && c)
and_three true b c = refl
and_three false b c = refl

pub origins_more : (es more : List (Key × Origin)) (preds all : List PredName) (k : Key) (v : Origin) (p : PredName) → AreOrigins (map row_of es) preds
    → named k ≡ bare p → v ≡ noted (lookup (same_key k) es) p.module → more ≡ insert_entry same_key es k v → all ≡ preds ++ p ∷ []
    → AreOrigins (map row_of more) all
origins_more es more preds all k v p are is_key is_v is_more is_all = record { found = found; others = others }
  where
    rows : List (Indicator × Origin)
    rows = map row_of es

    origin : v ≡ noted (origin_in (map row_of es) (bare p)) p.module
    origin = is_v ∙ ap (λ o. noted o p.module) (looked_up k es) ∙ ap (λ q. noted (origin_in (map row_of es) q) p.module) is_key

    step : (q : Indicator) → origin_in (map row_of more) q ≡ (if same q (bare p) then Some (noted (origin_in (map row_of es) (bare p)) p.module) else origin_in (map row_of es) q)
    step q =
        ap (λ xs. origin_in (map row_of xs) q) is_more ∙ inserted k v es q
        ∙ ap (λ n. if same q n then Some v else origin_in (map row_of es) q) is_key
        ∙ ap (λ w. if same q (bare p) then Some w else origin_in (map row_of es) q) origin

    found : (q : Indicator) → is_some (origin_in (map row_of more) q) ≡ is_imported all q
    found q =
        ap is_some (step q)
        ∙ found_more (same q (bare p)) (noted (origin_in (map row_of es) (bare p)) p.module) (origin_in (map row_of es) q)
        ∙ ap (λ b. b || (same q (bare p) || false)) (are.found q)
        ∙ ap (λ b. is_imported preds q || (b || false)) (sym (turned same same_tells q (bare p) (same q (bare p)) refl))
        ∙ sym (list_any-append (names q) preds (p ∷ []))
        ∙ ap (list_any (names q)) (sym is_all)

    others : (i : PredName) → differs (origin_in (map row_of more) (bare i)) i.module ≡ list_any (clashes_with i) all
    others i =
        ap (λ o. differs o i.module) (step (bare i))
        ∙ others_more (map row_of es) i p (same (bare i) (bare p)) refl
        ∙ ap (λ b. b || ((same (bare i) (bare p) && not (bytes_eq i.module p.module)) || false)) (are.others i)
        ∙ ap (λ b. list_any (clashes_with i) preds || (b || false)) (and_three (bytes_eq i.name p.name) (nat_eq i.arity p.arity) (not (bytes_eq i.module p.module)))
        ∙ sym (list_any-append (clashes_with i) preds (p ∷ []))
        ∙ ap (list_any (clashes_with i)) (sym is_all)
