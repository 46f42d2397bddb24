-- Lists without repetitions, and one item more behind them.
use Rattle.std.proofs.Common.{◌≡◌, refl, sym, ap, ◌∙◌, subst, Bool, true, false, List, [], ◌∷◌, ◌++◌, append-nil}
use Rattle.std.specs.Prelude.{not, ◌||◌, nat_eq, cond, filter}
use Rattle.std.specs.List.{list_any}
use Rattle.std.specs.Str.{bytes_eq}
use Rattle.std.proofs.lemmas.Bool.{and_parts, and_from}
use Rattle.std.proofs.lemmas.Bool.Decides.{Decides-eqb}
use Rattle.std.proofs.lemmas.Slice.Eq.{bytes_eq-Decides}
use Rattle.std.proofs.lemmas.List.Elements.{filter-append}
use Rattle.cp_declaration.specs.declared.indicator.Indicator.{Indicator}
use Rattle.cp_module.specs.Causes.{same, is_in}
use Rattle.cp_link.specs.Modules.{distinct}

-- a test of whether two items are the same
pub record Tells {X : Type 0} (eq : X → X → Bool) : Type 0 where
  pub alike : (x y : X) → eq x y ≡ true → x ≡ y
  pub itself : (x : X) → eq x x ≡ true

abbrev pub once : {X : Type 0} → (X → X → Bool) → List X → List X
once eq [] = []
once eq (x ∷ xs) = x ∷ filter (λ y. not (eq x y)) (once eq xs)

abbrev pub with_item : {X : Type 0} → (X → X → Bool) → List X → X → List X
with_item eq xs x = cond (list_any (eq x) xs) xs (xs ++ x ∷ [])

any_kept : {X : Type 0} (eq : X → X → Bool) → Tells eq → (x p : X) → eq x p ≡ false → (ys : List X) → list_any (eq x) (filter (λ y. not (eq p y)) ys) ≡ list_any (eq x) ys
any_kept eq t x p h [] = refl
any_kept eq t x p h (y ∷ ys) = go (any_kept eq t x p h ys) (eq p y) refl
  where
    go : list_any (eq x) (filter (λ z. not (eq p z)) ys) ≡ list_any (eq x) ys → (b : Bool) → eq p y ≡ b → list_any (eq x) (cond (not b) (y ∷ filter (λ z. not (eq p z)) ys) (filter (λ z. not (eq p z)) ys)) ≡ (eq x y || list_any (eq x) ys)
    go ih false e = ap (λ r. eq x y || r) ih
    go ih true e = ih ∙ ap (λ r. r || list_any (eq x) ys) (sym (subst (λ q. eq x q ≡ false) (t.alike p y e) h))

pub turned : {X : Type 0} (eq : X → X → Bool) → Tells eq → (x p : X) (b : Bool) → eq x p ≡ b → eq p x ≡ b
turned eq t x p true h = subst (λ q. eq q x ≡ true) (t.alike x p h) (t.itself x)
turned eq t x p false h = go (eq p x) refl
  where
    go : (b : Bool) → eq p x ≡ b → eq p x ≡ false
    go false e = e
    go true e = let yes : eq x p ≡ true = subst (λ q. eq q p ≡ true) (t.alike p x e) (t.itself p) in cc

pub once_more : {X : Type 0} (eq : X → X → Bool) → Tells eq → (xs : List X) (x : X) → once eq (xs ++ x ∷ []) ≡ with_item eq (once eq xs) x
once_more eq t [] x = refl
once_more {X = X} eq t (p ∷ ps) x = ap (λ ds. p ∷ filter (λ y. not (eq p y)) ds) (once_more eq t ps x) ∙ go (eq x p) refl (once eq ps)
  where
    last : (ds : List X) (b : Bool) → eq p x ≡ b → filter (λ y. not (eq p y)) (ds ++ x ∷ []) ≡ filter (λ y. not (eq p y)) ds ++ cond (not b) (x ∷ []) []
    last ds b e = filter-append (λ y. not (eq p y)) ds (x ∷ []) ∙ ap (λ c. filter (λ y. not (eq p y)) ds ++ cond (not c) (x ∷ []) []) e

    there : (ds : List X) → eq p x ≡ true → (c : Bool) → filter (λ y. not (eq p y)) (cond c ds (ds ++ x ∷ [])) ≡ filter (λ y. not (eq p y)) ds
    there ds e true = refl
    there ds e false = last ds true e ∙ append-nil (filter (λ y. not (eq p y)) ds)

    other : (ds : List X) → eq p x ≡ false → (c : Bool) → list_any (eq x) (filter (λ y. not (eq p y)) ds) ≡ c
        → p ∷ filter (λ y. not (eq p y)) (cond c ds (ds ++ x ∷ []))
        ≡ cond (list_any (eq x) (filter (λ y. not (eq p y)) ds)) (p ∷ filter (λ y. not (eq p y)) ds) (p ∷ filter (λ y. not (eq p y)) ds ++ x ∷ [])
    other ds e true h = ap (λ b. cond b (p ∷ filter (λ y. not (eq p y)) ds) (p ∷ filter (λ y. not (eq p y)) ds ++ x ∷ [])) (sym h)
    other ds e false h =
        ap (λ ys. p ∷ ys) (last ds false e)
        ∙ ap (λ b. cond b (p ∷ filter (λ y. not (eq p y)) ds) (p ∷ filter (λ y. not (eq p y)) ds ++ x ∷ [])) (sym h)

    go : (b : Bool) → eq x p ≡ b → (ds : List X) → p ∷ filter (λ y. not (eq p y)) (with_item eq ds x)
        ≡ cond (b || list_any (eq x) (filter (λ y. not (eq p y)) ds)) (p ∷ filter (λ y. not (eq p y)) ds) (p ∷ filter (λ y. not (eq p y)) ds ++ x ∷ [])
    go true e ds = ap (λ ys. p ∷ ys) (there ds (turned eq t x p true e) (list_any (eq x) ds))
    go false e ds = other ds (turned eq t x p false e) (list_any (eq x) ds) (any_kept eq t x p e ds)

-- ---- of predicates by name and arity

pub same_tells : Tells same
same_tells = record {
  alike = λ p q h.
      let parts = and_parts (bytes_eq p.name q.name) (nat_eq p.arity q.arity) h in
      λ i. record { name = (bytes_eq-Decides p.name q.name).0 parts.0 i; arity = (Decides-eqb p.arity q.arity).0 parts.1 i };
  itself = λ p. and_from (bytes_eq p.name p.name) (nat_eq p.arity p.arity) ((bytes_eq-Decides p.name p.name).1 refl) ((Decides-eqb p.arity p.arity).1 refl);
}

distinct_once : (xs : List Indicator) → distinct xs ≡ once same xs
distinct_once [] = refl
distinct_once (x ∷ xs) = ap (λ ys. x ∷ filter (λ q. not (same x q)) ys) (distinct_once xs)

any_once : {X : Type 0} (eq : X → X → Bool) → Tells eq → (x : X) (xs : List X) → list_any (eq x) (once eq xs) ≡ list_any (eq x) xs
any_once eq t x [] = refl
any_once eq t x (p ∷ ps) = go (eq x p) refl (any_once eq t x ps)
  where
    go : (b : Bool) → eq x p ≡ b → list_any (eq x) (once eq ps) ≡ list_any (eq x) ps → (b || list_any (eq x) (filter (λ y. not (eq p y)) (once eq ps))) ≡ (b || list_any (eq x) ps)
    go true e ih = refl
    go false e ih = any_kept eq t x p e (once eq ps) ∙ ih

pub distinct_in : (xs : List Indicator) (x : Indicator) → is_in (distinct xs) x ≡ is_in xs x
distinct_in xs x = ap (λ ys. is_in ys x) (distinct_once xs) ∙ any_once same same_tells x xs

pub distinct_more : (xs : List Indicator) (x : Indicator) → distinct (xs ++ x ∷ []) ≡ with_item same (distinct xs) x
distinct_more xs x = distinct_once (xs ++ x ∷ []) ∙ once_more same same_tells xs x ∙ ap (λ ys. with_item same ys x) (sym (distinct_once xs))

pub distinct_there : (xs all : List Indicator) (x : Indicator) → all ≡ distinct xs → is_in all x ≡ true → all ≡ distinct (xs ++ x ∷ [])
distinct_there xs all x e h =
    ap (λ b. cond b all (all ++ x ∷ [])) (sym h) ∙ ap (λ ys. with_item same ys x) e ∙ sym (distinct_more xs x)

pub distinct_new : (xs all : List Indicator) (x : Indicator) → all ≡ distinct xs → is_in all x ≡ false → all ++ x ∷ [] ≡ distinct (xs ++ x ∷ [])
distinct_new xs all x e h =
    ap (λ b. cond b all (all ++ x ∷ [])) (sym h) ∙ ap (λ ys. with_item same ys x) e ∙ sym (distinct_more xs x)
