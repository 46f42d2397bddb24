-- What is known of predicates above a clause and behind it.
use Rattle.std.proofs.Common.{◌≡◌, ℕ, zero, suc, ◌+◌, ◌<◌, ◌≤◌, ◌⊎◌, inl, inr, refl, sym, ap, ◌∙◌, Bool, true, false, Some, None, Option, List, [], ◌∷◌, ◌++◌, length, min, arith}
use Rattle.std.specs.Prelude.{◌||◌, ◌&&◌, nat_lt, nat_eq, cond, filter, if◌then◌else◌, Result, Ok, Err, OnOk}
use Rattle.std.specs.List.{list_any}
use Rattle.std.proofs.lemmas.List.Folds.{list_any-append}
use Rattle.std.proofs.lemmas.Bool.Decides.{nat_tests}
use Rattle.cp_declaration.specs.declared.indicator.Indicator.{Indicator}
use Rattle.cp_declaration.specs.Declarations.{declaration, is_declaration}
use Rattle.cp_read.specs.declared.clause.ReadClause.{ReadClause}
use Rattle.cp_code.specs.Clauses.{head_of}
use Rattle.cp_module.specs.declared.known.Known.{Known}
use Rattle.cp_module.specs.Causes.{same, is_in, is_shared, shares, shares_by, clauses_of, is_clause_of, is_defined, is_option, headed}
use Rattle.cp_module.specs.Above.{Row, known_in, Knows, counted, with_clause, with_sharing, known_behind}

pub knows_none : Knows [] []
knows_none = record { clauses = λ p. refl; shared = λ p. refl }

or-false : (b : Bool) → (b || false) ≡ b
or-false true = refl
or-false false = refl

-- ---- counting

counted-min : (n : ℕ) → counted (min 4096 n) ≡ min 4096 (n + 1)
counted-min n = grind (arith, nat_tests)

one_counted : (f : ReadClause → Bool) (c : ReadClause) (b : Bool) → f c ≡ b → length (filter f (c ∷ [])) ≡ (if b then 1 else 0)
one_counted f c true e = ap (λ b. length (cond b (c ∷ []) [])) e
one_counted f c false e = ap (λ b. length (cond b (c ∷ []) [])) e

more_counted : (f : ReadClause → Bool) (c : ReadClause) (xs : List ReadClause) → length (filter f (xs ++ c ∷ [])) ≡ (if f c then length (filter f xs) + 1 else length (filter f xs))
more_counted f c [] = one_counted f c (f c) refl
more_counted f c (x ∷ xs) =
    let more = xs ++ c ∷ [] in
    let go : (b : Bool) → length (cond b (x ∷ filter f more) (filter f more)) ≡ (if f c then length (cond b (x ∷ filter f xs) (filter f xs)) + 1 else length (cond b (x ∷ filter f xs) (filter f xs))) = λ b. by_first b (f c) (filter f more) (filter f xs) (more_counted f c xs) in
    go (f x)
  where
    by_first : (b t : Bool) (ms ns : List ReadClause) → length ms ≡ (if t then length ns + 1 else length ns) → length (cond b (x ∷ ms) ms) ≡ (if t then length (cond b (x ∷ ns) ns) + 1 else length (cond b (x ∷ ns) ns))
    by_first true true ms ns h = let g : length ms ≡ length ns + 1 = h in omega arith
    by_first true false ms ns h = let g : length ms ≡ length ns = h in omega arith
    by_first false true ms ns h = h
    by_first false false ms ns h = h

clauses_behind : (b : Bool) (n : ℕ) (k : Known) → k.clauses ≡ min 4096 n → (if b then with_clause k else k).clauses ≡ min 4096 (if b then n + 1 else n)
clauses_behind true n k e = ap counted e ∙ counted-min n
clauses_behind false n k e = e

shared_behind : (b : Bool) (k : Known) → (if b then with_clause k else k).shared ≡ k.shared
shared_behind true k = refl
shared_behind false k = refl

pub knows_more : (rows more : List Row) (done : List ReadClause) (c : ReadClause) → ((p : Indicator) → known_in more p ≡ known_behind c p (known_in rows p)) → Knows rows done → Knows more (done ++ c ∷ [])
knows_more rows more done c h knows = record {
  clauses = λ p.
      ap (λ (k : Known). k.clauses) (h p)
      ∙ clauses_behind (is_clause_of p c) (length (clauses_of done p)) (known_in rows p) (knows.clauses p)
      ∙ ap (min 4096) (sym (more_counted (is_clause_of p) c done));
  shared = λ p.
      ap (λ (k : Known). k.shared) (h p)
      ∙ ap (λ b. b || is_in (shares c) p) (shared_behind (is_clause_of p c) (known_in rows p) ∙ knows.shared p)
      ∙ ap (λ b. is_shared done p || b) (sym (or-false (is_in (shares c) p)))
      ∙ sym (list_any-append (λ (d : ReadClause). is_in (shares d) p) done (c ∷ []));
}

-- ---- whether a predicate is defined

some_counted : (f : ReadClause → Bool) (xs : List ReadClause) → nat_lt 0 (min 4096 (length (filter f xs))) ≡ list_any f xs
some_counted f [] = refl
some_counted f (x ∷ xs) = by_first (f x) (filter f xs) (some_counted f xs)
  where
    by_first : (b : Bool) (ns : List ReadClause) → nat_lt 0 (min 4096 (length ns)) ≡ list_any f xs → nat_lt 0 (min 4096 (length (cond b (x ∷ ns) ns))) ≡ (b || list_any f xs)
    by_first true ns h = positive (length ns)
      where
        positive : (n : ℕ) → nat_lt 0 (min 4096 (suc n)) ≡ true
        positive n = grind (arith, nat_tests)
    by_first false ns h = h

pub defined : (rows : List Row) (done : List ReadClause) (p : Indicator) → Knows rows done → (nat_lt 0 (known_in rows p).clauses || (known_in rows p).shared) ≡ is_defined done p
defined rows done p knows =
    ap (λ n. nat_lt 0 n || (known_in rows p).shared) (knows.clauses p)
    ∙ ap (λ b. b || (known_in rows p).shared) (some_counted (is_clause_of p) done)
    ∙ ap (λ b. list_any (is_clause_of p) done || b) (knows.shared p)

-- ---- what a clause says of predicates

pub unshared : (k : Known) → with_sharing false k ≡ k
unshared k = ap (λ b. let x : Known = record { clauses = k.clauses; shared = b } in x) (or-false k.shared)

pub behind_declaration : (c : ReadClause) (p : Indicator) (k : Known) → is_declaration c.term ≡ true → known_behind c p k ≡ with_sharing (is_in (shares_by (declaration c.term)) p) k
behind_declaration c p k e =
    ap (λ b. with_sharing (is_in (cond b (shares_by (declaration c.term)) []) p) (if is_option p (cond b None (headed (head_of c.term))) then with_clause k else k)) e

pub behind_clause : (c : ReadClause) (p : Indicator) (k : Known) → is_declaration c.term ≡ false → known_behind c p k ≡ (if is_option p (headed (head_of c.term)) then with_clause k else k)
behind_clause c p k e =
    ap (λ b. with_sharing (is_in (cond b (shares_by (declaration c.term)) []) p) (if is_option p (cond b None (headed (head_of c.term))) then with_clause k else k)) e
    ∙ unshared (if is_option p (headed (head_of c.term)) then with_clause k else k)

pub sharing_more : (k : Known) (a b : Bool) → with_sharing b (with_sharing a k) ≡ with_sharing (a || b) k
sharing_more k a b = ap (λ s. let x : Known = record { clauses = k.clauses; shared = s } in x) (or-assoc k.shared a b)
  where
    or-assoc : (x y z : Bool) → ((x || y) || z) ≡ (x || (y || z))
    or-assoc true y z = refl
    or-assoc false y z = refl

pub on_ok : {T E : Type 0} (r : Result T E) (P Q : Type 0) → (P → Q) → OnOk r P → OnOk r Q
on_ok (Ok x) P Q f h = f h
on_ok (Err e) P Q f h = h
