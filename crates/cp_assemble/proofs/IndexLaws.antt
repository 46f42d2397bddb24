-- What the index of a file says of a predicate is what its clauses say.
use Rattle.std.proofs.Common.{◌≡◌, ℕ, zero, suc, ◌+◌, ◌<◌, ◌≤◌, get_or, refl, sym, ap, ◌∙◌, Bool, true, false, Some, None, Option, List, [], ◌∷◌, ◌++◌, length, take, map, slice_get, append_assoc, arith}
use Rattle.std.specs.Prelude.{◌||◌, cond, MatchOption}
use Rattle.std.specs.List.{filter_map}
use Rattle.std.proofs.lemmas.List.{length-append, take_more, map-append}
use Rattle.std.proofs.lemmas.List.Elements.{filter_map-append}
use Rattle.std.proofs.lemmas.Option.{slice_get-get_or}
use Rattle.std.proofs.lemmas.List.Folds.{list_any-append}
use Rattle.cp_read.specs.declared.clause.ReadClause.{ReadClause}
use Rattle.cp_declaration.specs.declared.declaration.Declaration.{Declaration}
use Rattle.cp_declaration.specs.declared.declaration.Declaration.TheVariants as declares
use Rattle.cp_declaration.specs.declared.indicator.Indicator.{Indicator}
use Rattle.cp_declaration.specs.Declarations.{declaration, is_declaration}
use Rattle.cp_code.specs.declared.clause.Clause.{Clause}
use Rattle.cp_module.specs.Causes.{same, is_in, is_clause_of, is_shared, shares, shares_by, clauses_of, pred_of}
use Rattle.cp_link.specs.Modules.{one, said, shared_in, distinct, own_preds}
use Rattle.cp_link.specs.Linked.{either_marks, marks_by, marks_in}
use Rattle.cp_assemble.proofs.StepLaws.{as_one}
use Rattle.cp_assemble.specs.declared.marks.Marking.{Marking}
use Rattle.cp_assemble.specs.Index.{places_of, place_by, pred_by, marking_by, markings_in, is_marking_of, marks_among}

-- ---- the clauses of a predicate

at_end : (before cs : List ReadClause) (c : ReadClause) → slice_get (before ++ c ∷ cs) (length before) ≡ Some c
at_end [] cs c = refl
at_end (b ∷ before) cs c = at_end before cs c

one_first : (xs cs : List ReadClause) (n : ℕ) (c : ReadClause) (ns : List ℕ) (o : Option ReadClause) → slice_get xs n ≡ o → o ≡ Some c → filter_map (slice_get xs) (n ∷ ns) ≡ c ∷ filter_map (slice_get xs) ns
one_first xs cs n c ns (Some x) h e = cc
one_first xs cs n c ns None h e = cc

select_one : (b : Bool) (xs later : List ReadClause) (n : ℕ) (c : ReadClause) (ns : List ℕ) → slice_get xs n ≡ Some c → filter_map (slice_get xs) ns ≡ later
    → filter_map (slice_get xs) (cond b (n ∷ ns) ns) ≡ cond b (c ∷ later) later
select_one true xs later n c ns at h = one_first xs later n c ns (slice_get xs n) refl at ∙ ap (λ ys. c ∷ ys) h
select_one false xs later n c ns at h = h

-- the clauses at the places of a predicate's clauses are its clauses
selected : (before cs : List ReadClause) (p : Indicator) → filter_map (slice_get (before ++ cs)) (places_of (length before) cs p) ≡ clauses_of cs p
selected before [] p = refl
selected before (c ∷ cs) p =
    let later : filter_map (slice_get (before ++ c ∷ cs)) (places_of (length before + 1) cs p) ≡ clauses_of cs p =
    ap (λ xs. filter_map (slice_get xs) (places_of (length before + 1) cs p)) (sym (append_assoc before (c ∷ []) cs))
    ∙ ap (λ m. filter_map (slice_get ((before ++ c ∷ []) ++ cs)) (places_of m cs p)) (sym (length-append before (c ∷ [])))
    ∙ selected (before ++ c ∷ []) cs p in
    select_one (is_clause_of p c) (before ++ c ∷ cs) (clauses_of cs p) (length before) c (places_of (length before + 1) cs p) (at_end before cs c) later

pub clauses_found : (cs : List ReadClause) (p : Indicator) (places : List ℕ) → places ≡ places_of 0 cs p → filter_map (slice_get cs) places ≡ clauses_of cs p
clauses_found cs p places e = ap (filter_map (slice_get cs)) e ∙ selected [] cs p

-- one clause more
no_more : (n : ℕ) → n ≡ n + 0
no_more n = omega arith

one_more : (n m : ℕ) → n + 1 + m ≡ n + suc m
one_more n m = omega arith

put_first : (b : Bool) (n : ℕ) (all some more : List ℕ) → all ≡ some ++ more → cond b (n ∷ all) all ≡ cond b (n ∷ some) some ++ more
put_first true n all some more h = ap (λ xs. n ∷ xs) h
put_first false n all some more h = h

place_more : (n : ℕ) (cs : List ReadClause) (c : ReadClause) (p : Indicator) → places_of n (cs ++ c ∷ []) p ≡ places_of n cs p ++ place_by (n + length cs) (pred_of c) p
place_more n [] c p = ap (λ m. place_by m (pred_of c) p) (no_more n)
place_more n (x ∷ cs) c p =
    put_first (is_clause_of p x) n (places_of (n + 1) (cs ++ c ∷ []) p) (places_of (n + 1) cs p) (place_by (n + 1 + length cs) (pred_of c) p) (place_more (n + 1) cs c p)
    ∙ ap (λ m. cond (is_clause_of p x) (n ∷ places_of (n + 1) cs p) (places_of (n + 1) cs p) ++ place_by m (pred_of c) p) (one_more n (length cs))

taken_length : (cs : List ReadClause) (i : ℕ) → i < length cs → length (take i cs) ≡ i
taken_length [] i h = absurd (omega arith)
taken_length (c ∷ cs) zero h = refl
taken_length (c ∷ cs) (suc i) h =
    let lt : i < length cs = omega arith in
    ap suc (taken_length cs i lt)

one_longer : (cs : List ReadClause) (i : ℕ) → i < length cs → (c : ReadClause) × (slice_get cs i ≡ Some c) × (take (i + 1) cs ≡ take i cs ++ c ∷ [])
one_longer [] i h = absurd (omega arith)
one_longer (c ∷ cs) i h = (get_or (c ∷ cs) i c, slice_get-get_or (c ∷ cs) i c h, take_more (c ∷ cs) i c h)

from_none : (n : ℕ) → n ≡ 0 + n
from_none n = omega arith

pub noted : (cs : List ReadClause) (i : ℕ) (p : Indicator) → i < length cs → places_of 0 (take i cs) p ++ place_by i (pred_by (slice_get cs i)) p ≡ places_of 0 (take (i + 1) cs) p
noted cs i p h =
    let more = one_longer cs i h in
    ap (λ o. places_of 0 (take i cs) p ++ place_by i (pred_by o) p) more.1
    ∙ ap (λ n. places_of 0 (take i cs) p ++ place_by n (pred_of more.0) p) (sym (taken_length cs i h) ∙ from_none (length (take i cs)))
    ∙ sym (place_more 0 (take i cs) more.0 p)
    ∙ ap (λ xs. places_of 0 xs p) (sym more.2)

pub past_end : (cs : List ReadClause) (i : ℕ) → length cs ≤ i → slice_get cs i ≡ None
past_end [] i h = refl
past_end (c ∷ cs) zero h = absurd (omega arith)
past_end (c ∷ cs) (suc i) h =
    let past : length cs ≤ i = omega arith in
    past_end cs i past

pub one_place_more : (f : ReadClause → Clause) (cs : List ReadClause) (places : List ℕ) (i d : ℕ) → i < length places
    → map f (filter_map (slice_get cs) (take i places)) ++ map f (one (slice_get cs (get_or places i d))) ≡ map f (filter_map (slice_get cs) (take (i + 1) places))
one_place_more f cs places i d h =
    let g = slice_get cs in
    let x = get_or places i d in
    let before = filter_map g (take i places) in
    sym (map-append f before (one (g x)))
    ∙ ap (λ ys. map f (before ++ ys)) (as_one g x (g x) refl)
    ∙ ap (map f) (sym (filter_map-append g (take i places) (x ∷ [])) ∙ ap (filter_map g) (sym (take_more places i d h)))

-- ---- the predicate of one clause

once : (o : Option Indicator) → distinct (([] ++ one o) ++ []) ≡ one o
once None = refl
once (Some p) = refl

pub own_one : (c : ReadClause) → is_declaration c.term ≡ false → own_preds (c ∷ []) ≡ one (pred_of c)
own_one c e = ap (λ b. distinct ((cond b (shares_by (declaration c.term)) [] ++ one (pred_of c)) ++ [])) e ∙ once (pred_of c)

no_last : (ps : List Indicator) (q : Indicator) → [] ≡ ps ++ q ∷ [] → ⊥
no_last [] q e = cc
no_last (p ∷ ps) q e = cc

only_last : (ps : List Indicator) (p q : Indicator) → p ∷ [] ≡ ps ++ q ∷ [] → q ≡ p
only_last [] p q e = cc
only_last (x ∷ ps) p q e =
    let rest : [] ≡ ps ++ q ∷ [] = cc in
    absurd (no_last ps q rest)

pub popped : (o found : Option Indicator) (old new : List Indicator) → MatchOption found ((old ≡ []) × (new ≡ [])) (λ last. old ≡ new ++ last ∷ []) → old ≡ one o → found ≡ o
popped None None old new h e = refl
popped (Some p) None old new h e = let both : [] ≡ p ∷ [] = sym h.0 ∙ e in cc
popped None (Some q) old new h e = absurd (no_last new q (sym e ∙ h))
popped (Some p) (Some q) old new h e = ap (λ x. Some x) (only_last new p q (sym e ∙ h))

-- ---- the predicates that are shared

pub is_shared_in : (cs : List ReadClause) (p : Indicator) → is_in (shared_in cs) p ≡ is_shared cs p
is_shared_in [] p = refl
is_shared_in (c ∷ cs) p = list_any-append (same p) (shares c) (shared_in cs) ∙ ap (λ b. is_in (shares c) p || b) (is_shared_in cs p)

-- ---- the marks of a predicate

marked : (o : Option Declaration) (i : Indicator) (cs : List Marking) (marks : List Bool) → marks_among cs i ≡ marks → marks_among (one (marking_by o) ++ cs) i ≡ either_marks (marks_by i o) marks
marked None i cs marks e = e
marked (Some (declares.MetaPredicate name marks)) i cs others e = go (is_marking_of i m)
  where
    m : Marking
    m = record { name = name; marks = marks }

    go : (b : Bool) → cond b (either_marks marks (marks_among cs i)) (marks_among cs i) ≡ either_marks (cond b marks []) others
    go true = ap (either_marks marks) e
    go false = e
marked (Some (declares.Module a b)) i cs marks e = e
marked (Some (declares.UseModule a b)) i cs marks e = e
marked (Some (declares.UseActiveModule a b)) i cs marks e = e
marked (Some (declares.Shared a b)) i cs marks e = e
marked (Some (declares.Operators a b c)) i cs marks e = e
marked (Some (declares.RegType a)) i cs marks e = e
marked (Some declares.Assertion) i cs marks e = e
marked (Some declares.Nothing) i cs marks e = e

filter_mapped_one : {X Y : Type 0} (f : X → Option Y) (x : X) (xs : List X) (o : Option Y) → f x ≡ o → filter_map f (x ∷ xs) ≡ one o ++ filter_map f xs
filter_mapped_one f x xs None e = cc
filter_mapped_one f x xs (Some y) e = cc

pub marks_found : (cs : List ReadClause) (i : Indicator) → marks_among (markings_in cs) i ≡ marks_in cs i
marks_found [] i = refl
marks_found (c ∷ cs) i =
    ap (λ ms. marks_among ms i) (filter_mapped_one (λ d. marking_by (said d)) c cs (marking_by (said c)) refl)
    ∙ marked (said c) i (markings_in cs) (marks_in cs i) (marks_found cs i)
