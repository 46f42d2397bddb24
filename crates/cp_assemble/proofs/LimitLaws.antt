-- Files in which nothing is refused have at most 65,536 clauses and 32 shared predicates.
use Rattle.std.proofs.Common.{◌≡◌, ℕ, ◌+◌, ◌<◌, ◌≤◌, refl, ap, sym, ◌∙◌, Bool, true, false, Some, None, Option, List, [], ◌∷◌, ◌++◌, map, length, length-append, append-nil, arith}
use Rattle.std.specs.Prelude.{cond, not, nat_lt, nat_le}
use Rattle.std.specs.List.{list_any, sum, sum_by}
use Rattle.std.proofs.lemmas.Bool.{ltb-false, leb-false}
use Rattle.std.proofs.lemmas.List.{length-map}
use Rattle.std.proofs.lemmas.List.Sums.{sum-map, sum_by-append}
use Rattle.std.proofs.lemmas.List.Elements.{filter-append}
use Rattle.std.proofs.lemmas.Grind.{flat_map-append}
use Rattle.cp_read.specs.declared.clause.ReadClause.{ReadClause}
use Rattle.cp_declaration.specs.declared.declaration.Declaration.{Declaration}
use Rattle.cp_declaration.specs.declared.declaration.Declaration.TheVariants as declares
use Rattle.cp_declaration.specs.Declarations.{declaration, is_declaration}
use Rattle.cp_module.specs.declared.why.Why.{Why}
use Rattle.cp_module.specs.declared.why.Why.TheVariants as why
use Rattle.cp_module.specs.declared.cause.Cause.{Cause}
use Rattle.cp_module.specs.Parts.{Part}
use Rattle.cp_module.specs.Causes.{unless, cause_on, least, shares, shares_by}
use Rattle.cp_link.specs.Modules.{name_of, in_module, said, rules_in, shared_in}
use Rattle.cp_link.specs.Imports.{is_imported}
use Rattle.cp_link.specs.Refusals.{Where, Fault, rules_of_parts, shared_of_parts, imported, declaration_cause, rule_cause, clause_cause, causes_from, part_cause, or_later, refused, refused_from}
use Rattle.cp_link.specs.Linked.{all_shared, shared_by}

-- ---- what is not refused

right : (b : Bool) (w : Why) (o : Option Why) → unless b w o ≡ None → b ≡ false
right true w o e = cc
right false w o e = refl

none_on : (line : ℕ) (w : Option Why) (more : List Cause) → cause_on line w ++ more ≡ [] → (w ≡ None) × (more ≡ [])
none_on line None more e = (refl, e)
none_on line (Some w) more e = cc

none_least : (causes : List Cause) → least causes ≡ None → causes ≡ []
none_least [] e = refl
none_least (c ∷ causes) e = cc

-- ---- one clause

rules_by : (w : Where) (c : ReadClause) → clause_cause w c ≡ None → rules_of_parts w.before + length (rules_in w.above) ≤ 65536
    → rules_of_parts w.before + length (rules_in w.above) + length (rules_in (c ∷ [])) ≤ 65536
rules_by w c e h = go (is_declaration c.term) refl
  where
    n : ℕ
    n = rules_of_parts w.before + length (rules_in w.above)

    go : (b : Bool) → is_declaration c.term ≡ b → n + length (cond (not b) (c ∷ []) []) ≤ 65536
    go true d = omega (arith, h)
    go false d =
        let cause : rule_cause w c ≡ None = ap (λ b. cond b (declaration_cause w c (said c)) (rule_cause w c)) (sym d) ∙ e in
        let few : n < 65536 = leb-false 65536 n (right (nat_le 65536 n) why.TooManyClauses _ cause) in
        omega (arith, few)

shared_by_declaration : (w : Where) (c : ReadClause) (d : Option Declaration) → declaration_cause w c d ≡ None → shared_of_parts w.before + length (shared_in w.above) ≤ 32
    → shared_of_parts w.before + length (shared_in w.above) + length (shares_by d) ≤ 32
shared_by_declaration w c (Some (declares.Shared suspends preds)) e h =
    ltb-false 32 _ (right (nat_lt 32 (shared_of_parts w.before + length (shared_in w.above) + length preds)) why.TooManyShared (unless (list_any (is_imported (imported w)) preds) why.ClauseOfImported None) e)
shared_by_declaration w c other e h = omega (arith, h)

shared_with : (w : Where) (c : ReadClause) → clause_cause w c ≡ None → shared_of_parts w.before + length (shared_in w.above) ≤ 32
    → shared_of_parts w.before + length (shared_in w.above) + length (shares c) ≤ 32
shared_with w c e h = go (is_declaration c.term) refl
  where
    n : ℕ
    n = shared_of_parts w.before + length (shared_in w.above)

    go : (b : Bool) → is_declaration c.term ≡ b → n + length (cond b (shares_by (declaration c.term)) []) ≤ 32
    go true d =
        let cause : declaration_cause w c (declaration c.term) ≡ None = ap (λ b. cond b (declaration_cause w c (cond b (declaration c.term) None)) (rule_cause w c)) (sym d) ∙ e in
        shared_by_declaration w c (declaration c.term) cause h
    go false d = omega (arith, h)

-- ---- a file

abbrev at : (parts before : List Part) → Part → List ReadClause → Where
at parts before p above = record { parts = parts; before = before; part = p; above = above }

rules_behind : (parts before : List Part) (p : Part) (above clauses : List ReadClause) → causes_from parts before p above clauses ≡ []
    → rules_of_parts before + length (rules_in above) ≤ 65536 → rules_of_parts before + length (rules_in above) + length (rules_in clauses) ≤ 65536
rules_behind parts before p above [] e h = omega (arith, h)
rules_behind parts before p above (c ∷ clauses) e h =
    let none = none_on c.line (clause_cause (at parts before p above) c) (causes_from parts before p (above ++ c ∷ []) clauses) e in
    let one : rules_of_parts before + length (rules_in above) + length (rules_in (c ∷ [])) ≤ 65536 = rules_by (at parts before p above) c none.0 h in
    let passed : length (rules_in (above ++ c ∷ [])) ≡ length (rules_in above) + length (rules_in (c ∷ []))
    = ap length (filter-append (λ (x : ReadClause). not (is_declaration x.term)) above (c ∷ [])) ∙ length-append (rules_in above) (rules_in (c ∷ [])) in
    let rest : length (rules_in (c ∷ clauses)) ≡ length (rules_in (c ∷ [])) + length (rules_in clauses)
    = ap length (filter-append (λ (x : ReadClause). not (is_declaration x.term)) (c ∷ []) clauses) ∙ length-append (rules_in (c ∷ [])) (rules_in clauses) in
    let all = rules_behind parts before p (above ++ c ∷ []) clauses none.1 (omega (arith, one, passed)) in
    omega (arith, all, passed, rest)

shared_behind : (parts before : List Part) (p : Part) (above clauses : List ReadClause) → causes_from parts before p above clauses ≡ []
    → shared_of_parts before + length (shared_in above) ≤ 32 → shared_of_parts before + length (shared_in above) + length (shared_in clauses) ≤ 32
shared_behind parts before p above [] e h = omega (arith, h)
shared_behind parts before p above (c ∷ clauses) e h =
    let none = none_on c.line (clause_cause (at parts before p above) c) (causes_from parts before p (above ++ c ∷ []) clauses) e in
    let one : shared_of_parts before + length (shared_in above) + length (shares c) ≤ 32 = shared_with (at parts before p above) c none.0 h in
    let passed : length (shared_in (above ++ c ∷ [])) ≡ length (shared_in above) + length (shares c)
    = ap length (flat_map-append shares above (c ∷ []) ∙ ap (λ xs. shared_in above ++ xs) (append-nil (shares c))) ∙ length-append (shared_in above) (shares c) in
    let rest : length (shared_in (c ∷ clauses)) ≡ length (shares c) + length (shared_in clauses) = length-append (shares c) (shared_in clauses) in
    let all = shared_behind parts before p (above ++ c ∷ []) clauses none.1 (omega (arith, one, passed)) in
    omega (arith, all, passed, rest)

-- ---- all files

counted-append : (f : Part → ℕ) (before : List Part) (p : Part) → sum (map f (before ++ p ∷ [])) ≡ sum (map f before) + f p
counted-append f before p =
    let all : sum (map f (before ++ p ∷ [])) ≡ sum_by f before + (0 + f p) = sum-map f (before ++ p ∷ []) ∙ sum_by-append f before (p ∷ []) in
    let some : sum (map f before) ≡ sum_by f before = sum-map f before in
    omega (arith, all, some)

counted-cons : (f : Part → ℕ) (p : Part) (parts : List Part) → sum (map f (p ∷ parts)) ≡ f p + sum (map f parts)
counted-cons f p parts =
    let all : sum (map f (p ∷ parts)) ≡ 0 + f p + sum_by f parts = sum-map f (p ∷ parts) ∙ sum_by-append f (p ∷ []) parts in
    let some : sum (map f parts) ≡ sum_by f parts = sum-map f parts in
    omega (arith, all, some)

not_later : (file : List ℕ) (c : Option Cause) (later : Option Fault) → or_later file c later ≡ None → (c ≡ None) × (later ≡ None)
not_later file None later e = (refl, e)
not_later file (Some c) later e = cc

no_causes : (parts before : List Part) (p : Part) → part_cause parts before p ≡ None → causes_from parts before p [] p.clauses ≡ []
no_causes parts before p e = none_least (causes_from parts before p [] p.clauses) e

rules_from : (parts before rest : List Part) → refused_from parts before rest ≡ None → rules_of_parts before ≤ 65536 → rules_of_parts before + rules_of_parts rest ≤ 65536
rules_from parts before [] e h = omega (arith, h)
rules_from parts before (p ∷ rest) e h =
    let none = not_later p.file (part_cause parts before p) (refused_from parts (before ++ p ∷ []) rest) e in
    let here : rules_of_parts before + 0 + length (rules_in p.clauses) ≤ 65536 = rules_behind parts before p [] p.clauses (no_causes parts before p none.0) (omega (arith, h)) in
    let passed : rules_of_parts (before ++ p ∷ []) ≡ rules_of_parts before + length (rules_in p.clauses) = counted-append (λ (q : Part). length (rules_in q.clauses)) before p in
    let more : rules_of_parts (p ∷ rest) ≡ length (rules_in p.clauses) + rules_of_parts rest = counted-cons (λ (q : Part). length (rules_in q.clauses)) p rest in
    let all = rules_from parts (before ++ p ∷ []) rest none.1 (omega (arith, here, passed)) in
    omega (arith, all, passed, more)

shared_from : (parts before rest : List Part) → refused_from parts before rest ≡ None → shared_of_parts before ≤ 32 → shared_of_parts before + shared_of_parts rest ≤ 32
shared_from parts before [] e h = omega (arith, h)
shared_from parts before (p ∷ rest) e h =
    let none = not_later p.file (part_cause parts before p) (refused_from parts (before ++ p ∷ []) rest) e in
    let here : shared_of_parts before + 0 + length (shared_in p.clauses) ≤ 32 = shared_behind parts before p [] p.clauses (no_causes parts before p none.0) (omega (arith, h)) in
    let passed : shared_of_parts (before ++ p ∷ []) ≡ shared_of_parts before + length (shared_in p.clauses) = counted-append (λ (q : Part). length (shared_in q.clauses)) before p in
    let more : shared_of_parts (p ∷ rest) ≡ length (shared_in p.clauses) + shared_of_parts rest = counted-cons (λ (q : Part). length (shared_in q.clauses)) p rest in
    let all = shared_from parts (before ++ p ∷ []) rest none.1 (omega (arith, here, passed)) in
    omega (arith, all, passed, more)

pub few_rules : (parts : List Part) → refused parts ≡ None → rules_of_parts parts ≤ 65536
unfolding refused
few_rules parts e = omega (arith, rules_from parts [] parts e (omega arith))

named : (parts : List Part) → length (all_shared parts) ≡ shared_of_parts parts
named [] = refl
named (p ∷ parts) =
    length-append (shared_by p) (all_shared parts) ∙ ap (λ n. n + length (all_shared parts)) (length-map (shared_in p.clauses) (in_module (name_of p)))
    ∙ ap (λ n. length (shared_in p.clauses) + n) (named parts) ∙ sym (counted-cons (λ (q : Part). length (shared_in q.clauses)) p parts)

pub few_shared : (parts : List Part) → refused parts ≡ None → length (all_shared parts) ≤ 32
unfolding refused
few_shared parts e = omega (arith, shared_from parts [] parts e (omega arith), named parts)
