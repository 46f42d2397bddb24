-- The shared predicates of a program are among its objects.
use Rattle.std.proofs.Common.{◌≡◌, ℕ, ◌+◌, ◌<◌, ◌≤◌, refl, ap, sym, subst, Bool, true, false, Some, None, Option, List, [], ◌∷◌, ◌++◌, map, length, length-append, arith}
use Rattle.std.specs.Prelude.{cond, ◌||◌, position, unwrap_or}
use Rattle.std.specs.List.{flat_map}
use Rattle.std.proofs.lemmas.List.{length-map}
use Rattle.std.proofs.lemmas.List.Quantifiers.{position-Some}
use Rattle.cp_term.specs.declared.pred_name.PredName.{PredName}
use Rattle.cp_term.specs.PredNameEq.{pred_name_eq}
use Rattle.cp_read.specs.declared.clause.ReadClause.{ReadClause}
use Rattle.cp_declaration.specs.declared.indicator.Indicator.{Indicator}
use Rattle.cp_code.specs.declared.pred_info.PredInfo.{PredInfo}
use Rattle.cp_code.specs.declared.pred_kind.PredKind.TheVariants as pred_kind
use Rattle.cp_code.specs.declared.program.Program.{Program}
use Rattle.cp_code.specs.Lawful.{NamesObject, NameObjects, IsLawful}
use Rattle.cp_module.specs.Parts.{Part}
use Rattle.cp_module.specs.Causes.{is_in, is_shared, shares}
use Rattle.cp_link.specs.Modules.{name_of, in_module, own_preds, shared_in}
use Rattle.cp_link.specs.Linked.{all_shared, shared_by, object_of, shared_kind, kind_in, suspends, pred_in, preds_in, active_modules, all_active, remote_pred, remote_preds, linked}
use Rattle.cp_assemble.specs.Answers.{Assembles}

-- ---- the number of a shared predicate

among : (q : PredName) (shared : List PredName) (o : Option ℕ) → position (pred_name_eq q) shared ≡ o → 0 < length shared → unwrap_or o 0 < length shared
among q shared None e h = h
among q shared (Some i) e h = (position-Some (pred_name_eq q) shared i q e).0

is_object : (shared : List PredName) (q : PredName) → 0 < length shared → object_of shared q < 2 + length shared
is_object shared q h =
    let within : unwrap_or (position (pred_name_eq q) shared) 0 < length shared = among q shared (position (pred_name_eq q) shared) refl h in
    omega arith

-- ---- a predicate that is shared is declared so

some_in : (preds : List Indicator) (i : Indicator) → is_in preds i ≡ true → 0 < length preds
some_in [] i e = cc
some_in (p ∷ preds) i e = omega arith

some_shared : (clauses : List ReadClause) (i : Indicator) → is_shared clauses i ≡ true → 0 < length (shared_in clauses)
some_shared [] i e = cc
some_shared (c ∷ clauses) i e = go (λ h. some_shared clauses i h) (is_in (shares c) i) refl e
  where
    both : length (shares c ++ shared_in clauses) ≡ length (shares c) + length (shared_in clauses)
    both = length-append (shares c) (shared_in clauses)

    go : (is_shared clauses i ≡ true → 0 < length (shared_in clauses)) → (b : Bool) → is_in (shares c) i ≡ b → (b || is_shared clauses i) ≡ true → 0 < length (shares c ++ shared_in clauses)
    go ih true f h = let here : 0 < length (shares c) = some_in (shares c) i f in omega (arith, both, here)
    go ih false f h = let later : 0 < length (shared_in clauses) = ih h in omega (arith, both, later)

-- ---- the predicates of a program

shared_named : (objects n : ℕ) (b : Bool) → n < objects → NamesObject objects (shared_kind b n)
shared_named objects n true h = h
shared_named objects n false h = h

-- where a file has shared predicates, there are some, and so many objects
abbrev Serves : (objects : ℕ) → List PredName → Part → Type 0
Serves objects shared p = 0 < length (shared_in p.clauses) → (0 < length shared) × (2 + length shared ≤ objects)

kind_named : (objects : ℕ) (shared : List PredName) (p : Part) (i : Indicator) → Serves objects shared p → NamesObject objects (kind_in shared p i)
kind_named objects shared p i h = go (is_shared p.clauses i) refl
  where
    n : ℕ
    n = object_of shared (in_module (name_of p) i)

    go : (b : Bool) → is_shared p.clauses i ≡ b → NamesObject objects (cond b (shared_kind (suspends p.clauses i) n) pred_kind.Rules)
    go true e =
        let some = h (some_shared p.clauses i e) in
        let within : n < 2 + length shared = is_object shared (in_module (name_of p) i) some.0 in
        shared_named objects n (suspends p.clauses i) (omega (arith, within, some.1))
    go false e = tt

of_preds : (objects : ℕ) (shared : List PredName) (p : Part) → Serves objects shared p → (preds : List Indicator) → NameObjects objects (map (pred_in shared p) preds)
of_preds objects shared p h [] = tt
of_preds objects shared p h (i ∷ preds) = (kind_named objects shared p i h, of_preds objects shared p h preds)

both_name : (objects : ℕ) (xs ys : List PredInfo) → NameObjects objects xs → NameObjects objects ys → NameObjects objects (xs ++ ys)
both_name objects [] ys hx hy = hy
both_name objects (x ∷ xs) ys hx hy = (hx.0, both_name objects xs ys hx.1 hy)

of_remote : (objects : ℕ) (modules : List (List ℕ)) (preds : List PredName) → NameObjects objects (map (remote_pred modules) preds)
of_remote objects modules [] = tt
of_remote objects modules (q ∷ preds) = (tt, of_remote objects modules preds)

of_parts : (shared : List PredName) (parts : List Part) → length (all_shared parts) ≤ length shared → NameObjects (2 + length shared) (flat_map (preds_in shared) parts)
of_parts shared [] h = tt
of_parts shared (p ∷ parts) h =
    let both : length (all_shared (p ∷ parts)) ≡ length (shared_by p) + length (all_shared parts) = length-append (shared_by p) (all_shared parts) in
    let own : length (shared_by p) ≡ length (shared_in p.clauses) = length-map (shared_in p.clauses) (in_module (name_of p)) in
    both_name (2 + length shared) (preds_in shared p) (flat_map (preds_in shared) parts)
    (of_preds (2 + length shared) shared p (λ some. (omega (arith, both, own, some, h), omega arith)) (own_preds p.clauses))
    (of_parts shared parts (omega (arith, both, h)))

of_prelude : (objects : ℕ) (p : Part) → shared_in p.clauses ≡ [] → NameObjects objects (preds_in [] p)
of_prelude objects p e = of_preds objects [] p (λ some. absurd (omega (arith, some, ap length e))) (own_preds p.clauses)

all_named : (parts : List Part) (prelude : Part) → shared_in prelude.clauses ≡ []
    → NameObjects (2 + length (all_shared parts)) (flat_map (preds_in (all_shared parts)) parts ++ remote_preds parts ++ preds_in [] prelude)
all_named parts prelude e =
    let objects : ℕ = 2 + length (all_shared parts) in
    let own : List PredInfo = flat_map (preds_in (all_shared parts)) parts in
    let files = both_name objects own (remote_preds parts) (of_parts (all_shared parts) parts (omega arith)) (of_remote objects (active_modules parts) (all_active parts)) in
    both_name objects (own ++ remote_preds parts) (preds_in [] prelude) files (of_prelude objects prelude e)

linked_lawful : (parts : List Part) (prelude : Part) → shared_in prelude.clauses ≡ [] → IsLawful (record (linked parts prelude) { ops = [] })
unfolding linked
linked_lawful parts prelude e = record { objects = all_named parts prelude e }

pub lawful : (parts : List Part) (prelude : Part) (p : Program) → shared_in prelude.clauses ≡ [] → Assembles parts prelude p → IsLawful p
lawful parts prelude p e made = subst IsLawful (sym made) (linked_lawful parts prelude e)
