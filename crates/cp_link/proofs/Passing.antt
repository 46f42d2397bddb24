-- How far the clauses of a file are looked at, and that what is kept of them says what their causes are.
use Rattle.std.proofs.Common.{◌≡◌, ℕ, refl, sym, ap, ◌∙◌, Bool, true, false, Some, None, Option, List, [], ◌∷◌, ◌++◌, map, zero, suc, ◌+◌, ◌<◌, ◌≤◌, inl, inr, length, get_or, drop, append-nil, add-zero, add_assoc, length-append, subst, arith}
use Rattle.std.specs.Prelude.{nat_le, nat_lt, not, cond, min}
use Rattle.std.specs.List.{list_any, flat_map}
use Rattle.std.proofs.Math.Nat.{min-le_left, min-le_right, le-min}
use Rattle.std.proofs.lemmas.Bool.{cases_lt, le-leb, lt-ltb}
use Rattle.std.proofs.lemmas.Grind.{flat_map-append}
use Rattle.std.proofs.lemmas.List.{drop_more}
use Rattle.std.proofs.lemmas.List.Elements.{filter-append}
use Rattle.cp_read.specs.declared.clause.ReadClause.{ReadClause}
use Rattle.cp_declaration.specs.declared.declaration.Declaration.{Declaration}
use Rattle.cp_declaration.specs.declared.declaration.Declaration.TheVariants as declares
use Rattle.cp_declaration.specs.declared.indicator.Indicator.{Indicator}
use Rattle.cp_declaration.specs.Declarations.{is_declaration}
use Rattle.cp_module.specs.declared.why.Why.TheVariants as why
use Rattle.cp_module.specs.declared.cause.Cause.{Cause}
use Rattle.cp_module.specs.Parts.{Part}
use Rattle.cp_module.specs.Paths.{imported_file}
use Rattle.cp_module.specs.Causes.{pred_of, shares, unless, cause_on, least}
use Rattle.cp_module.specs.Least.{soonest}
use Rattle.cp_link.specs.declared.exported.ModuleExports.{ModuleExports}
use Rattle.cp_link.specs.declared.kept.Kept.{Kept}
use Rattle.cp_link.specs.Modules.{said, shared_in, rules_in}
use Rattle.cp_link.specs.Imports.{file_named, imports_by, is_imported}
use Rattle.cp_link.specs.Written.{written_in}
use Rattle.cp_link.specs.Exported.{shown, is_exported_in}
use Rattle.cp_link.specs.Refusals.{Where, rules_of_parts, shared_of_parts, is_taken, lacks, clash, import_cause, shared_cause, declaration_cause, is_imported_head, rule_cause, clause_cause, causes_from, part_cause}
use Rattle.cp_link.specs.Kept.{Keeps, at, counted, passed, import_by, shared_by, declaration_by, is_imported_by, rule_by, clause_by}
use Rattle.cp_link.proofs.LeastLaws.{soonest-assoc, least-append}

-- ---- counts that stay at the end of their type

below : (n : ℕ) → n ≤ 18446744073709551615 → counted n ≡ n
below n h =
    let a : min n 18446744073709551615 ≤ n = min-le_left n 18446744073709551615 in
    let b : n ≤ min n 18446744073709551615 = le-min (omega arith) h in
    omega arith

above_it : (n : ℕ) → 18446744073709551615 ≤ n → counted n ≡ 18446744073709551615
above_it n h =
    let a : min n 18446744073709551615 ≤ 18446744073709551615 = min-le_right n 18446744073709551615 in
    let b : 18446744073709551615 ≤ min n 18446744073709551615 = le-min h (omega arith) in
    omega arith

pub counted_twice : (n m : ℕ) → counted (counted n + m) ≡ counted (n + m)
counted_twice n m =
    elim (cases_lt n 18446744073709551615) [
      | inl lt ↦ ap (λ x. counted (x + m)) (below n (omega arith))
      | inr ge ↦ ap (λ x. counted (x + m)) (above_it n ge) ∙ above_it (18446744073709551615 + m) (omega arith) ∙ sym (above_it (n + m) (omega arith))
    ]

pub counted_end : (n rest m : ℕ) → n ≤ 18446744073709551615 → rest ≡ 0 → counted (n + rest) ≡ m → n ≡ m
counted_end n rest m h z e = sym (below n h) ∙ ap counted (sym (add-zero n)) ∙ ap (λ x. counted (n + x)) (sym z) ∙ e

le_counted : (n : ℕ) → nat_le 65536 (counted n) ≡ nat_le 65536 n
le_counted n =
    elim (cases_lt n 18446744073709551615) [
      | inl lt ↦ ap (λ x. nat_le 65536 x) (below n (omega arith))
      | inr ge ↦ ap (λ x. nat_le 65536 x) (above_it n ge) ∙ sym (le-leb 65536 n (omega arith))
    ]

lt_counted : (n m : ℕ) → nat_lt 32 (counted n + m) ≡ nat_lt 32 (n + m)
lt_counted n m =
    elim (cases_lt n 18446744073709551615) [
      | inl lt ↦ ap (λ x. nat_lt 32 (x + m)) (below n (omega arith))
      | inr ge ↦ ap (λ x. nat_lt 32 (x + m)) (above_it n ge) ∙ lt-ltb 32 (18446744073709551615 + m) (omega arith) ∙ sym (lt-ltb 32 (n + m) (omega arith))
    ]

-- ---- the causes of a clause by what is kept

import_same : (parts before : List Part) (part : Part) (above : List ReadClause) (kept : Kept) (c : ReadClause) → Keeps kept (at parts before part above)
    → import_by parts part.file kept c ≡ import_cause (at parts before part above) c
import_same parts before part above kept c k = λ i. unless (clash (k.earlier i) (imports_by parts part.file c)) why.ImportClash None

shared_same : (parts before : List Part) (part : Part) (above : List ReadClause) (kept : Kept) (preds : List Indicator) → Keeps kept (at parts before part above)
    → shared_by kept preds ≡ shared_cause (at parts before part above) preds
shared_same parts before part above kept preds k =
    let few : nat_lt 32 (kept.shared + length preds) ≡ nat_lt 32 (shared_of_parts before + length (shared_in above) + length preds)
    = ap (λ n. nat_lt 32 (n + length preds)) k.shared ∙ lt_counted (shared_of_parts before + length (shared_in above)) (length preds) in
    λ i. unless (few i) why.TooManyShared (unless (list_any (is_imported (k.imported i)) preds) why.ClauseOfImported None)

declaration_same : (parts before : List Part) (part : Part) (above : List ReadClause) (kept : Kept) (c : ReadClause) → Keeps kept (at parts before part above) → (d : Option Declaration)
    → declaration_by parts before part.file kept c d ≡ declaration_cause (at parts before part above) c d
declaration_same parts before part above kept c k (Some (declares.Module name exports)) = λ i. unless (is_taken before (k.own i)) why.DuplicateModule None
declaration_same parts before part above kept c k (Some (declares.UseModule name imports)) =
    ap (unless (lacks (file_named parts (imported_file part.file name)) imports) why.NotExported) (import_same parts before part above kept c k)
declaration_same parts before part above kept c k (Some (declares.UseActiveModule name preds)) =
    ap (unless (is_taken parts name) why.DuplicateModule) (import_same parts before part above kept c k)
declaration_same parts before part above kept c k (Some (declares.Shared suspends preds)) = shared_same parts before part above kept preds k
declaration_same parts before part above kept c k other = refl

head_same : (kept : Kept) (w : Where) (p : Option Indicator) → Keeps kept w → is_imported_by kept p ≡ is_imported_head w p
head_same kept w None k = refl
head_same kept w (Some p) k = λ i. is_imported (k.imported i) p

rule_same : (all : List ModuleExports) (kept : Kept) (w : Where) (c : ReadClause) → all ≡ map shown w.parts → Keeps kept w → rule_by all kept c ≡ rule_cause w c
rule_same all kept w c e k =
    let many : nat_le 65536 kept.rules ≡ nat_le 65536 (rules_of_parts w.before + length (rules_in w.above))
    = ap (λ n. nat_le 65536 n) k.rules ∙ le_counted (rules_of_parts w.before + length (rules_in w.above)) in
    λ i. unless (many i) why.TooManyClauses
    (unless (list_any (λ g. not (is_exported_in (e i) (k.active i) g)) (written_in (k.own i) c.term)) why.NotExported
    (unless (head_same kept w (pred_of c) k i) why.ClauseOfImported None))

pub clause_same : (parts before : List Part) (part : Part) (above : List ReadClause) (all : List ModuleExports) (kept : Kept) (c : ReadClause) → all ≡ map shown parts → Keeps kept (at parts before part above)
    → clause_by parts before part.file all kept c ≡ clause_cause (at parts before part above) c
clause_same parts before part above all kept c e k =
    λ i. cond (is_declaration c.term) (declaration_same parts before part above kept c k (said c) i) (rule_same all kept (at parts before part above) c e k i)

-- ---- past a clause

one_rule : (c : ReadClause) (b : Bool) (n : ℕ) → is_declaration c.term ≡ b → cond b (counted n) (counted (counted n + 1)) ≡ counted (n + length (rules_in (c ∷ [])))
one_rule c true n h = ap counted (sym (add-zero n)) ∙ ap (λ x. counted (n + length (cond (not x) (c ∷ []) []))) (sym h)
one_rule c false n h = counted_twice n 1 ∙ ap (λ x. counted (n + length (cond (not x) (c ∷ []) []))) (sym h)

rules_past : (kept : ℕ) (s : ℕ) (above : List ReadClause) (c : ReadClause) → kept ≡ counted (s + length (rules_in above))
    → cond (is_declaration c.term) kept (counted (kept + 1)) ≡ counted (s + length (rules_in (above ++ c ∷ [])))
rules_past kept s above c h =
    ap (λ n. cond (is_declaration c.term) n (counted (n + 1))) h
    ∙ one_rule c (is_declaration c.term) (s + length (rules_in above)) refl
    ∙ ap counted (add_assoc s (length (rules_in above)) (length (rules_in (c ∷ []))))
    ∙ ap (λ n. counted (s + n)) (sym (length-append (rules_in above) (rules_in (c ∷ []))))
    ∙ ap (λ xs. counted (s + length xs)) (sym (filter-append (λ (x : ReadClause). not (is_declaration x.term)) above (c ∷ [])))

one_more : {X : Type 0} (f : ReadClause → List X) (above : List ReadClause) (c : ReadClause) → flat_map f (above ++ c ∷ []) ≡ flat_map f above ++ f c
one_more f above c = flat_map-append f above (c ∷ []) ∙ ap (λ xs. flat_map f above ++ xs) (append-nil (f c))

shared_past : (kept : ℕ) (s : ℕ) (above : List ReadClause) (c : ReadClause) → kept ≡ counted (s + length (shared_in above))
    → counted (kept + length (shares c)) ≡ counted (s + length (shared_in (above ++ c ∷ [])))
shared_past kept s above c h =
    ap (λ n. counted (n + length (shares c))) h
    ∙ counted_twice (s + length (shared_in above)) (length (shares c))
    ∙ ap counted (add_assoc s (length (shared_in above)) (length (shares c)))
    ∙ ap (λ n. counted (s + n)) (sym (length-append (shared_in above) (shares c)))
    ∙ ap (λ xs. counted (s + length xs)) (sym (one_more shares above c))

passed_keeps : (parts before : List Part) (part : Part) (above : List ReadClause) (kept : Kept) (c : ReadClause) → Keeps kept (at parts before part above)
    → Keeps (passed parts part.file c kept) (at parts before part (above ++ c ∷ []))
passed_keeps parts before part above kept c k = record {
  own = k.own;
  imported = k.imported;
  active = k.active;
  rules = rules_past kept.rules (rules_of_parts before) above c k.rules;
  shared = shared_past kept.shared (shared_of_parts before) above c k.shared;
  earlier = ap (λ xs. xs ++ imports_by parts part.file c) k.earlier ∙ sym (one_more (imports_by parts part.file) above c);
}

-- ---- the clauses up to the rest are looked at

pub record Reached (parts before : List Part) (part : Part) (kept : Kept) (cause : Option Cause) (rest : List ReadClause) : Type 0 where
  pub above : List ReadClause
  pub keeps : Keeps kept (at parts before part above)
  pub counts : soonest cause (least (causes_from parts before part above rest)) ≡ part_cause parts before part

pub reached_none : (parts before : List Part) (part : Part) (kept : Kept) (clauses : List ReadClause) → clauses ≡ part.clauses → Keeps kept (at parts before part []) → Reached parts before part kept None clauses
reached_none parts before part kept clauses e k = record { above = []; keeps = k; counts = ap (λ cs. least (causes_from parts before part [] cs)) e }

reached_more : (parts before : List Part) (part : Part) (all : List ModuleExports) (kept : Kept) (cause : Option Cause) (c : ReadClause) (rest : List ReadClause) → all ≡ map shown parts
    → Reached parts before part kept cause (c ∷ rest)
    → Reached parts before part (passed parts part.file c kept) (soonest cause (least (cause_on c.line (clause_by parts before part.file all kept c)))) rest
reached_more parts before part all kept cause c rest e r =
    let on : List Cause = cause_on c.line (clause_by parts before part.file all kept c) in
    let others : List Cause = causes_from parts before part (r.above ++ c ∷ []) rest in
    record {
      above = r.above ++ c ∷ [];
      keeps = passed_keeps parts before part r.above kept c r.keeps;
      counts =
          sym (soonest-assoc cause (least on) (least others))
          ∙ ap (soonest cause) (sym (least-append on others))
          ∙ ap (λ x. soonest cause (least (cause_on c.line x ++ others))) (clause_same parts before part r.above all kept c e r.keeps)
          ∙ r.counts;
    }

pub reached_next : (parts before : List Part) (part : Part) (all : List ModuleExports) (kept more : Kept) (cause now : Option Cause) (clauses : List ReadClause) (i : ℕ) (c : ReadClause) → all ≡ map shown parts
    → i < length clauses → c ≡ get_or clauses i c
    → now ≡ soonest cause (least (cause_on c.line (clause_by parts before part.file all kept c)))
    → more ≡ passed parts part.file c kept
    → Reached parts before part kept cause (drop i clauses) → Reached parts before part more now (drop (i + 1) clauses)
reached_next parts before part all kept more cause now clauses i c e lt is_c is_now is_more r =
    let split : drop i clauses ≡ c ∷ drop (i + 1) clauses = drop_more clauses i c lt ∙ ap (λ x. x ∷ drop (i + 1) clauses) (sym is_c) in
    let P : List ReadClause → Type 0 = λ cs. Reached parts before part kept cause cs in
    let Q : Option Cause → Type 0 = λ x. Reached parts before part more x (drop (i + 1) clauses) in
    let R : Kept → Type 0 = λ k. Reached parts before part k (soonest cause (least (cause_on c.line (clause_by parts before part.file all kept c)))) (drop (i + 1) clauses) in
    subst Q (sym is_now) (subst R (sym is_more) (reached_more parts before part all kept cause c (drop (i + 1) clauses) e (subst P split r)))

pub drop_past : {A : Type 0} (xs : List A) (i : ℕ) → length xs ≤ i → drop i xs ≡ []
drop_past [] zero h = refl
drop_past [] (suc i) h = refl
drop_past (x ∷ xs) zero h = absurd (omega arith)
drop_past (x ∷ xs) (suc i) h = drop_past xs i (omega arith)

soonest-none : (a : Option Cause) → soonest a None ≡ a
soonest-none None = refl
soonest-none (Some c) = refl

pub reached_all : (parts before : List Part) (part : Part) (kept : Kept) (cause : Option Cause) (rest : List ReadClause) → rest ≡ [] → Reached parts before part kept cause rest → cause ≡ part_cause parts before part
reached_all parts before part kept cause rest e r =
    sym (soonest-none cause) ∙ ap (λ cs. soonest cause (least (causes_from parts before part r.above cs))) (sym e) ∙ r.counts
