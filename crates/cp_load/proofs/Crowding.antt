-- Files stop growing where too many are known, and the imports that are too many stay the same.
use Rattle.std.proofs.Common.{◌≡◌, ℕ, ◌+◌, ◌<◌, ◌≤◌, inl, inr, refl, sym, ap, ◌∙◌, subst, Bool, true, false, Option, Some, None, List, [], ◌∷◌, ◌++◌, length, get_or, drop, arith}
use Rattle.std.specs.Prelude.{nat_lt, cond, is_some}
use Rattle.std.proofs.lemmas.Bool.{cases_lt, lt-ltb, le-ltb}
use Rattle.cp_read.specs.declared.clause.ReadClause.{ReadClause}
use Rattle.cp_module.specs.declared.cause.Cause.{Cause}
use Rattle.cp_module.specs.declared.why.Why.TheVariants as why
use Rattle.cp_module.specs.Causes.{unless, cause_on, least}
use Rattle.cp_module.specs.Least.{soonest}
use Rattle.cp_module.specs.Parts.{Part}
use Rattle.cp_link.specs.Modules.{said}
use Rattle.cp_load.specs.Gathering.{known_by, known_after, too_many, misnamed, step_causes}
use Rattle.cp_load.proofs.LeastLaws.{soonest-assoc, least-append, soonest_none}
use Rattle.cp_load.proofs.StepLaws.{split}
use Rattle.cp_load.proofs.KnownLaws.{by_length}

-- what is known behind a clause
abbrev pub noted : List (List ℕ) → (file : List ℕ) → ReadClause → List (List ℕ)
noted known file c = cond (nat_lt 64 (length known)) known (known_by known file (said c))

abbrev pub crowd : ℕ → List (List ℕ) → List Cause
crowd line known = cause_on line (unless (nat_lt 64 (length known)) why.TooManyModules None)

crowd_same : (line : ℕ) (a b : List (List ℕ)) → 64 < length a → 64 < length b → crowd line a ≡ crowd line b
crowd_same line a b h k = ap (λ t. cause_on line (unless t why.TooManyModules None)) (lt-ltb 64 (length a) h ∙ sym (lt-ltb 64 (length b) k))

many_same : (a b : List (List ℕ)) (file : List ℕ) (clauses : List ReadClause) → 64 < length a → 64 < length b → too_many a file clauses ≡ too_many b file clauses
many_same a b file [] h k = refl
many_same a b file (c ∷ clauses) h k =
    let more_a : 64 < length (known_by a file (said c)) = omega (arith, by_length a file (said c)) in
    let more_b : 64 < length (known_by b file (said c)) = omega (arith, by_length b file (said c)) in
    let first = crowd_same c.line (known_by a file (said c)) (known_by b file (said c)) more_a more_b in
    let rest = many_same (known_by a file (said c)) (known_by b file (said c)) file clauses more_a more_b in
    λ i. first i ++ rest i

-- the imports that are too many, by what is noted
many_noted : (known : List (List ℕ)) (file : List ℕ) (c : ReadClause) (clauses : List ReadClause) → too_many known file (c ∷ clauses) ≡ crowd c.line (noted known file c) ++ too_many (noted known file c) file clauses
many_noted known file c clauses =
    elim (cases_lt 64 (length known)) [
      | inl lt ↦
          let more : 64 < length (known_by known file (said c)) = omega (arith, by_length known file (said c)) in
          let stays : noted known file c ≡ known = ap (λ t. cond t known (known_by known file (said c))) (lt-ltb 64 (length known) lt) in
          let first = crowd_same c.line (known_by known file (said c)) known more lt in
          let rest = many_same (known_by known file (said c)) known file clauses more lt in
          let e : too_many known file (c ∷ clauses) ≡ crowd c.line known ++ too_many known file clauses = λ i. first i ++ rest i in
          e ∙ ap (λ k. crowd c.line k ++ too_many k file clauses) (sym stays)
      | inr ge ↦
          let grows : noted known file c ≡ known_by known file (said c) = ap (λ t. cond t known (known_by known file (said c))) (le-ltb 64 (length known) ge) in
          ap (λ k. crowd c.line k ++ too_many k file clauses) (sym grows)
    ]

-- how far the clauses of a file are noted
pub record IsNoted (before : List (List ℕ)) (file : List ℕ) (clauses : List ReadClause) (cause : Option Cause) (known : List (List ℕ)) (rest : List ReadClause) : Type 0 where
  pub causes : soonest cause (least (too_many known file rest)) ≡ least (too_many before file clauses)
  pub grows : length known ≤ 64 → known_after known file rest ≡ known_after before file clauses
  pub crowded : 64 < length known → is_some cause ≡ true

pub none_noted : (before : List (List ℕ)) (file : List ℕ) (clauses : List ReadClause) → length before ≤ 64 → IsNoted before file clauses None before clauses
none_noted before file clauses few = record { causes = refl; grows = λ h. refl; crowded = λ h. absurd (omega arith) }

some_soonest : (cause : Option Cause) (c : Cause) → is_some (soonest cause (Some c)) ≡ true
some_soonest None c = refl
some_soonest (Some d) c = refl

crowd_some : (line : ℕ) (cause : Option Cause) (known : List (List ℕ)) → 64 < length known → is_some (soonest cause (least (crowd line known))) ≡ true
crowd_some line cause known h =
    ap (λ t. is_some (soonest cause (least (cause_on line (unless t why.TooManyModules None))))) (lt-ltb 64 (length known) h)
    ∙ some_soonest cause (record { line = line; why = why.TooManyModules })

noted_one : (before known : List (List ℕ)) (file : List ℕ) (clauses rest : List ReadClause) (c : ReadClause) (cause : Option Cause) → IsNoted before file clauses cause known (c ∷ rest)
    → IsNoted before file clauses (soonest cause (least (crowd c.line (noted known file c)))) (noted known file c) rest
noted_one before known file clauses rest c cause n = record {
  causes =
      sym (soonest-assoc cause (least (crowd c.line (noted known file c))) (least (too_many (noted known file c) file rest)))
      ∙ ap (soonest cause) (sym (least-append (crowd c.line (noted known file c)) (too_many (noted known file c) file rest)))
      ∙ ap (λ cs. soonest cause (least cs)) (sym (many_noted known file c rest))
      ∙ n.causes;
  grows = λ h. elim (cases_lt 64 (length known)) [
    | inl lt ↦
        let stays : noted known file c ≡ known = ap (λ t. cond t known (known_by known file (said c))) (lt-ltb 64 (length known) lt) in
        let same_length : length (noted known file c) ≡ length known = ap length stays in
        absurd (omega arith)
    | inr ge ↦
        let grows : noted known file c ≡ known_by known file (said c) = ap (λ t. cond t known (known_by known file (said c))) (le-ltb 64 (length known) ge) in
        ap (λ k. known_after k file rest) grows ∙ n.grows ge
  ];
  crowded = λ h. crowd_some c.line cause (noted known file c) h;
}

pub noted_next : (before known now : List (List ℕ)) (file : List ℕ) (clauses : List ReadClause) (i : ℕ) (c : ReadClause) (cause found : Option Cause) → i < length clauses → c ≡ get_or clauses i c
    → now ≡ noted known file c → found ≡ soonest cause (least (crowd c.line now)) → IsNoted before file clauses cause known (drop i clauses) → IsNoted before file clauses found now (drop (i + 1) clauses)
noted_next before known now file clauses i c cause found lt is_c is_now is_found n =
    let first : IsNoted before file clauses cause known (c ∷ drop (i + 1) clauses) = subst (IsNoted before file clauses cause known) (split clauses i c lt is_c) n in
    let next = noted_one before known file clauses (drop (i + 1) clauses) c cause first in
    let e : soonest cause (least (crowd c.line (noted known file c))) ≡ found = ap (λ k. soonest cause (least (crowd c.line k))) (sym is_now) ∙ sym is_found in
    let P : Option Cause → Type 0 = λ x. IsNoted before file clauses x now (drop (i + 1) clauses) in
    let Q : List (List ℕ) → Type 0 = λ k. IsNoted before file clauses (soonest cause (least (crowd c.line (noted known file c)))) k (drop (i + 1) clauses) in
    subst P e (subst Q (sym is_now) next)

-- all clauses are noted
pub record AreNoted (before : List (List ℕ)) (file : List ℕ) (clauses : List ReadClause) (cause : Option Cause) (known : List (List ℕ)) : Type 0 where
  pub causes : cause ≡ least (too_many before file clauses)
  pub grows : cause ≡ None → known ≡ known_after before file clauses
  pub room : cause ≡ None → length known ≤ 64

few : (cause : Option Cause) (known : List (List ℕ)) → (64 < length known → is_some cause ≡ true) → cause ≡ None → length known ≤ 64
few cause known h e =
    elim (cases_lt 64 (length known)) [
      | inl lt ↦
          let some : is_some cause ≡ true = h lt in
          let none : is_some cause ≡ false = ap (λ x. is_some x) e in
          cc
      | inr ge ↦ ge
    ]

pub all_noted : (before known : List (List ℕ)) (file : List ℕ) (clauses rest : List ReadClause) (cause : Option Cause) → rest ≡ [] → IsNoted before file clauses cause known rest → AreNoted before file clauses cause known
all_noted before known file clauses rest cause e n =
    let end : IsNoted before file clauses cause known [] = subst (IsNoted before file clauses cause known) e n in
    record {
      causes = sym (soonest_none cause) ∙ end.causes;
      grows = λ h. end.grows (few cause known end.crowded h);
      room = λ h. few cause known end.crowded h;
    }

-- ---- by the file's own name too

pub causes_behind : (is_first : Bool) (known : List (List ℕ)) (p : Part) (named many found : Option Cause) → is_first ≡ false → named ≡ least (misnamed p) → many ≡ least (too_many known p.file p.clauses)
    → found ≡ soonest named many → found ≡ least (step_causes is_first known p)
causes_behind is_first known p named many found f n m e =
    e ∙ (λ i. soonest (n i) (m i)) ∙ sym (least-append (misnamed p) (too_many known p.file p.clauses))
    ∙ ap (λ b. least (cond b [] (misnamed p) ++ too_many known p.file p.clauses)) (sym f)
