-- How far the clauses of a file are judged.
use Rattle.std.proofs.Common.{◌≡◌, ℕ, refl, sym, ap, ◌∙◌, Bool, Some, None, Option, List, [], ◌∷◌, ◌++◌, zero, suc, ◌+◌, ◌-◌, ◌<◌, ◌≤◌, length, get_or, take, drop, append_assoc, append-nil, subst, arith}
use Rattle.std.proofs.lemmas.List.{drop_more}
use Rattle.cp_declaration.specs.declared.indicator.Indicator.{Indicator}
use Rattle.cp_read.specs.declared.clause.ReadClause.{ReadClause}
use Rattle.cp_module.specs.declared.why.Why.{Why}
use Rattle.cp_module.specs.Texts.{Cause, Text}
use Rattle.cp_module.specs.Causes.{clause_cause, cause_on, clause_causes, end_causes, first_cause, least, refused}
use Rattle.cp_module.specs.Least.{soonest}
use Rattle.cp_module.specs.Above.{Row, known_in, Knows, known_behind}
use Rattle.cp_module.specs.Judging.{IsClauseCause, IsCauseOf, KnowsMore, IsEndCause, IsJudged}
use Rattle.cp_module.proofs.AboveLaws.{knows_none, knows_more}
use Rattle.cp_module.proofs.TermLaws.{behind_first_item}
use Rattle.cp_module.proofs.LeastLaws.{soonest-assoc, least-append}

-- behind the clause a and these, the clauses up to the rest are judged
pub record Reached (base : List ℕ) (a : ReadClause) (done clauses : List ReadClause) (rows : List Row) (cause : Option Cause) (rest : List ReadClause) : Type 0 where
  pub judged : List ReadClause
  pub knows : Knows rows (a ∷ judged)
  pub counts : soonest cause (least (clause_causes base (a ∷ judged) rest)) ≡ least (clause_causes base (a ∷ done) clauses)
  pub all : judged ++ rest ≡ done ++ clauses

pub reached_none : (base : List ℕ) (a : ReadClause) (done clauses : List ReadClause) (rows : List Row) → Knows rows (a ∷ done) → Reached base a done clauses rows None clauses
reached_none base a done clauses rows knows = record { judged = done; knows = knows; counts = refl; all = refl }

pub reached_more : (base : List ℕ) (a : ReadClause) (done clauses : List ReadClause) (rows more : List Row) (cause : Option Cause) (c : ReadClause) (rest : List ReadClause) (w : Option Why)
    → IsClauseCause rows c w → ((p : Indicator) → known_in more p ≡ known_behind c p (known_in rows p))
    → Reached base a done clauses rows cause (c ∷ rest) → Reached base a done clauses more (soonest cause (least (cause_on c.line w))) rest
reached_more base a done clauses rows more cause c rest w is h r =
    let on : List Cause = cause_on c.line w in
    let others : List Cause = clause_causes base (a ∷ (r.judged ++ c ∷ [])) rest in
    record {
      judged = r.judged ++ c ∷ [];
      knows = knows_more rows more (a ∷ r.judged) c h r.knows;
      counts =
          sym (soonest-assoc cause (least on) (least others))
          ∙ ap (soonest cause) (sym (least-append on others))
          ∙ ap (λ x. soonest cause (least (cause_on c.line x ++ others))) (is base a r.judged r.knows)
          ∙ r.counts;
      all = append_assoc r.judged (c ∷ []) rest ∙ r.all;
    }

pub reached_next : (base : List ℕ) (a : ReadClause) (done clauses : List ReadClause) (rows more : List Row) (cause now : Option Cause) (i : ℕ) (c : ReadClause)
    → i < length clauses → c ≡ get_or clauses i c → IsJudged rows more c cause now
    → Reached base a done clauses rows cause (drop i clauses) → Reached base a done clauses more now (drop (i + 1) clauses)
reached_next base a done clauses rows more cause now i c lt at j r =
    let split : drop i clauses ≡ c ∷ drop (i + 1) clauses = drop_more clauses i c lt ∙ ap (λ x. x ∷ drop (i + 1) clauses) (sym at) in
    let P : List ReadClause → Type 0 = λ cs. Reached base a done clauses rows cause cs in
    let Q : Option Cause → Type 0 = λ x. Reached base a done clauses more x (drop (i + 1) clauses) in
    subst Q (sym j.counts) (reached_more base a done clauses rows more cause c (drop (i + 1) clauses) j.why j.is_cause j.is_known (subst P split r))

pub drop_past : {A : Type 0} (xs : List A) (i : ℕ) → length xs ≤ i → drop i xs ≡ []
drop_past [] zero h = refl
drop_past [] (suc i) h = refl
drop_past (x ∷ xs) zero h = absurd (omega arith)
drop_past (x ∷ xs) (suc i) h = drop_past xs i (omega arith)

soonest-none : (a : Option Cause) → soonest a None ≡ a
soonest-none None = refl
soonest-none (Some c) = refl

pub reached_cause : (base : List ℕ) (a : ReadClause) (done clauses : List ReadClause) (rows : List Row) (cause : Option Cause) (rest : List ReadClause) → rest ≡ []
    → Reached base a done clauses rows cause rest → cause ≡ least (clause_causes base (a ∷ done) clauses)
reached_cause base a done clauses rows cause rest e r =
    sym (soonest-none cause) ∙ ap (λ cs. soonest cause (least (clause_causes base (a ∷ r.judged) cs))) (sym e) ∙ r.counts

pub reached_knows : (base : List ℕ) (a : ReadClause) (done clauses : List ReadClause) (rows : List Row) (cause : Option Cause) (rest : List ReadClause) → rest ≡ []
    → Reached base a done clauses rows cause rest → Knows rows (a ∷ (done ++ clauses))
reached_knows base a done clauses rows cause rest e r =
    let all : r.judged ≡ done ++ clauses = sym (append-nil r.judged) ∙ ap (λ cs. r.judged ++ cs) (sym e) ∙ r.all in
    let P : List ReadClause → Type 0 = λ cs. Knows rows (a ∷ cs) in
    subst P all r.knows

-- ---- the whole file

pub knows_first : (rows : List Row) (c : ReadClause) → ((p : Indicator) → known_in rows p ≡ known_behind c p (known_in [] p)) → Knows rows (c ∷ [])
knows_first rows c h = knows_more [] rows [] c h knows_none

pub of_file : (base : List ℕ) (first : ReadClause) (later : List ReadClause) (fault : Option Cause) (none rows more : List Row) (w : Option Why) (behind end : Option Cause)
    → none ≡ [] → w ≡ first_cause base first.term → ((p : Indicator) → known_in rows p ≡ known_behind first p (known_in none p))
    → IsCauseOf rows later behind → KnowsMore rows later more → IsEndCause more first fault end
    → soonest (soonest (least (cause_on first.line w)) behind) end ≡ least (clause_causes base [] (first ∷ later) ++ end_causes (first ∷ later) fault)
of_file base first later fault none rows more w behind end empty hw h causes knows ends =
    let k : Knows rows (first ∷ []) = knows_first rows first (λ p. h p ∙ ap (λ r. known_behind first p (known_in r p)) empty) in
    let on : List Cause = cause_on first.line (first_cause base first.term) in
    let others : List Cause = clause_causes base (first ∷ []) later in
    ap (λ x. soonest (soonest (least (cause_on first.line x)) behind) end) hw
    ∙ ap (λ x. soonest (soonest (least on) x) end) (causes base first [] k)
    ∙ ap (λ x. soonest x end) (sym (least-append on others))
    ∙ ap (soonest (least (on ++ others))) (ends later (knows first [] k))
    ∙ sym (least-append (on ++ others) (end_causes (first ∷ later) fault))

pub of_none : (base : List ℕ) (text : Text) → text.clauses ≡ [] → least (end_causes [] text.fault) ≡ refused base text
unfolding refused
of_none base text e = ap (λ cs. least (clause_causes base [] cs ++ end_causes cs text.fault)) (sym e)

pub of_some : (base : List ℕ) (text : Text) (first : ReadClause) (xs : List ReadClause) → xs ≡ text.clauses → 0 < length xs → first ≡ get_or xs 0 first
    → least (clause_causes base [] (first ∷ take (length xs - 1) (drop 1 xs)) ++ end_causes (first ∷ take (length xs - 1) (drop 1 xs)) text.fault) ≡ refused base text
unfolding refused
of_some base text first xs is some at =
    let split : xs ≡ first ∷ drop 1 xs = drop_more xs 0 first some ∙ ap (λ x. x ∷ drop 1 xs) (sym at) in
    ap (λ cs. least (clause_causes base [] (first ∷ cs) ++ end_causes (first ∷ cs) text.fault)) (behind_first_item xs)
    ∙ ap (λ cs. least (clause_causes base [] cs ++ end_causes cs text.fault)) (sym split ∙ is)

-- ---- a file that is accepted can be read

some_counts : (a : Option Cause) (c : Cause) → soonest a (Some c) ≡ None → ⊥
some_counts None c h = cc
some_counts (Some d) c h = cc

pub no_fault : (base : List ℕ) (text : Text) → refused base text ≡ None → text.fault ≡ None
unfolding refused
no_fault base text h = go text.fault h
  where
    go : (f : Option Cause) → least (clause_causes base [] text.clauses ++ end_causes text.clauses f) ≡ None → f ≡ None
    go None e = refl
    go (Some c) e = absurd (some_counts (least (clause_causes base [] text.clauses)) c (sym (least-append (clause_causes base [] text.clauses) (c ∷ [])) ∙ e))

pub as_part : (base : List ℕ) (text : Text) → refused base text ≡ None → refused base (let t : Text = record { clauses = text.clauses; ops = text.ops; fault = None } in t) ≡ None
as_part base text h = ap (λ f. refused base (let t : Text = record { clauses = text.clauses; ops = text.ops; fault = f } in t)) (sym (no_fault base text h)) ∙ h
