-- The steps of the search for whether a term has a property.
use Rattle.std.proofs.Common.{◌≡◌, ℕ, zero, suc, ◌+◌, ◌-◌, ◌*◌, ◌<◌, ◌≤◌, Bool, true, false, List, [], ◌∷◌, ◌++◌, length, drop, inl, inr, refl, sym, ◌∙◌, ap, subst, arith, rules}
use Rattle.std.specs.Prelude.{Option, Some, None, ◌⊎◌, ◌||◌, if◌then◌else◌, slice_get, get_or}
use Rattle.std.specs.Result.{IfOk}
use Rattle.std.specs.Str.{bytes_eq}
use Rattle.std.specs.Prelude.{Result, Ok, Err}
use Rattle.std.proofs.lemmas.List.{map_push}
use Rattle.std.proofs.lemmas.Option.{slice_get-get_or, slice_get_cases}
use Rattle.cp_term.specs.declared.cell.Cell.{Cell}
use Rattle.cp_heap.specs.State.{State}
use Rattle.cp_code.specs.Properties.{TypeRow, without_types, clause_of, row_named, test_by, has_row, fits_clause, has_within, has}
use Rattle.cp_props.specs.declared.attempt.Attempt as code
use Rattle.cp_props.specs.Demands.{Demand, demands, are_met, met}
use Rattle.cp_props.specs.Search.{Attempt, some_clause, answer, ends, demands_cost, clause_cost, row_cost, test_cost, cost_within, attempt_cost, attempts_cost, GoesOn, Tests, row_clauses, attempt_shown, attempts_shown}
use Rattle.cp_props.proofs.Meeting.{fits_met}
use Rattle.cp_props.proofs.Stacks.{drop-got}

pub if_ok_both : {T E : Type 0} (r : Result T E) (P Q R : T → Type 0) → ((x : T) → P x → Q x → R x) → IfOk r P → IfOk r Q → IfOk r R
if_ok_both (Ok x) P Q R f p q = f x p q
if_ok_both (Err e) P Q R f p q = tt

module _ (types : List TypeRow) where
  -- ---- one attempt more

  ends-push : (old : List Attempt) (a : Attempt) (passed : Bool) → ends types (old ++ a ∷ []) passed ≡ ends types old (answer types a passed)
  ends-push [] a passed = refl
  ends-push (b ∷ old) a passed = ap (answer types b) (ends-push old a passed)

  cost-push : (old : List Attempt) (a : Attempt) → attempts_cost types (old ++ a ∷ []) ≡ attempts_cost types old + attempt_cost types a
  cost-push [] a = omega arith
  cost-push (b ∷ old) a = let ih = cost-push old a in omega arith

  module _ (h : State) (old new : List code.Attempt) (a : code.Attempt) (grown : new ≡ old ++ a ∷ []) where
    shown-push : attempts_shown types h new ≡ attempts_shown types h old ++ attempt_shown types h a ∷ []
    shown-push = ap (attempts_shown types h) grown ∙ map_push (attempt_shown types h) old a

    pub pushed-ends : (passed : Bool) → ends types (attempts_shown types h new) passed ≡ ends types (attempts_shown types h old) (answer types (attempt_shown types h a) passed)
    pushed-ends passed = ap (λ all. ends types all passed) shown-push ∙ ends-push (attempts_shown types h old) (attempt_shown types h a) passed

    pub pushed-cost : attempts_cost types (attempts_shown types h new) ≡ attempts_cost types (attempts_shown types h old) + attempt_cost types (attempt_shown types h a)
    pushed-cost = ap (attempts_cost types) shown-push ∙ cost-push (attempts_shown types h old) (attempt_shown types h a)

  -- ---- a type

  abbrev begun : ℕ → List Cell → List (List Cell) → Attempt
  begun n t clauses = record { depth = n; term = t; clauses = clauses; demands = [] }

  row-answer : (n : ℕ) (t : List Cell) (o : Option TypeRow) → answer types (begun n t (row_clauses o)) false ≡ has_row (has_within types n) t o
  unfolding answer
  row-answer n t None = refl
  row-answer n t (Some r) = refl

  row-cost : (n : ℕ) (t : List Cell) (o : Option TypeRow) (r : TypeRow) → o ≡ Some r → attempt_cost types (begun n t (row_clauses o)) ≤ row_cost (cost_within types n) t o
  unfolding attempt_cost
  row-cost n t o r e =
      subst (λ p. attempt_cost types (begun n t (row_clauses p)) ≤ row_cost (cost_within types n) t p) (sym e) (omega arith)

  pub type_answer : (n row : ℕ) (t : List Cell) → answer types (begun n t (row_clauses (slice_get types row))) false ≡ has_row (has_within types n) t (slice_get types row)
  type_answer n row t = row-answer n t (slice_get types row)

  pub type_cost : (n row : ℕ) (t : List Cell) → row < length types → attempt_cost types (begun n t (row_clauses (slice_get types row))) ≤ row_cost (cost_within types n) t (slice_get types row)
  type_cost n row t within =
      let none : TypeRow = record { name = []; clauses = [] } in
      row-cost n t (slice_get types row) (get_or types row none) (slice_get-get_or types row none within)

  -- ---- a test

  module _ (name : List ℕ) (t : List Cell) where
    pub tests_language : (n : ℕ) (old : List Attempt) (passed : Bool) → 0 < n → without_types name t ≡ Some passed → Tests types n name t old old passed
    tests_language zero old passed some e = absurd (omega arith)
    tests_language (suc n) old passed some e =
        let same : has_within types (suc n) name t ≡ passed = ap (λ o. test_by types (has_within types n) o name t) e in
        record { answer_is = ap (ends types old) (sym same); less = omega arith }

    tests_row : (n : ℕ) (old new : List Attempt) (passed : Bool) → without_types name t ≡ None
        → ends types new passed ≡ ends types old (has_row (has_within types n) t (row_named name types))
        → attempts_cost types new ≤ attempts_cost types old + row_cost (cost_within types n) t (row_named name types)
        → Tests types (suc n) name t old new passed
    tests_row n old new passed e is fewer =
        let same : has_within types (suc n) name t ≡ has_row (has_within types n) t (row_named name types) = ap (λ o. test_by types (has_within types n) o name t) e in
        let cost : cost_within types (suc n) name t ≡ row_cost (cost_within types n) t (row_named name types) = ap (λ o. test_cost (cost_within types n) t o (row_named name types)) e in
        record {
          answer_is = is ∙ ap (ends types old) (sym same);
          less = subst (λ k. attempts_cost types new ≤ attempts_cost types old + k) (sym cost) fewer;
        }

    pub tests_type : (n : ℕ) (old new : List Attempt) (passed : Bool) → 0 < n → without_types name t ≡ None
        → ends types new passed ≡ ends types old (has_row (has_within types (n - 1)) t (row_named name types))
        → attempts_cost types new ≤ attempts_cost types old + row_cost (cost_within types (n - 1)) t (row_named name types)
        → Tests types n name t old new passed
    tests_type n old new passed some e is fewer =
        let next : suc (n - 1) ≡ n = omega arith in
        subst (λ k. Tests types k name t old new passed) next (tests_row (n - 1) old new passed e is fewer)

  -- ---- a demand

  record Step (a b : Attempt) (before after : Bool) (more : ℕ) : Type 0 where
    pub answer_is : answer types b after ≡ answer types a before
    pub less : attempt_cost types b + more < attempt_cost types a

  demand_step : (n : ℕ) (t : List Cell) (clauses : List (List Cell)) (d : Demand) (ds : List Demand)
      → Step (record { depth = n; term = t; clauses = clauses; demands = d ∷ ds }) (record { depth = n; term = t; clauses = clauses; demands = ds }) true (has_within types n d.name d.term) (cost_within types n d.name d.term)
  unfolding answer attempt_cost
  demand_step n t clauses d ds = record { answer_is = refl; less = omega arith }

  passed_step : (n : ℕ) (t : List Cell) (clauses : List (List Cell)) → answer types (record { depth = n; term = t; clauses = clauses; demands = [] }) true ≡ true
  unfolding answer
  passed_step n t clauses = refl

  some_cost : (a : Attempt) → 0 < attempt_cost types a
  unfolding attempt_cost
  some_cost a = omega arith

  -- the attempt goes on with its next demand
  pub goes_to_demand : (old pushed new : List Attempt) (a : Attempt) (d : Demand) (ds : List Demand) (passed : Bool) → a.demands ≡ d ∷ ds
      → ((b : Bool) → ends types pushed b ≡ ends types old (answer types (record a { demands = ds }) b))
      → attempts_cost types pushed ≡ attempts_cost types old + attempt_cost types (record a { demands = ds })
      → Tests types a.depth d.name d.term pushed new passed
      → GoesOn types old a true new passed
  goes_to_demand old pushed new a d ds passed first ends_on cost_on tested =
      let step : Step (record { depth = a.depth; term = a.term; clauses = a.clauses; demands = d ∷ ds }) (record a { demands = ds }) true (has_within types a.depth d.name d.term) (cost_within types a.depth d.name d.term) = demand_step a.depth a.term a.clauses d ds in
      let cost_is : attempt_cost types (record { depth = a.depth; term = a.term; clauses = a.clauses; demands = d ∷ ds }) ≡ attempt_cost types a = ap (λ xs. attempt_cost types (record { depth = a.depth; term = a.term; clauses = a.clauses; demands = xs })) (sym first) in
      record {
        answer_is = tested.answer_is ∙ ends_on (has_within types a.depth d.name d.term)
            ∙ ap (ends types old) (step.answer_is ∙ ap (λ xs. answer types (record { depth = a.depth; term = a.term; clauses = a.clauses; demands = xs }) true) (sym first));
        less = omega (arith, step.less, tested.less, cost_on, cost_is);
      }

  -- or has passed
  pub goes_by_passing : (old : List Attempt) (a : Attempt) → a.demands ≡ [] → GoesOn types old a true old true
  goes_by_passing old a none =
      let passed : answer types a true ≡ true = ap (λ xs. answer types (record { depth = a.depth; term = a.term; clauses = a.clauses; demands = xs }) true) none ∙ passed_step a.depth a.term a.clauses in
      record { answer_is = ap (ends types old) (sym passed); less = omega (arith, some_cost a) }

  -- ---- a clause

  clause_step : (n : ℕ) (t : List Cell) (c : List Cell) (clauses : List (List Cell)) (ds es : List Demand) → demands (clause_of c) t ≡ Some es
      → Step (record { depth = n; term = t; clauses = c ∷ clauses; demands = ds }) (record { depth = n; term = t; clauses = clauses; demands = es }) false true 0
  unfolding answer attempt_cost
  clause_step n t c clauses ds es e =
      let test = has_within types n in
      let fits : fits_clause test t (clause_of c) ≡ are_met test es = fits_met test t (clause_of c) ∙ ap (met test) e in
      let cost : clause_cost (cost_within types n) (demands (clause_of c) t) ≡ suc (demands_cost (cost_within types n) es) = ap (clause_cost (cost_within types n)) e in
      record { answer_is = ap (λ b. b || some_clause types n t clauses) (sym fits); less = omega (arith, cost) }

  no_clause_step : (n : ℕ) (t : List Cell) (c : List Cell) (clauses : List (List Cell)) (ds : List Demand) → demands (clause_of c) t ≡ None
      → Step (record { depth = n; term = t; clauses = c ∷ clauses; demands = ds }) (record { depth = n; term = t; clauses = clauses; demands = [] }) false false 0
  unfolding answer attempt_cost
  no_clause_step n t c clauses ds e =
      let test = has_within types n in
      let fits : fits_clause test t (clause_of c) ≡ false = fits_met test t (clause_of c) ∙ ap (met test) e in
      let cost : clause_cost (cost_within types n) (demands (clause_of c) t) ≡ 1 = ap (clause_cost (cost_within types n)) e in
      record { answer_is = ap (λ b. b || some_clause types n t clauses) (sym fits); less = omega (arith, cost) }

  failed_step : (n : ℕ) (t : List Cell) (ds : List Demand) → answer types (record { depth = n; term = t; clauses = []; demands = ds }) false ≡ false
  unfolding answer
  failed_step n t ds = refl

  goes_by_step : (old new : List Attempt) (a b c : Attempt) (passed : Bool) → c ≡ a → Step c b false passed 0
      → ends types new passed ≡ ends types old (answer types b passed)
      → attempts_cost types new ≡ attempts_cost types old + attempt_cost types b
      → GoesOn types old a false new passed
  goes_by_step old new a b c passed same step ends_on cost_on =
      let cost_is : attempt_cost types c ≡ attempt_cost types a = ap (attempt_cost types) same in
      record {
        answer_is = ends_on ∙ ap (ends types old) (step.answer_is ∙ ap (λ x. answer types x false) same);
        less = omega (arith, step.less, cost_on, cost_is);
      }

  -- the attempt goes on with its next clause
  pub goes_to_clause : (old new : List Attempt) (a : Attempt) (c : List Cell) (clauses : List (List Cell)) (es : List Demand) → a.clauses ≡ c ∷ clauses → demands (clause_of c) a.term ≡ Some es
      → ends types new true ≡ ends types old (answer types (record { depth = a.depth; term = a.term; clauses = clauses; demands = es }) true)
      → attempts_cost types new ≡ attempts_cost types old + attempt_cost types (record { depth = a.depth; term = a.term; clauses = clauses; demands = es })
      → GoesOn types old a false new true
  goes_to_clause old new a c clauses es first e ends_on cost_on =
      goes_by_step old new a (record { depth = a.depth; term = a.term; clauses = clauses; demands = es }) (record { depth = a.depth; term = a.term; clauses = c ∷ clauses; demands = a.demands }) true
      (ap (λ (xs : List (List Cell)). record { depth = a.depth; term = a.term; clauses = xs; demands = a.demands }) (sym first))
      (clause_step a.depth a.term c clauses a.demands es e) ends_on cost_on

  pub goes_past_clause : (old new : List Attempt) (a : Attempt) (c : List Cell) (clauses : List (List Cell)) → a.clauses ≡ c ∷ clauses → demands (clause_of c) a.term ≡ None
      → ends types new false ≡ ends types old (answer types (record { depth = a.depth; term = a.term; clauses = clauses; demands = [] }) false)
      → attempts_cost types new ≡ attempts_cost types old + attempt_cost types (record { depth = a.depth; term = a.term; clauses = clauses; demands = [] })
      → GoesOn types old a false new false
  goes_past_clause old new a c clauses first e ends_on cost_on =
      goes_by_step old new a (record { depth = a.depth; term = a.term; clauses = clauses; demands = [] }) (record { depth = a.depth; term = a.term; clauses = c ∷ clauses; demands = a.demands }) false
      (ap (λ (xs : List (List Cell)). record { depth = a.depth; term = a.term; clauses = xs; demands = a.demands }) (sym first))
      (no_clause_step a.depth a.term c clauses a.demands e) ends_on cost_on

  -- or has failed
  pub goes_by_failing : (old : List Attempt) (a : Attempt) → a.clauses ≡ [] → GoesOn types old a false old false
  goes_by_failing old a none =
      let failed : answer types a false ≡ false = ap (λ (xs : List (List Cell)). answer types (record { depth = a.depth; term = a.term; clauses = xs; demands = a.demands }) false) none ∙ failed_step a.depth a.term a.demands in
      record { answer_is = ap (ends types old) (sym failed); less = omega (arith, some_cost a) }

-- ---- types by their names

pub row_next : (name : List ℕ) (rows : List TypeRow) (i : ℕ) (r : TypeRow) → slice_get rows i ≡ Some r
    → row_named name (drop i rows) ≡ (if bytes_eq r.name name then Some r else row_named name (drop (i + 1) rows))
row_next name rows i r e = ap (row_named name) (drop-got rows i r e)

pub none_past : {X : Type 0} (xs : List X) (i : ℕ) → slice_get xs i ≡ None → length xs ≤ i
none_past xs i e = none-at xs i (slice_get_cases xs i).1 e
  where
    none-is-some : {X : Type 0} (x : X) → ◌≡◌ {A = Option X} None (Some x) → ⊥
    none-is-some x q = cc

    none-at : {X : Type 0} (xs : List X) (i : ℕ) → ((x : X) × (i < length xs) × (slice_get xs i ≡ Some x) × (get_or xs i x ≡ x)) ⊎ ((length xs ≤ i) × (slice_get xs i ≡ None)) → slice_get xs i ≡ None → length xs ≤ i
    none-at xs i (inl (x, within, some, is)) e = absurd (none-is-some x (sym e ∙ some))
    none-at xs i (inr (past, none)) e = past

-- ---- the depth that is enough

pub has_language : (types : List TypeRow) (name : List ℕ) (t : List Cell) (passed : Bool) → without_types name t ≡ Some passed → has types name t ≡ passed
has_language types name t passed e = at_depth (suc (length types) * suc (length t)) (search rules)
  where
    at_depth : (n : ℕ) → 0 < n → has_within types n name t ≡ passed
    at_depth zero some = absurd (omega arith)
    at_depth (suc n) some = ap (λ o. test_by types (has_within types n) o name t) e
