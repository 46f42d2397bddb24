-- Bodies that are walked along their cells.
use Rattle.std.proofs.Common.{◌≡◌, ℕ, zero, suc, ◌+◌, ◌<◌, ◌≤◌, Bool, true, false, List, [], ◌∷◌, ◌++◌, length, refl, sym, ◌∙◌, ap, subst, arith, append-nil, append_assoc, length-append}
use Rattle.std.specs.Prelude.{Option, Some, None, ◌&&◌, nat_eq, if◌then◌else◌}
use Rattle.std.proofs.lemmas.Bool.{and_parts, false≢true}
use Rattle.std.proofs.lemmas.Bool.Decides.{Decides-eqb}
use Rattle.cp_term.specs.declared.cell.Cell.{Cell}
use Rattle.cp_term.specs.declared.cell.Cell.TheVariants.{Var, Int, Atom, Func}
use Rattle.cp_term.specs.Preorder.{is_terms, take_terms, drop_terms, split_terms, arguments, terms_after, has_arity}
use Rattle.cp_term.proofs.lemmas.PreorderLaws.{take_terms-append, drop_terms-append, take_terms-drop_terms, is_terms-take_terms, is_terms-drop_terms, is_terms-append}
use Rattle.cp_code.specs.Bodies.{is, seen_from}
use Rattle.cp_code.specs.Properties.{Place}
use Rattle.cp_props.specs.Pending.{behind_first}
use Rattle.cp_props.specs.Demands.{Demand, joined, both, all_demands, goal_demands, body_demands}
use Rattle.cp_props.specs.Scans.{is_comma, is_conjunction, whole_body, scanned}

-- ---- joining

pub joined-none : (ds : List Demand) → joined ds (Some []) ≡ Some ds
joined-none ds = ap (λ xs. Some xs) (append-nil ds)

both-none : (o : Option (List Demand)) → both o (Some []) ≡ o
both-none None = refl
both-none (Some ds) = joined-none ds

joined-joined : (ds es : List Demand) (o : Option (List Demand)) → joined ds (joined es o) ≡ joined (ds ++ es) o
joined-joined ds es None = refl
joined-joined ds es (Some fs) = ap (λ xs. Some xs) (sym (append_assoc ds es fs))

both-assoc : (a b c : Option (List Demand)) → both (both a b) c ≡ both a (both b c)
both-assoc None b c = refl
both-assoc (Some ds) None c = refl
both-assoc (Some ds) (Some es) c = sym (joined-joined ds es c)

-- the first can be met, or not
pub joined-both : (ds es : List Demand) (a b : Option (List Demand)) → joined ds a ≡ Some es → joined ds (both a b) ≡ joined es b
joined-both ds es None b e = absurd (none-is-some es e)
  where
    none-is-some : (es : List Demand) → ◌≡◌ {A = Option (List Demand)} None (Some es) → ⊥
    none-is-some es e = cc
joined-both ds es (Some fs) b e = joined-joined ds fs b ∙ ap (λ o. both o b) e

pub joined-never : (ds : List Demand) (a b : Option (List Demand)) → joined ds a ≡ None → joined ds (both a b) ≡ None
joined-never ds None b e = refl
joined-never ds (Some fs) b e = absurd (some-is-none (ds ++ fs) e)
  where
    some-is-none : (es : List Demand) → ◌≡◌ {A = Option (List Demand)} (Some es) None → ⊥
    some-is-none es e = cc

-- ---- the depth of bodies

taken-shorter : (n : ℕ) (cells : List Cell) → length (take_terms n cells) ≤ length cells
taken-shorter n cells =
    let all : length (take_terms n cells) + length (drop_terms n cells) ≡ length cells =
    sym (length-append (take_terms n cells) (drop_terms n cells)) ∙ ap length (take_terms-drop_terms n cells) in
    omega arith

pub dropped-shorter : (n : ℕ) (cells : List Cell) → length (drop_terms n cells) ≤ length cells
dropped-shorter n cells =
    let all : length (take_terms n cells) + length (drop_terms n cells) ≡ length cells =
    sym (length-append (take_terms n cells) (drop_terms n cells)) ∙ ap length (take_terms-drop_terms n cells) in
    omega arith

module _ (places : List Place) where
  -- a greater depth changes nothing
  enough : (n m : ℕ) (t : List Cell) → length t < n → length t < m → body_demands n places t ≡ body_demands m places t
  enough zero m t p q = absurd (omega arith)
  enough (suc n) zero t p q = absurd (omega arith)
  enough (suc n) (suc m) [] p q = refl
  enough (suc n) (suc m) (Var v ∷ cells) p q = refl
  enough (suc n) (suc m) (Int i ∷ cells) p q = refl
  enough (suc n) (suc m) (Atom a ∷ cells) p q = refl
  enough (suc n) (suc m) (Func f zero ∷ cells) p q = refl
  enough (suc n) (suc m) (Func f (suc zero) ∷ cells) p q = refl
  enough (suc n) (suc m) (Func f (suc (suc (suc k))) ∷ cells) p q = refl
  enough (suc n) (suc m) (Func f (suc (suc zero)) ∷ cells) p q =
      let a = take_terms 1 cells in
      let b = take_terms 1 (drop_terms 1 cells) in
      let short_a = taken-shorter 1 cells in
      let short_rest = dropped-shorter 1 cells in
      let short_b = taken-shorter 1 (drop_terms 1 cells) in
      let here : suc (length cells) < suc n = p in
      let there : suc (length cells) < suc m = q in
      let a_n : length a < n = omega arith in
      let a_m : length a < m = omega arith in
      let b_n : length b < n = omega arith in
      let b_m : length b < m = omega arith in
      λ i. if is f "," then both (enough n m a a_n a_m i) (both (enough n m b b_n b_m i) (Some []))
      else goal_demands places ((seen_from [] (Func f 2 ∷ cells)).goal)

  whole : (cells : List Cell) → is_terms 1 cells ≡ true → take_terms 1 cells ≡ cells
  whole cells h = subst (λ cs. take_terms 1 cs ≡ cells) (append-nil cells) (take_terms-append 1 cells [] h)

  -- one body
  pub one_scanned : (body : List Cell) → is_terms 1 body ≡ true → whole_body places body ≡ scanned places 1 body
  unfolding scanned
  one_scanned body h = sym (both-none (whole_body places (take_terms 1 body)) ∙ ap (whole_body places) (whole body h))

  -- and no more
  pub none_scanned : (n : ℕ) → is_terms n [] ≡ true → scanned places n [] ≡ Some []
  unfolding scanned
  none_scanned zero h = refl
  none_scanned (suc n) h = absurd (false≢true h)

  -- ---- a conjunction

  pair : (f : List ℕ) (a b : List Cell) → is f "," ≡ true → is_terms 1 a ≡ true → is_terms 1 b ≡ true → whole_body places (Func f 2 ∷ a ++ b) ≡ both (whole_body places a) (whole_body places b)
  pair f a b named ha hb =
      let n = suc (length (a ++ b)) in
      let all = length-append a b in
      let short_a : length a < n = omega arith in
      let short_b : length b < n = omega arith in
      ap (λ t. if t then both (body_demands n places (take_terms 1 (a ++ b))) (both (body_demands n places (take_terms 1 (drop_terms 1 (a ++ b)))) (Some [])) else goal_demands places ((seen_from [] (Func f 2 ∷ a ++ b)).goal)) named
      ∙ ap (λ t. both (body_demands n places t) (both (body_demands n places (take_terms 1 (drop_terms 1 (a ++ b)))) (Some []))) (take_terms-append 1 a b ha)
      ∙ ap (λ t. both (body_demands n places a) (both (body_demands n places (take_terms 1 t)) (Some []))) (drop_terms-append 1 a b ha)
      ∙ ap (λ t. both (body_demands n places a) (both (body_demands n places t) (Some []))) (whole b hb)
      ∙ ap (both (body_demands n places a)) (both-none (body_demands n places b))
      ∙ (λ i. both (enough n (suc (length a)) a short_a (omega arith) i) (enough n (suc (length b)) b short_b (omega arith) i))

  pair_scanned : (f : List ℕ) (n : ℕ) (a b c : List Cell) → is f "," ≡ true → is_terms 1 a ≡ true → is_terms 1 b ≡ true
      → scanned places (suc n) (Func f 2 ∷ a ++ (b ++ c)) ≡ scanned places (suc (suc n)) (a ++ (b ++ c))
  unfolding scanned
  pair_scanned f n a b c named ha hb =
      let w = whole_body places in
      let all = all_demands (whole_body places) in
      let two : is_terms 2 (a ++ b) ≡ true = is_terms-append 1 1 a b ha ∙ hb in
      let taken : take_terms 2 (a ++ (b ++ c)) ≡ a ++ b = ap (take_terms 2) (sym (append_assoc a b c)) ∙ take_terms-append 2 (a ++ b) c two in
      let behind : drop_terms 2 (a ++ (b ++ c)) ≡ c = ap (drop_terms 2) (sym (append_assoc a b c)) ∙ drop_terms-append 2 (a ++ b) c two in
      (λ i. both (w (Func f 2 ∷ taken i)) (all (split_terms n (behind i))))
      ∙ ap (λ o. both o (all (split_terms n c))) (pair f a b named ha hb)
      ∙ both-assoc (w a) (w b) (all (split_terms n c))
      ∙ sym
      ((λ i. both (w (take_terms-append 1 a (b ++ c) ha i)) (all (split_terms (suc n) (drop_terms-append 1 a (b ++ c) ha i))))
      ∙ (λ i. both (w a) (both (w (take_terms-append 1 b c hb i)) (all (split_terms n (drop_terms-append 1 b c hb i))))))

  comma_scanned : (f : List ℕ) (n : ℕ) (cells : List Cell) → is f "," ≡ true → is_terms (suc n) (Func f 2 ∷ cells) ≡ true
      → (is_terms (suc (suc n)) cells ≡ true) × (scanned places (suc n) (Func f 2 ∷ cells) ≡ scanned places (suc (suc n)) cells)
  comma_scanned f n cells named h =
      let count : 2 + n ≡ suc (suc n) = omega arith in
      let both_of : 2 + n ≡ 1 + suc n = omega arith in
      let one_of : suc n ≡ 1 + n = omega arith in
      let inner = (and_parts (has_arity (Func f 2)) (is_terms (terms_after (Func f 2) n) cells) h).1 in
      let rest = drop_terms 1 cells in
      let is_all : is_terms (1 + suc n) cells ≡ true = subst (λ k. is_terms k cells ≡ true) both_of inner in
      let ha = is_terms-take_terms 1 (suc n) cells is_all in
      let is_rest : is_terms (1 + n) rest ≡ true = subst (λ k. is_terms k rest ≡ true) one_of (is_terms-drop_terms 1 (suc n) cells is_all) in
      let hb = is_terms-take_terms 1 n rest is_rest in
      let same : take_terms 1 cells ++ (take_terms 1 rest ++ drop_terms 1 rest) ≡ cells =
      ap (λ cs. take_terms 1 cells ++ cs) (take_terms-drop_terms 1 rest) ∙ take_terms-drop_terms 1 cells in (
        subst (λ k. is_terms k cells ≡ true) count inner,
        subst (λ cs. scanned places (suc n) (Func f 2 ∷ cs) ≡ scanned places (suc (suc n)) cs) same (pair_scanned f n (take_terms 1 cells) (take_terms 1 rest) (drop_terms 1 rest) named ha hb),
      )

  -- ---- any other goal

  other_body : (n : ℕ) (c : Cell) (cells : List Cell) → is_comma c ≡ false → body_demands (suc n) places (c ∷ cells) ≡ goal_demands places ((seen_from [] (c ∷ cells)).goal)
  other_body n (Var v) cells e = refl
  other_body n (Int i) cells e = refl
  other_body n (Atom a) cells e = refl
  other_body n (Func f zero) cells e = refl
  other_body n (Func f (suc zero)) cells e = refl
  other_body n (Func f (suc (suc (suc k)))) cells e = refl
  other_body n (Func f (suc (suc zero))) cells e =
      ap (λ t. if t then all_demands (body_demands n places) (arguments (Func f 2 ∷ cells)) else goal_demands places ((seen_from [] (Func f 2 ∷ cells)).goal)) (no_comma (is f ",") e)
    where
      no_comma : (t : Bool) → (t && true) ≡ false → t ≡ false
      no_comma true e = e
      no_comma false e = refl

  goal_scanned : (n : ℕ) (c : Cell) (cells : List Cell) → is_comma c ≡ false
      → scanned places (suc n) (c ∷ cells) ≡ both (goal_demands places ((seen_from [] (take_terms 1 (c ∷ cells))).goal)) (scanned places n (drop_terms 1 (c ∷ cells)))
  unfolding scanned
  goal_scanned n c cells e =
      ap (λ o. both o (all_demands (whole_body places) (split_terms n (drop_terms 1 (c ∷ cells)))))
      (other_body (suc (length (take_terms (terms_after c 0) cells))) c (take_terms (terms_after c 0) cells) e)

  -- ---- one step of a walk

  pub record CommaStep (n : ℕ) (cells : List Cell) : Type 0 where
    pub count : ℕ
    pub terms : is_terms count (behind_first cells) ≡ true
    pub scanned_on : scanned places n cells ≡ scanned places count (behind_first cells)
    pub fewer : length (behind_first cells) < length cells

  comma_at : (f : List ℕ) (k n : ℕ) (cells : List Cell) → is f "," ≡ true → k ≡ 2 → is_terms (suc n) (Func f k ∷ cells) ≡ true → CommaStep (suc n) (Func f k ∷ cells)
  comma_at f k n cells named two h =
      let step = comma_scanned f n cells named (subst (λ j. is_terms (suc n) (Func f j ∷ cells) ≡ true) two h) in
      record {
        count = suc (suc n);
        terms = step.0;
        scanned_on = ap (λ j. scanned places (suc n) (Func f j ∷ cells)) two ∙ step.1;
        fewer = omega arith;
      }

  pub comma_step : (n : ℕ) (cells : List Cell) → is_conjunction cells ≡ true → is_terms n cells ≡ true → CommaStep n cells
  comma_step n [] c h = absurd (false≢true c)
  comma_step zero (x ∷ cells) c h = absurd (false≢true h)
  comma_step (suc n) (Var v ∷ cells) c h = absurd (false≢true c)
  comma_step (suc n) (Int i ∷ cells) c h = absurd (false≢true c)
  comma_step (suc n) (Atom a ∷ cells) c h = absurd (false≢true c)
  comma_step (suc n) (Func f k ∷ cells) c h =
      let parts = and_parts (is f ",") (nat_eq k 2) c in
      comma_at f k n cells parts.0 ((Decides-eqb k 2).0 parts.1) h

  pub record GoalStep (n : ℕ) (cells : List Cell) : Type 0 where
    pub count : ℕ
    pub first : is_terms 1 (take_terms 1 cells) ≡ true
    pub terms : is_terms count (drop_terms 1 cells) ≡ true
    pub scanned_on : scanned places n cells ≡ both (goal_demands places ((seen_from [] (take_terms 1 cells)).goal)) (scanned places count (drop_terms 1 cells))
    pub fewer : length (drop_terms 1 cells) < length cells

  pub goal_step : (n : ℕ) (cells : List Cell) → is_conjunction cells ≡ false → 0 < length cells → is_terms n cells ≡ true → GoalStep n cells
  goal_step n [] c some h = absurd (omega arith)
  goal_step zero (x ∷ cells) c some h = absurd (false≢true h)
  goal_step (suc n) (x ∷ cells) c some h =
      let one : suc n ≡ 1 + n = omega arith in
      let all : is_terms (1 + n) (x ∷ cells) ≡ true = subst (λ k. is_terms k (x ∷ cells) ≡ true) one h in
      let shorter = dropped-shorter (terms_after x 0) cells in
      record {
        count = n;
        first = is_terms-take_terms 1 n (x ∷ cells) all;
        terms = is_terms-drop_terms 1 n (x ∷ cells) all;
        scanned_on = goal_scanned n x cells c;
        fewer = omega arith;
      }
