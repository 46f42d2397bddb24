-- The walk along the cells of a term says whether it is a goal.
use Rattle.std.proofs.Common.{◌≡◌, ℕ, zero, suc, ◌+◌, ◌-◌, ◌<◌, ◌≤◌, get_or, true, false, Bool, Some, None, Option, List, [], ◌∷◌, ◌++◌, length, take, drop, slice_index_or, refl, sym, ◌∙◌, ap, subst, arith, length-drop}
use Rattle.std.specs.Prelude.{◌&&◌, ◌||◌, if◌then◌else◌, is_some}
use Rattle.std.specs.List.{list_all}
use Rattle.std.proofs.lemmas.Bool.{and_parts, false≢true}
use Rattle.std.proofs.lemmas.List.{take-append-drop, length-take-le, drop-drop, drop_more}
use Rattle.std.proofs.lemmas.List.Folds.{list_all-append}
use Rattle.cp_term.specs.declared.cell.Cell.{Cell}
use Rattle.cp_term.specs.declared.cell.Cell.TheVariants.{Var, Int, Atom, Func}
use Rattle.cp_term.specs.Preorder.{arity_of, has_arity, terms_after, is_terms}
use Rattle.cp_goal.specs.Folds.{of_terms}
use Rattle.cp_code.specs.Bodies.{Reads, Read, within_module, compound_body, cells_of, read_of, unread, body_of, is}
use Rattle.cp_module.specs.declared.to_come.Behind.{Behind}
use Rattle.cp_module.specs.declared.to_come.Behind.TheVariants.{NoGoal, Goals, Qualified, Terms}
use Rattle.cp_module.specs.declared.to_come.ToCome.{ToCome}
use Rattle.cp_module.specs.Goals.{joins, behind_functor, behind_first, to_come, after_first, after, after_cell}
use Rattle.cp_module.proofs.BodyLaws.{unary_some, binary_some, other_some, atom_some, IsSteady, AreSteady, all_steady, take_steady}

-- no cell is one that may not stand where it does
abbrev pub walk : ToCome → List Cell → Bool
walk s [] = true
walk s (c ∷ cells) = elim (after_cell s c) [ None ↦ false | Some t ↦ walk t cells ]

pub walk_on : (s t : ToCome) (c : Cell) (cells : List Cell) → after_cell s c ≡ Some t → walk s (c ∷ cells) ≡ walk t cells
walk_on s t c cells e = ap (λ (o : Option ToCome). elim o [ None ↦ false | Some t ↦ walk t cells ]) e

pub walk_ends : (s : ToCome) (c : Cell) (cells : List Cell) → after_cell s c ≡ None → walk s (c ∷ cells) ≡ false
walk_ends s c cells e = ap (λ (o : Option ToCome). elim o [ None ↦ false | Some t ↦ walk t cells ]) e

-- ---- terms, read

terms_after-is : (c : Cell) (n : ℕ) → terms_after c n ≡ arity_of c + n
terms_after-is (Var v) n = omega arith
terms_after-is (Int i) n = omega arith
terms_after-is (Atom a) n = omega arith
terms_after-is (Func f k) n = omega arith

reads : List Cell → List Read
reads cells = of_terms read_of cells

length-reads : (n : ℕ) (cells : List Cell) → is_terms n cells ≡ true → length (reads cells) ≡ n
unfolding reads
length-reads zero [] h = refl
length-reads zero (c ∷ cells) h = absurd (false≢true h)
length-reads (suc n) [] h = absurd (false≢true h)
length-reads (suc n) (c ∷ cells) h =
    let parts = and_parts (has_arity c) (is_terms (terms_after c n) cells) h in
    let all : length (of_terms read_of cells) ≡ arity_of c + n = length-reads (terms_after c n) cells parts.1 ∙ terms_after-is c n in
    let rest : length (drop (arity_of c) (of_terms read_of cells)) ≡ length (of_terms read_of cells) - arity_of c = length-drop (arity_of c) (of_terms read_of cells) in
    omega arith

abbrev plus : ℕ → ℕ → ℕ
plus zero g = g
plus (suc t) g = suc (plus t g)

plus-is : (t g : ℕ) → plus t g ≡ t + g
plus-is zero g = omega arith
plus-is (suc t) g = let e : plus t g ≡ t + g = plus-is t g in omega arith

drop_past : {A : Type 0} (xs : List A) (i : ℕ) → length xs ≤ i → drop i xs ≡ []
drop_past [] zero h = refl
drop_past [] (suc i) h = refl
drop_past (x ∷ xs) zero h = absurd (omega arith)
drop_past (x ∷ xs) (suc i) h = drop_past xs i (omega arith)

module _ (m : List ℕ) where
  goes : Read → Bool
  goes r = is_some (r.body m)

  all_go : List Read → Bool
  all_go rs = list_all (λ (r : Read). is_some (r.body m)) rs

  is_name : List Cell → Bool
  is_name (Atom a ∷ []) = true
  is_name cells = false

  -- the name of a module, and then goals
  qualified : List Read → Bool
  qualified [] = true
  qualified (a ∷ rs) = is_name a.cells && all_go rs

  Says : Behind → List Read → Bool → Type 0
  Says NoGoal parts b = b ≡ false
  Says (Goals n) parts b = (n ≡ length parts) × (b ≡ all_go parts)
  Says Qualified parts b = (2 ≡ length parts) × (b ≡ qualified parts)
  Says (Terms k) parts b = (k ≡ length parts) × (b ≡ true)

  and-true : (a : Bool) → (a && true) ≡ a
  and-true true = refl
  and-true false = refl

  within : (cells : List Cell) (b : Read) → IsSteady b → is_some (within_module cells b.body) ≡ (is_name cells && is_some (b.body m))
  unfolding is_name
  within [] b s = refl
  within (Var v ∷ cells) b s = refl
  within (Int i ∷ cells) b s = refl
  within (Func f k ∷ cells) b s = refl
  within (Atom a ∷ []) b s = s.same a m
  within (Atom a ∷ c ∷ cells) b s = refl

  one : (b : Bool) (a : Read) → Says (if b then Goals 1 else Terms 1) (a ∷ []) (if b then is_some (a.body m) else true)
  unfolding Says all_go
  one true a = (refl, sym (and-true (is_some (a.body m))))
  one false a = (refl, refl)

  two : (j q : Bool) (a b : Read) (w : Bool) → w ≡ (is_name a.cells && is_some (b.body m))
      → Says (if j then Goals 2 else if q then Qualified else Terms 2) (a ∷ b ∷ []) (if j then is_some (a.body m) && is_some (b.body m) else if q then w else true)
  unfolding Says all_go qualified
  two true q a b w h = (refl, ap (λ x. is_some (a.body m) && x) (sym (and-true (is_some (b.body m)))))
  two false true a b w h = (refl, h ∙ ap (λ x. is_name a.cells && x) (sym (and-true (is_some (b.body m)))))
  two false false a b w h = (refl, refl)

  says_compound : (f : List ℕ) (k : ℕ) (cells : List Cell) (parts : List Read) → AreSteady parts → length parts ≡ k → Says (behind_functor f k) parts (is_some (compound_body f k cells parts m))
  unfolding Says
  says_compound f zero cells [] s e = (refl, refl)
  says_compound f (suc k) cells [] s e = cc
  says_compound f k cells (a ∷ []) s e =
      let P : ℕ → Type 0 = λ n. Says (behind_functor f n) (a ∷ []) (is_some (compound_body f n cells (a ∷ []) m)) in
      subst P e (subst (Says (if is f "\\+" then Goals 1 else Terms 1) (a ∷ [])) (sym (unary_some f cells a m)) (one (is f "\\+") a))
  says_compound f k cells (a ∷ b ∷ []) s e =
      let P : ℕ → Type 0 = λ n. Says (behind_functor f n) (a ∷ b ∷ []) (is_some (compound_body f n cells (a ∷ b ∷ []) m)) in
      let w = is_some (within_module a.cells b.body) in
      subst P e
      (subst (Says (if joins f then Goals 2 else if is f ":" then Qualified else Terms 2) (a ∷ b ∷ [])) (sym (binary_some f cells a b m (s.0.arrow_fits m)))
      (two (joins f) (is f ":") a b w (within a.cells b s.1.0)))
  says_compound f k cells (a ∷ b ∷ c ∷ more) s e =
      let P : ℕ → Type 0 = λ n. Says (behind_functor f n) (a ∷ b ∷ c ∷ more) (is_some (compound_body f n cells (a ∷ b ∷ c ∷ more) m)) in
      let no1 : length (a ∷ b ∷ c ∷ more) ≡ 1 → ⊥ = λ e. omega arith in
      let no2 : length (a ∷ b ∷ c ∷ more) ≡ 2 → ⊥ = λ e. omega arith in
      subst P e (refl, other_some f (suc (suc (suc (length more)))) cells (a ∷ b ∷ c ∷ more) m no1 no2)

  says : (c : Cell) (parts : List Read) → AreSteady parts → length parts ≡ arity_of c → Says (behind_first c) parts (is_some ((read_of c parts).body m))
  unfolding Says all_go
  says (Var v) [] s e = (refl, refl)
  says (Var v) (a ∷ parts) s e = cc
  says (Int i) parts s e = refl
  says (Atom a) [] s e = (refl, atom_some a m)
  says (Atom a) (b ∷ parts) s e = cc
  says (Func f k) parts s e = says_compound f k (cells_of (Func f k) parts) parts s e

  -- ---- the walk

  -- of a walk with so much to come, where these are read
  all_of : Bool → ℕ → List Read → Bool
  all_of true t [] = true
  all_of true t (a ∷ rs) = is_name a.cells && all_go (drop t rs)
  all_of false t rs = all_go (drop t rs)

  count : Bool → ℕ → ℕ → ℕ
  count true t g = suc (plus t g)
  count false t g = plus t g

  Walked : List Cell → Type 0
  Walked cells = (named : Bool) (t g : ℕ) → is_terms (count named t g) cells ≡ true → walk (to_come named t g) cells ≡ all_of named t (reads cells)

  qualified_split : (k : ℕ) (rs : List Read) → 2 ≡ k → k ≤ length rs → qualified rs ≡ (qualified (take k rs) && all_go (drop k rs))
  unfolding qualified all_go
  qualified_split k [] e h = absurd (omega arith)
  qualified_split k (a ∷ []) e h = absurd (omega arith)
  qualified_split k (a ∷ b ∷ rs) e h =
      subst (λ (n : ℕ). qualified (a ∷ b ∷ rs) ≡ (qualified (take n (a ∷ b ∷ rs)) && all_go (drop n (a ∷ b ∷ rs)))) e
      (and4 (is_name a.cells) (is_some (b.body m)) (all_go rs))
    where
      and4 : (x y z : Bool) → (x && (y && z)) ≡ ((x && (y && true)) && z)
      and4 true true z = refl
      and4 true false z = refl
      and4 false y z = refl

  go_split : (k : ℕ) (rs : List Read) → all_go rs ≡ (all_go (take k rs) && all_go (drop k rs))
  unfolding all_go
  go_split k rs = ap all_go (sym (take-append-drop k rs)) ∙ list_all-append (λ (r : Read). is_some (r.body m)) (take k rs) (drop k rs)

  begun : (x : Behind) (cells : List Cell) (k g : ℕ) (b : Bool) → Walked cells → length (take k (reads cells)) ≡ k → k ≤ length (reads cells) → is_terms (k + g) cells ≡ true → Says x (take k (reads cells)) b
      → (elim (after_first g x) [ None ↦ false | Some t ↦ walk t cells ]) ≡ (b && all_go (drop k (reads cells)))
  unfolding Walked Says all_of count qualified
  begun NoGoal cells k g b ih len there h s = ap (λ x. x && all_go (drop k (reads cells))) (sym s)
  begun (Goals n) cells k g b ih len there h s =
      let nk : n ≡ k = s.0 ∙ len in
      ih false 0 (n + g) (ap (λ i. is_terms (i + g) cells) nk ∙ h)
      ∙ go_split k (reads cells) ∙ ap (λ x. x && all_go (drop k (reads cells))) (sym s.1)
  begun Qualified cells k g b ih len there h s =
      let e : 2 ≡ k = s.0 ∙ len in
      let two : suc (suc g) ≡ k + g = omega arith in
      ih true 0 (suc g) (ap (λ i. is_terms i cells) two ∙ h)
      ∙ by_reads (reads cells)
      ∙ qualified_split k (reads cells) e there ∙ ap (λ x. x && all_go (drop k (reads cells))) (sym s.1)
    where
      by_reads : (rs : List Read) → all_of true 0 rs ≡ qualified rs
      by_reads [] = refl
      by_reads (r ∷ rs) = refl
  begun (Terms n) cells k g b ih len there h s =
      let nk : n ≡ k = s.0 ∙ len in
      let all : plus n g ≡ k + g = omega (arith, plus-is n g) in
      ih false n g (ap (λ i. is_terms i cells) all ∙ h)
      ∙ ap (λ i. all_go (drop i (reads cells))) nk ∙ ap (λ x. x && all_go (drop k (reads cells))) (sym s.1)

  walked : (cells : List Cell) → Walked cells
  unfolding Walked all_of count reads all_go is_name
  walked [] true t g h = refl
  walked [] false zero g h = refl
  walked [] false (suc t) g h = refl
  walked (Var v ∷ cells) true t g h = refl
  walked (Int i ∷ cells) true t g h = refl
  walked (Func f k ∷ cells) true t g h = refl
  walked (Atom a ∷ cells) true t g h = walked cells false t g h
  walked (c ∷ cells) false (suc t) g h =
      let parts = and_parts (has_arity c) (is_terms (terms_after c (plus t g)) cells) h in
      let n : terms_after c (plus t g) ≡ plus (terms_after c t) g = omega (arith, terms_after-is c (plus t g), terms_after-is c t, plus-is t g, plus-is (terms_after c t) g) in
      walked cells false (terms_after c t) g (ap (λ i. is_terms i cells) (sym n) ∙ parts.1)
      ∙ ap (λ i. all_go (drop i (of_terms read_of cells))) (terms_after-is c t)
      ∙ ap all_go (sym (drop-drop t (arity_of c) (of_terms read_of cells)))
  walked (c ∷ cells) false zero zero h = absurd (false≢true h)
  walked (c ∷ cells) false zero (suc g) h =
      let parts = and_parts (has_arity c) (is_terms (terms_after c g) cells) h in
      let there : is_terms (arity_of c + g) cells ≡ true = ap (λ i. is_terms i cells) (sym (terms_after-is c g)) ∙ parts.1 in
      let all : length (of_terms read_of cells) ≡ arity_of c + g = length-reads (arity_of c + g) cells there in
      let enough : arity_of c ≤ length (of_terms read_of cells) = omega arith in
      let len : length (take (arity_of c) (of_terms read_of cells)) ≡ arity_of c = length-take-le (arity_of c) (of_terms read_of cells) enough in
      begun (behind_first c) cells (arity_of c) g _ (walked cells) len enough there (says c (take (arity_of c) (of_terms read_of cells)) (take_steady (arity_of c) (of_terms read_of cells) (all_steady cells)) len)

  one_read : (rs : List Read) → length rs ≡ 1 → all_go rs ≡ is_some ((slice_index_or rs 0 unread).body m)
  unfolding all_go
  one_read [] e = absurd (omega arith)
  one_read (r ∷ []) e = and-true (is_some (r.body m))
  one_read (r ∷ s ∷ rs) e = absurd (omega arith)

  pub walk_says : (cells : List Cell) → is_terms 1 cells ≡ true → walk (to_come false 0 1) cells ≡ is_some (body_of m cells)
  unfolding Walked all_of count reads body_of
  walk_says cells h = walked cells false 0 1 h ∙ one_read (of_terms read_of cells) (length-reads 1 cells h)

  pub ends_in_none : (s : ToCome) (cells : List Cell) (i : ℕ) (c : Cell) → i < length cells → c ≡ get_or cells i c → after_cell s c ≡ None
      → walk s (drop i cells) ≡ walk (to_come false 0 1) cells → is_terms 1 cells ≡ true → false ≡ is_some (body_of m cells)
  ends_in_none s cells i c lt at e w t =
      sym (walk_ends s c (drop (i + 1) cells) e)
      ∙ ap (λ x. walk s (x ∷ drop (i + 1) cells)) at
      ∙ ap (walk s) (sym (drop_more cells i c lt))
      ∙ w ∙ walk_says cells t

  pub ends_at_last : (s : ToCome) (cells : List Cell) (i : ℕ) → length cells ≤ i → walk s (drop i cells) ≡ walk (to_come false 0 1) cells → is_terms 1 cells ≡ true → true ≡ is_some (body_of m cells)
  ends_at_last s cells i past w t = sym (ap (walk s) (drop_past cells i past)) ∙ w ∙ walk_says cells t
