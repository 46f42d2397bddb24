-- Clauses whose first argument cannot match a goal's do not unify with it, and can be left out.
use Rattle.std.proofs.Common.{◌≡◌, refl, sym, ap, ◌∙◌, ℕ, zero, suc, ◌+◌, ◌-◌, ◌<◌, ◌≤◌, Bool, true, false, cond, List, [], ◌∷◌, length, Option, Some, None, arith, inl, inr}
use Rattle.std.specs.Prelude.{map, drop, max, ◌&&◌, nat_eq, slice_get}
use Rattle.std.specs.Str.{bytes_eq}
use Rattle.std.proofs.Math.Seq.{drop-nil}
use Rattle.cp_term.specs.declared.cell.Cell.{Cell}
use Rattle.cp_term.specs.declared.cell.Cell.TheVariants.{Var, Func}
use Rattle.cp_term.specs.CellEq.{cell_eq}
use Rattle.cp_term.specs.Numbering.{renamed, fresh, next_variable}
use Rattle.cp_term.specs.Substitution.{Substitution, apply, replace}
use Rattle.cp_term.specs.Unification.{Clash, first_disagreement, disagreement, unify_by}
use Rattle.cp_code.specs.declared.clause.Clause.{Clause}
use Rattle.cp_code.specs.Clauses.{head_of, first_argument, may_unify, can_match}
use Rattle.cp_code.specs.Candidates.{clause_matches, moved, OthersAreMovedOver, NoneMovesToAFailure, matches_at, HasNoneFrom, IsChosenBy, OthersDoNotUnify, OthersAreLeftOut, NoneFindNothing}
use Rattle.std.proofs.lemmas.Bool.{cases_lt}
use Rattle.std.proofs.lemmas.Option.{slice_get_past}
use Rattle.cp_code.specs.Code.{Code}
use Rattle.cp_code.specs.Machine.{Frame, State, Tries, Fails, to, clause_move, move}
use Rattle.cp_code.specs.Programs.{clause_of}
use Rattle.cp_code.specs.Tree.{Item, Left, Run, Ends, Done, Tree, in_turn, clause_if, clauses as tree_of}

-- ---- unification

unequal : (c d : Cell) → may_unify c d ≡ false → cell_eq c d ≡ false
unequal (Var u) d h = cc
unequal c (Var v) h = cc
unequal c d h = h

clash : (c d : Cell) (cs ds : List Cell) → may_unify c d ≡ false → first_disagreement c cs d ds ≡ Clash
clash (Var u) d cs ds h = cc
clash c (Var v) cs ds h = cc
clash c d cs ds h = refl

inner_clash : (c d : Cell) (cs ds : List Cell) → may_unify c d ≡ false → disagreement (c ∷ cs) (d ∷ ds) ≡ Clash
inner_clash c d cs ds h =
    ap (λ b. cond b (disagreement cs ds) (first_disagreement c cs d ds)) (unequal c d h) ∙ clash c d cs ds h

outer_clash : (b : Bool) (f g : List ℕ) (j k : ℕ) (c d : Cell) (cs ds : List Cell) → may_unify c d ≡ false → cond b (disagreement (c ∷ cs) (d ∷ ds)) (first_disagreement (Func f j) (c ∷ cs) (Func g k) (d ∷ ds)) ≡ Clash
outer_clash true f g j k c d cs ds h = inner_clash c d cs ds h
outer_clash false f g j k c d cs ds h = refl

terms_clash : (x y : List Cell) → can_match (first_argument x) (first_argument y) ≡ false → disagreement x y ≡ Clash
terms_clash (Func f j ∷ c ∷ cs) (Func g k ∷ d ∷ ds) h = outer_clash (bytes_eq f g && nat_eq j k) f g j k c d cs ds h
terms_clash (Func f j ∷ c ∷ cs) y h = cc
terms_clash x y h = cc

-- ---- a bound first argument of a head stays as it is

variables_match : (c : Cell) (v : ℕ) → may_unify c (Var v) ≡ true
variables_match (Var u) v = refl
variables_match c v = refl

is_bound : (c d : Cell) → may_unify c d ≡ false → (v : ℕ) → d ≡ Var v → ⊥
is_bound c d h v e = let k : may_unify c (Var v) ≡ true = variables_match c v in let m : may_unify c d ≡ may_unify c (Var v) = ap (may_unify c) e in cc

kept : (s : Substitution) (d : Cell) (cells : List Cell) → ((v : ℕ) → d ≡ Var v → ⊥) → apply s (d ∷ cells) ≡ d ∷ apply s cells
kept [] d cells h = refl
kept (b ∷ s) (Var v) cells h = absurd (h v refl)
kept (b ∷ s) d cells h = kept s d (replace b cells) h

not_renamed : (f : ℕ → ℕ) (d : Cell) → ((v : ℕ) → d ≡ Var v → ⊥) → renamed f d ≡ d
not_renamed f (Var v) h = absurd (h v refl)
not_renamed f d h = refl

head_kept : (s : Substitution) (next : ℕ) (g : List ℕ) (k : ℕ) (d : Cell) (ds : List Cell) → ((v : ℕ) → d ≡ Var v → ⊥) → apply s (fresh next (Func g k ∷ d ∷ ds)) ≡ Func g k ∷ d ∷ apply s (fresh next ds)
head_kept s next g k d ds h =
    kept s (Func g k) (fresh next (d ∷ ds)) (λ v e. cc)
    ∙ ap (λ cells. Func g k ∷ cells)
    (ap (λ e. apply s (e ∷ fresh next ds)) (not_renamed (λ v. v + next) d h) ∙ kept s d (fresh next ds) h)

argument_kept : (s : Substitution) (next : ℕ) (a : Option Cell) (head : List Cell) → can_match a (first_argument head) ≡ false → can_match a (first_argument (apply s (fresh next head))) ≡ false
argument_kept s next None head h = cc
argument_kept s next (Some c) (Func g k ∷ d ∷ ds) h =
    ap (λ y. can_match (Some c) (first_argument y)) (head_kept s next g k d ds (is_bound c d h)) ∙ h
argument_kept s next (Some c) head h = cc

pub others_do_not_unify : OthersDoNotUnify
others_do_not_unify s next goal head h =
    ap (unify_by (max (next_variable (apply s goal)) (next_variable (apply s (fresh next head)))) s goal (fresh next head))
    (terms_clash (apply s goal) (apply s (fresh next head)) (argument_kept s next (first_argument (apply s goal)) head h))

-- ---- the tree of the clauses

chosen : (first : Option Cell) (goal : List Cell) (own : Option Cell) → IsChosenBy first goal → can_match first own ≡ false → can_match (first_argument goal) own ≡ false
chosen first goal own (inl e) h = let k : can_match first own ≡ can_match None own = ap (λ f. can_match f own) e in cc
chosen first goal own (inr e) h = sym (ap (λ f. can_match f own) e) ∙ h

module _ (again : Tree) (goal : List Cell) (rest : List Item) (s : Substitution) (next level : ℕ) (first : Option Cell) (by : IsChosenBy first (apply s goal)) where
  abbrev found : List Clause → Left → Run
  found cs left = tree_of again (map clause_of cs) goal rest s next level left

  left_out : (c : Clause) (cs : List Clause) (left : Left) → matches_at (c ∷ cs) first 0 ≡ false → found (c ∷ cs) left ≡ found cs left
  left_out c cs left h =
      ap (λ o. in_turn (clause_if again o (clause_of c) rest next level left) (λ left. found cs left))
      (others_do_not_unify s next goal (head_of c.whole) (chosen first (apply s goal) (first_argument (head_of c.whole)) by h))

  skipped : (cs : List Clause) (from n : ℕ) (left : Left) → from ≤ n → ((k : ℕ) → from ≤ k → k < n → matches_at cs first k ≡ false) → found (drop from cs) left ≡ found (drop n cs) left
  skipped [] from n left le h = ap (λ cs. found cs left) (drop-nil from ∙ sym (drop-nil n))
  skipped (c ∷ cs) zero zero left le h = refl
  skipped (c ∷ cs) zero (suc n) left le h =
      left_out c cs left (h 0 (omega arith) (omega arith)) ∙ skipped cs 0 n left (omega arith) (λ k a b. h (suc k) (omega arith) (omega arith))
  skipped (c ∷ cs) (suc from) zero left le h = absurd (omega arith)
  skipped (c ∷ cs) (suc from) (suc n) left le h = skipped cs from n left (omega arith) (λ k a b. h (suc k) (omega arith) (omega arith))

  none : (cs : List Clause) (from : ℕ) (left : Left) → HasNoneFrom cs first from → found (drop from cs) left ≡ Ends Done left
  none [] from left h = ap (λ cs. found cs left) (drop-nil from)
  none (c ∷ cs) zero left h = left_out c cs left (h 0 (omega arith)) ∙ none cs 0 left (λ k a. h (suc k) (omega arith))
  none (c ∷ cs) (suc from) left h = none cs from left (λ k a. h (suc k) (omega arith))

module _ (code : Code) (started : List Cell) (goal : List Cell) (rest : List Item) (s : Substitution) (next level units : ℕ) (copies : List (List Cell)) (frames : List Frame) (first : Option Cell) (by : IsChosenBy first (apply s goal)) where
  abbrev tried : List Clause → State
  tried cs = to (Tries (map clause_of cs) goal rest s next level) units copies frames

  moved_over : (c : Clause) (cs : List Clause) → matches_at (c ∷ cs) first 0 ≡ false → move code started (tried (c ∷ cs)) ≡ tried cs
  moved_over c cs h =
      ap (λ o. clause_move o (clause_of c) (map clause_of cs) goal rest s next level units copies frames)
      (others_do_not_unify s next goal (head_of c.whole) (chosen first (apply s goal) (first_argument (head_of c.whole)) by h))

  all_moved_over : (cs : List Clause) (from n : ℕ) → from ≤ n → n ≤ length cs → ((k : ℕ) → from ≤ k → k < n → matches_at cs first k ≡ false) → moved code started (n - from) (tried (drop from cs)) ≡ tried (drop n cs)
  all_moved_over cs zero zero le within h = refl
  all_moved_over [] from (suc n) le within h = absurd (omega arith)
  all_moved_over [] (suc from) zero le within h = absurd (omega arith)
  all_moved_over (c ∷ cs) zero (suc n) le within h =
      let e : suc n - 0 ≡ suc n = omega arith in
      let d : n - 0 ≡ n = omega arith in
      ap (λ k. moved code started k (tried (c ∷ cs))) e
      ∙ ap (moved code started n) (moved_over c cs (h 0 (omega arith) (omega arith)))
      ∙ ap (λ k. moved code started k (tried cs)) (sym d)
      ∙ all_moved_over cs 0 n (omega arith) (omega arith) (λ k a b. h (suc k) (omega arith) (omega arith))
  all_moved_over (c ∷ cs) (suc from) zero le within h = absurd (omega arith)
  all_moved_over (c ∷ cs) (suc from) (suc n) le within h =
      let e : suc n - suc from ≡ n - from = omega arith in
      ap (λ k. moved code started k (tried (drop from cs))) e ∙ all_moved_over cs from n (omega arith) (omega arith) (λ k a b. h (suc k) (omega arith) (omega arith))

  to_failure : (cs : List Clause) (from : ℕ) → HasNoneFrom cs first from → moved code started (suc (length cs - from)) (tried (drop from cs)) ≡ to Fails units copies frames
  to_failure [] from h = ap (λ ds. moved code started (suc (0 - from)) (tried ds)) (drop-nil from) ∙ ap (λ k. moved code started (suc k) (tried [])) (let z : 0 - from ≡ 0 = omega arith in z)
  to_failure (c ∷ cs) zero h =
      let e : suc (length cs) - 0 ≡ suc (length cs - 0) = omega arith in
      ap (λ k. moved code started (suc k) (tried (c ∷ cs))) e
      ∙ ap (moved code started (suc (length cs - 0))) (moved_over c cs (h 0 (omega arith)))
      ∙ to_failure cs 0 (λ k a. h (suc k) (omega arith))
  to_failure (c ∷ cs) (suc from) h =
      let e : suc (length cs) - suc from ≡ length cs - from = omega arith in
      ap (λ k. moved code started (suc k) (tried (drop from cs))) e ∙ to_failure cs from (λ k a. h (suc k) (omega arith))

pub others_are_moved_over : OthersAreMovedOver
others_are_moved_over code started clauses goal rest s next level units copies frames first from n by h =
    all_moved_over code started goal rest s next level units copies frames first by clauses from n h.within (below clauses first n h.matches) h.before
  where
    below : (cs : List Clause) (first : Option Cell) (n : ℕ) → matches_at cs first n ≡ true → n ≤ length cs
    below cs first n m = elim (cases_lt n (length cs)) [ inl lt ↦ omega arith | inr le ↦ absurd (let e : slice_get cs n ≡ None = slice_get_past cs n le in let f : matches_at cs first n ≡ false = ap (clause_matches first) e in cc) ]

pub none_moves_to_a_failure : NoneMovesToAFailure
none_moves_to_a_failure code started clauses goal rest s next level units copies frames first from by h =
    to_failure code started goal rest s next level units copies frames first by clauses from h

pub others_are_left_out : OthersAreLeftOut
others_are_left_out again clauses goal rest s next level left first from n by h =
    skipped again goal rest s next level first by clauses from n left h.within h.before

pub none_find_nothing : NoneFindNothing
none_find_nothing again clauses goal rest s next level left first from by h = none again goal rest s next level first by clauses from left h
