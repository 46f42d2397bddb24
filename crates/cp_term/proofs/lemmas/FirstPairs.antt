-- The pairs that unification begins with: each place of a variable with the first one.
use Rattle.std.proofs.Common.{◌≡◌, ℕ, zero, suc, ◌+◌, ◌<◌, inl, inr, length, get_or, set, List, [], ◌∷◌, ◌++◌, refl, sym, ◌∙◌, ap, arith}
use Rattle.std.specs.Prelude.{Option, Some, None, unwrap_or}
use Rattle.std.proofs.lemmas.Bool.{cases_eq, cases_lt}
use Rattle.std.proofs.lemmas.List.{length-set, get_or-set_same, get_or-set_other}
use Rattle.cp_term.specs.declared.cell.Cell.{Cell}
use Rattle.cp_term.specs.declared.cell.Cell.TheVariants.{Var, Int, Atom, Func}
use Rattle.cp_term.specs.declared.classes.Pair.{Pair}
use Rattle.cp_term.specs.CellRefs.{variable_of}
use Rattle.cp_term.specs.Numbering.{next_variable}
use Rattle.cp_term.specs.TermGraph.{cell_of, Model}
use Rattle.cp_term.specs.Classes.{Agree, AreWithin, Begins}
use Rattle.cp_term.proofs.lemmas.ClassLaws.{Agree-front, Agree-back, Agree-join, AreWithin-join}

pub is_variable_cell : (c : Cell) (v : ℕ) → variable_of c ≡ Some v → c ≡ Var v
is_variable_cell (Var u) v e = let same : u ≡ v = cc in ap (λ w. Var w) same
is_variable_cell (Int i) v e = cc
is_variable_cell (Atom a) v e = cc
is_variable_cell (Func f k) v e = cc

pub variable-below : (cells : List Cell) (p v : ℕ) → p < length cells → cell_of cells p ≡ Var v → v < next_variable cells
variable-below [] p v h e = absurd (omega arith)
variable-below (Var u ∷ cells) zero v h e = let same : u ≡ v = cc in omega arith
variable-below (Int i ∷ cells) zero v h e = cc
variable-below (Atom a ∷ cells) zero v h e = cc
variable-below (Func f k ∷ cells) zero v h e = cc
variable-below (Var u ∷ cells) (suc p) v h e = let below = variable-below cells p v (omega arith) e in omega arith
variable-below (Int i ∷ cells) (suc p) v h e = variable-below cells p v (omega arith) e
variable-below (Atom a ∷ cells) (suc p) v h e = variable-below cells p v (omega arith) e
variable-below (Func f k ∷ cells) (suc p) v h e = variable-below cells p v (omega arith) e

-- what holds when the places before `at` have been looked at
pub record Seen (cells : List Cell) (second at : ℕ) (firsts : List (Option ℕ)) (pairs : List Pair) : Type 0 where
  pub len : length firsts ≡ next_variable cells
  pub known : (v p : ℕ) → get_or firsts v None ≡ Some p → (p < at) × (cell_of cells p ≡ Var v)
  pub seen : (p v : ℕ) → p < at → cell_of cells p ≡ Var v → (q : ℕ) × (get_or firsts v None ≡ Some q) × ((f : ℕ → ℕ) → Agree f pairs → f p ≡ f q)
  pub within : AreWithin (length cells) pairs
  pub equal : (f : ℕ → ℕ) → Agree f pairs → f 0 ≡ f second
  pub sound : (ends : List ℕ) (m : Model cells ends second) → Agree m.term pairs

module _ (cells : List Cell) (second at : ℕ) (firsts : List (Option ℕ)) (pairs : List Pair) (s : Seen cells second at firsts pairs) (below : at < length cells) where
  -- a place of no variable
  pub Seen-other : variable_of (cell_of cells at) ≡ None → Seen cells second (at + 1) firsts pairs
  Seen-other none = record {
    len = s.len;
    known = λ v p e. let k = s.known v p e in (omega arith, k.1);
    seen = λ p v h e. elim (cases_eq p at) [
      | inl q ↦ let two : None ≡ Some v = sym none ∙ ap (λ j. variable_of (cell_of cells j)) (sym q) ∙ ap variable_of e in absurd (none_some v two)
      | inr ne ↦ s.seen p v (omega arith) e
    ];
    within = s.within;
    equal = s.equal;
    sound = s.sound;
  } where
    none_some : (v : ℕ) → None ≡ Some v → ⊥
    none_some v e = cc

  -- a place of a variable
  module _ (v : ℕ) (is : cell_of cells at ≡ Var v) where
    abbrev first : ℕ
    first = unwrap_or (get_or firsts v None) at

    abbrev firsts_after : List (Option ℕ)
    firsts_after = set firsts v (Some first)

    abbrev last : Pair
    last = record { left = first; right = at }

    first_by : (o : Option ℕ) → get_or firsts v None ≡ o → (unwrap_or o at < at + 1) × (cell_of cells (unwrap_or o at) ≡ Var v)
    first_by None e = (omega arith, is)
    first_by (Some p) e = let k = s.known v p e in (omega arith, k.1)

    first_is : (first < at + 1) × (cell_of cells first ≡ Var v)
    first_is = first_by (get_or firsts v None) refl

    room : v < length firsts
    room = let len = s.len in let k = variable-below cells at v below is in omega arith

    same_first : get_or firsts_after v None ≡ Some first
    same_first = get_or-set_same firsts v (Some first) None room

    some_is : (p q : ℕ) → Some p ≡ Some q → p ≡ q
    some_is p q e = cc

    variable_is : (u w : ℕ) → Var u ≡ Var w → u ≡ w
    variable_is u w e = cc

    pub Seen-variable : Seen cells second (at + 1) firsts_after (pairs ++ last ∷ [])
    Seen-variable = record {
      len = length-set firsts v (Some first) ∙ s.len;
      known = λ u p e. elim (cases_eq u v) [
        | inl q ↦
            let same : first ≡ p = some_is first p (sym same_first ∙ ap (λ w. get_or firsts_after w None) (sym q) ∙ e) in
            let k = first_is in
            (omega arith, ap (cell_of cells) (sym same) ∙ k.1 ∙ ap (λ w. Var w) (sym q))
        | inr ne ↦ let k = s.known u p (sym (get_or-set_other firsts v u (Some first) None ne) ∙ e) in (omega arith, k.1)
      ];
      seen = λ p u h e. elim (cases_lt p at) [
        | inl old ↦
            let k = s.seen p u old e in
            elim (cases_eq u v) [
              | inl q ↦
                  let at_v : get_or firsts v None ≡ Some k.0 = ap (λ w. get_or firsts w None) (sym q) ∙ k.1 in
                  let same : first ≡ k.0 = ap (λ o. unwrap_or o at) at_v in
                  (k.0, ap (λ w. get_or firsts_after w None) q ∙ same_first ∙ ap (λ w. Some w) same, λ f a. k.2 f (Agree-front f pairs (last ∷ []) a))
              | inr ne ↦ (k.0, get_or-set_other firsts v u (Some first) None ne ∙ k.1, λ f a. k.2 f (Agree-front f pairs (last ∷ []) a))
            ]
        | inr late ↦
            let here : p ≡ at = omega arith in
            let same : u ≡ v = variable_is u v (sym e ∙ ap (cell_of cells) here ∙ is) in
            (first, ap (λ w. get_or firsts_after w None) same ∙ same_first, λ f a. ap f here ∙ sym (Agree-back f pairs (last ∷ []) a).0)
      ];
      within = let k = first_is in AreWithin-join (length cells) pairs (last ∷ []) s.within (omega arith, below, tt);
      equal = λ f a. s.equal f (Agree-front f pairs (last ∷ []) a);
      sound = λ ends m.
          let k = first_is in
          Agree-join m.term pairs (last ∷ []) (s.sound ends m)
          (m.is_model.variables first v (omega arith) k.1 ∙ sym (m.is_model.variables at v below is), tt);
    }

-- in the end
module _ (cells : List Cell) (second : ℕ) (firsts : List (Option ℕ)) (pairs : List Pair) (s : Seen cells second (length cells) firsts pairs) (some : second < length cells) where
  inside_by : (v : ℕ) (o : Option ℕ) → get_or firsts v None ≡ o → unwrap_or o 0 < length cells
  inside_by v None e = omega arith
  inside_by v (Some p) e = (s.known v p e).0

  pub Begins-end : (ends : List ℕ) → Begins cells ends second pairs
  Begins-end ends = record {
    first = λ v. unwrap_or (get_or firsts v None) 0;
    first_within = λ v. inside_by v (get_or firsts v None) refl;
    within = s.within;
    sound = s.sound ends;
    equal = s.equal;
    variables = λ f a p v h e. let k = s.seen p v h e in k.2 f a ∙ ap (λ o. f (unwrap_or o 0)) (sym k.1);
  }
