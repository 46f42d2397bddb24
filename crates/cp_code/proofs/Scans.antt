-- Looking for the first clause that can match, one clause after another.
use Rattle.std.proofs.Common.{◌≡◌, sym, ap, subst, ◌∙◌, ℕ, ◌+◌, ◌<◌, ◌≤◌, Bool, false, List, length, Option, Some, inl, inr, arith}
use Rattle.std.specs.Prelude.{slice_get}
use Rattle.std.proofs.lemmas.Bool.{cases_lt}
use Rattle.std.proofs.lemmas.Option.{slice_get_past}
use Rattle.cp_term.specs.declared.cell.Cell.{Cell}
use Rattle.cp_code.specs.declared.clause.Clause.{Clause}
use Rattle.cp_code.specs.Clauses.{head_of, first_argument, can_match}
use Rattle.cp_code.specs.Candidates.{clause_matches, matches_at, HasNoneFrom}

-- none of the clauses from one number on and below another can match
abbrev pub NoneBetween : List Clause → Option Cell → ℕ → ℕ → Type 0
NoneBetween clauses first from to = (k : ℕ) → from ≤ k → k < to → matches_at clauses first k ≡ false

pub this_matches : (clauses : List Clause) (first : Option Cell) (n : ℕ) (c : Clause) (b : Bool) → Some c ≡ slice_get clauses n → b ≡ can_match first (first_argument (head_of c.whole)) → matches_at clauses first n ≡ b
this_matches clauses first n c b e h = sym (ap (clause_matches first) e) ∙ sym h

pub none_at : (clauses : List Clause) (first : Option Cell) (from to : ℕ) → NoneBetween clauses first from to → matches_at clauses first to ≡ false → NoneBetween clauses first from (to + 1)
none_at clauses first from to before here k low high =
    elim (cases_lt k to) [
      | inl lt ↦ before k low lt
      | inr le ↦ let e : to ≡ k = omega arith in subst (λ (j : ℕ). matches_at clauses first j ≡ false) e here
    ]

pub none_from : (clauses : List Clause) (first : Option Cell) (from to : ℕ) → length clauses ≤ to → NoneBetween clauses first from to → HasNoneFrom clauses first from
none_from clauses first from to past before k low =
    elim (cases_lt k to) [
      | inl lt ↦ before k low lt
      | inr le ↦ ap (clause_matches first) (slice_get_past clauses k (omega arith))
    ]
