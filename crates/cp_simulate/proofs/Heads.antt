-- The head of a rule, as a part of its cells.
use Rattle.std.proofs.Common.{◌≡◌, ℕ, zero, suc, ◌+◌, ◌-◌, List, [], ◌∷◌, length, refl, ap, ◌∙◌, subst, sym, take, drop, true, false, cond, ◌&&◌, nat_eq, nat_lt, arith}
use Rattle.std.specs.Prelude.{Result, Ok, Err}
use Rattle.std.proofs.lemmas.List.{take_all}
use Rattle.std.proofs.lemmas.Bool.{and_parts, and_from}
use Rattle.std.proofs.lemmas.Bool.Decides.{Decides-eqb}
use Rattle.cp_term.specs.declared.cell.Cell.{Cell}
use Rattle.cp_term.specs.declared.cell.Cell.TheVariants.{Var, Int, Atom, Func}
use Rattle.cp_term.specs.declared.term.TermError.{TermError}
use Rattle.cp_term.specs.declared.term.TermError.TheVariants.{NotOneTerm, BadNumbering}
use Rattle.cp_term.specs.Numbering.{is_numbered_from}
use Rattle.cp_term.specs.Preorder.{is_arity, is_terms, take_terms}
use Rattle.cp_term.specs.TermOf.{term_of}
use Rattle.cp_term.proofs.lemmas.PreorderLaws.{is_terms-take_terms}
use Rattle.cp_code.specs.Bodies.{is}
use Rattle.cp_code.specs.Clauses.{is_rule, head_of}

rule_head : (cells : List Cell) → is_rule cells ≡ true → head_of cells ≡ take_terms 1 (drop 1 cells)
rule_head [] h = let w : ⊥ = cc in absurd w
rule_head (c ∷ cells) h = ap (λ b. cond b (take_terms 1 cells) (c ∷ cells)) h

-- the first cells of cells whose variables are numbered in order are so too
numbered_take : (n v : ℕ) (cells : List Cell) → is_numbered_from v cells ≡ true → is_numbered_from v (take_terms n cells) ≡ true
numbered_take zero v cells h = refl
numbered_take (suc n) v [] h = refl
numbered_take (suc n) v (Int i ∷ cells) h = numbered_take n v cells h
numbered_take (suc n) v (Atom a ∷ cells) h = numbered_take n v cells h
numbered_take (suc n) v (Func f k ∷ cells) h = numbered_take (k + n) v cells h
numbered_take (suc n) v (Var u ∷ cells) h =
    (elim (nat_lt u v) as (λ b. cond b (is_numbered_from v cells) (nat_eq u v && is_numbered_from (suc v) cells) ≡ true
    → cond b (is_numbered_from v (take_terms n cells)) (nat_eq u v && is_numbered_from (suc v) (take_terms n cells)) ≡ true) [
      | true ↦ λ k. numbered_take n v cells k
      | false ↦ λ k.
          let parts = and_parts (nat_eq u v) (is_numbered_from (suc v) cells) k in
          and_from (nat_eq u v) (is_numbered_from (suc v) (take_terms n cells)) parts.0 (numbered_take n (suc v) cells parts.1)
    ]) h

is_term : (cells : List Cell) → is_terms 1 cells ≡ true → is_numbered_from 0 cells ≡ true → term_of cells ≡ Ok cells
is_term cells terms numbered =
    ap (λ b. cond b (cond (is_numbered_from 0 cells) (Ok cells) (Err (BadNumbering cells))) (Err (NotOneTerm cells))) terms
    ∙ ap (λ b. cond b (Ok cells) (Err (BadNumbering cells))) numbered

-- the head of a rule is a term
head_is_term : (cells : List Cell) → is_terms 1 cells ≡ true → is_numbered_from 0 cells ≡ true → is_rule cells ≡ true → term_of (take_terms 1 (drop 1 cells)) ≡ Ok (take_terms 1 (drop 1 cells))
head_is_term [] terms numbered rule = let w : ⊥ = cc in absurd w
head_is_term (Var v ∷ cells) terms numbered rule = let w : ⊥ = cc in absurd w
head_is_term (Int i ∷ cells) terms numbered rule = let w : ⊥ = cc in absurd w
head_is_term (Atom a ∷ cells) terms numbered rule = let w : ⊥ = cc in absurd w
head_is_term (Func f k ∷ cells) terms numbered rule =
    let two : k ≡ 2 = (Decides-eqb k 2).0 (and_parts (is f ":-") (nat_eq k 2) rule).1 in
    let sum : k + 0 ≡ 1 + 1 = omega (arith, two) in
    let both : is_terms (1 + 1) cells ≡ true = subst (λ n. is_terms n cells ≡ true) sum (and_parts (is_arity k) (is_terms (k + 0) cells) terms).1 in
    is_term (take_terms 1 cells) (is_terms-take_terms 1 1 cells both) (numbered_take 1 0 cells numbered)

-- all that follows the first cell
behind : (cells : List Cell) → is_rule cells ≡ true → take (length cells - 1) (drop 1 cells) ≡ drop 1 cells
behind [] h = let w : ⊥ = cc in absurd w
behind (c ∷ cells) h = take_all (suc (length cells) - 1) cells (omega arith)

-- What is known of the first term behind the neck of a rule, and of what it is as a term.
pub record IsHead (cells head : List Cell) (read : Result (List Cell) TermError) : Type 0 where
  pub rule : is_rule cells ≡ true
  pub terms : is_terms 1 cells ≡ true
  pub numbered : is_numbered_from 0 cells ≡ true
  pub head_is : head ≡ take_terms 1 (take (length cells - 1) (drop 1 cells))
  pub read_is : read ≡ term_of head

first_behind : (cells head : List Cell) (read : Result (List Cell) TermError) → IsHead cells head read → head ≡ take_terms 1 (drop 1 cells)
first_behind cells head read h = h.head_is ∙ ap (take_terms 1) (behind cells h.rule)

reads : (cells head : List Cell) (read : Result (List Cell) TermError) → IsHead cells head read → read ≡ Ok (take_terms 1 (drop 1 cells))
reads cells head read h = h.read_is ∙ (ap term_of (first_behind cells head read h) ∙ head_is_term cells h.terms h.numbered h.rule)

pub never_refused : (cells head : List Cell) (read : Result (List Cell) TermError) (e : TermError) → IsHead cells head read → read ≡ Err e → ⊥
never_refused cells head read e h refused = let same : Ok (take_terms 1 (drop 1 cells)) ≡ Err e = sym (reads cells head read h) ∙ refused in cc

pub reads_head : (cells head : List Cell) (read : Result (List Cell) TermError) (whole : List Cell) → IsHead cells head read → read ≡ Ok whole → whole ≡ head_of cells
reads_head cells head read whole h is =
    let same : Ok whole ≡ Ok (take_terms 1 (drop 1 cells)) = sym is ∙ reads cells head read h in
    let inner : whole ≡ take_terms 1 (drop 1 cells) = cc in
    inner ∙ sym (rule_head cells h.rule)
