-- Clauses of types by their cells.
use Rattle.std.proofs.Common.{◌≡◌, ℕ, zero, suc, ◌+◌, true, false, List, [], ◌∷◌, refl, sym, ◌∙◌, ap, subst, append-nil}
use Rattle.std.specs.Prelude.{Some, None, ◌&&◌, nat_eq, if◌then◌else◌}
use Rattle.std.proofs.Math.Nat.{add-zero}
use Rattle.std.proofs.lemmas.Bool.{and_parts, false≢true}
use Rattle.std.proofs.lemmas.Bool.Decides.{Decides-eqb}
use Rattle.cp_term.specs.declared.cell.Cell.{Cell}
use Rattle.cp_term.specs.declared.cell.Cell.TheVariants.{Var, Int, Atom, Func}
use Rattle.cp_term.specs.Preorder.{has_arity, is_terms, take_terms, drop_terms, split_terms, arguments}
use Rattle.cp_term.proofs.lemmas.PreorderLaws.{take_terms-append, is_terms-take_terms, is_terms-drop_terms}
use Rattle.cp_code.specs.Bodies.{is, seen_from}
use Rattle.cp_code.specs.Clauses.{is_rule}
use Rattle.cp_code.specs.Properties.{pattern_of, rule_of, clause_of}
use Rattle.cp_props.specs.Pending.{behind_first}
use Rattle.cp_props.specs.Demands.{demands}
use Rattle.cp_props.specs.Scans.{is_no_fact, is_unary, no_clause, fact_body}

whole : (cells : List Cell) → is_terms 1 cells ≡ true → take_terms 1 cells ≡ cells
whole cells h = subst (λ cs. take_terms 1 cs ≡ cells) (append-nil cells) (take_terms-append 1 cells [] h)

-- ---- a compound of one argument

unary-inner : (f : List ℕ) (rest : List Cell) → is_terms 1 (Func f 1 ∷ rest) ≡ true → is_terms 1 rest ≡ true
unary-inner f rest h = (and_parts (has_arity (Func f 1)) (is_terms 1 rest) h).1

pub unary_term : (cells : List Cell) → is_unary cells ≡ true → is_terms 1 cells ≡ true → is_terms 1 (behind_first cells) ≡ true
unary_term [] u h = absurd (false≢true u)
unary_term (Var v ∷ rest) u h = absurd (false≢true u)
unary_term (Int i ∷ rest) u h = absurd (false≢true u)
unary_term (Atom a ∷ rest) u h = absurd (false≢true u)
unary_term (Func f zero ∷ rest) u h = absurd (false≢true u)
unary_term (Func f (suc (suc k)) ∷ rest) u h = absurd (false≢true u)
unary_term (Func f (suc zero) ∷ rest) u h = unary-inner f rest h

pub unary_pattern : (cells : List Cell) → is_unary cells ≡ true → is_terms 1 cells ≡ true → (body : List Cell) → pattern_of (arguments cells) body ≡ record { pattern = behind_first cells; body = body }
unary_pattern [] u h body = absurd (false≢true u)
unary_pattern (Var v ∷ rest) u h body = absurd (false≢true u)
unary_pattern (Int i ∷ rest) u h body = absurd (false≢true u)
unary_pattern (Atom a ∷ rest) u h body = absurd (false≢true u)
unary_pattern (Func f zero ∷ rest) u h body = absurd (false≢true u)
unary_pattern (Func f (suc (suc k)) ∷ rest) u h body = absurd (false≢true u)
unary_pattern (Func f (suc zero) ∷ rest) u h body = ap (λ (t : List Cell). record { pattern = t; body = body }) (whole rest (unary-inner f rest h))

pub other_pattern : (cells : List Cell) → is_unary cells ≡ false → (body : List Cell) → pattern_of (arguments cells) body ≡ record { pattern = []; body = body }
other_pattern [] u body = refl
other_pattern (Var v ∷ rest) u body = refl
other_pattern (Int i ∷ rest) u body = refl
other_pattern (Atom a ∷ rest) u body = refl
other_pattern (Func f zero ∷ rest) u body = refl
other_pattern (Func f (suc zero) ∷ rest) u body = absurd (false≢true (sym u))
other_pattern (Func f (suc (suc k)) ∷ rest) u body = ap (λ n. pattern_of (split_terms n rest) body) (add-zero (suc (suc k)))

-- ---- rules

pub record Rule (cells : List Cell) : Type 0 where
  pub head : is_terms 1 (take_terms 1 (behind_first cells)) ≡ true
  pub body : is_terms 1 (drop_terms 1 (behind_first cells)) ≡ true
  pub clause : clause_of cells ≡ pattern_of (arguments (take_terms 1 (behind_first cells))) (drop_terms 1 (behind_first cells))

rule-of-two : (f : List ℕ) (rest : List Cell) → is f ":-" ≡ true → is_terms 1 (Func f 2 ∷ rest) ≡ true → Rule (Func f 2 ∷ rest)
rule-of-two f rest named h =
    let inner : is_terms (1 + 1) rest ≡ true = (and_parts (has_arity (Func f 2)) (is_terms 2 rest) h).1 in
    let behind = is_terms-drop_terms 1 1 rest inner in
    record {
      head = is_terms-take_terms 1 1 rest inner;
      body = behind;
      clause = ap (λ t. if t then rule_of (arguments (Func f 2 ∷ rest)) else pattern_of (arguments (Func f 2 ∷ rest)) fact_body) named
          ∙ ap (pattern_of (arguments (take_terms 1 rest))) (whole (drop_terms 1 rest) behind);
    }

pub rule_clause : (cells : List Cell) → is_rule cells ≡ true → is_terms 1 cells ≡ true → Rule cells
rule_clause [] r h = absurd (false≢true r)
rule_clause (Var v ∷ rest) r h = absurd (false≢true r)
rule_clause (Int i ∷ rest) r h = absurd (false≢true r)
rule_clause (Atom a ∷ rest) r h = absurd (false≢true r)
rule_clause (Func f k ∷ rest) r h =
    let parts = and_parts (is f ":-") (nat_eq k 2) r in
    let two : k ≡ 2 = (Decides-eqb k 2).0 parts.1 in
    subst (λ j. Rule (Func f j ∷ rest)) (sym two) (rule-of-two f rest parts.0 (subst (λ j. is_terms 1 (Func f j ∷ rest) ≡ true) two h))

-- ---- facts

other-rule : (k : ℕ) (rest : List Cell) → nat_eq k 2 ≡ false → rule_of (split_terms k rest) ≡ no_clause
other-rule zero rest e = refl
other-rule (suc zero) rest e = refl
other-rule (suc (suc zero)) rest e = absurd (false≢true (sym e))
other-rule (suc (suc (suc k))) rest e = refl

pub no_fact : (cells : List Cell) → is_rule cells ≡ false → is_no_fact cells ≡ true → clause_of cells ≡ no_clause
no_fact [] r n = refl
no_fact (Var v ∷ rest) r n = refl
no_fact (Int i ∷ rest) r n = refl
no_fact (Atom a ∷ rest) r n = refl
no_fact (Func f k ∷ rest) r n =
    let other : nat_eq k 2 ≡ false = sym (ap (λ t. t && nat_eq k 2) n) ∙ r in
    ap (λ t. if t then rule_of (arguments (Func f k ∷ rest)) else pattern_of (arguments (Func f k ∷ rest)) fact_body) n
    ∙ ap (λ j. rule_of (split_terms j rest)) (add-zero k)
    ∙ other-rule k rest other

pub fact_clause : (cells : List Cell) → is_no_fact cells ≡ false → clause_of cells ≡ pattern_of (arguments cells) fact_body
fact_clause [] n = absurd (false≢true (sym n))
fact_clause (Var v ∷ rest) n = absurd (false≢true (sym n))
fact_clause (Int i ∷ rest) n = absurd (false≢true (sym n))
fact_clause (Atom a ∷ rest) n = absurd (false≢true (sym n))
fact_clause (Func f k ∷ rest) n = ap (λ t. if t then rule_of (arguments (Func f k ∷ rest)) else pattern_of (arguments (Func f k ∷ rest)) fact_body) n

-- what is no clause demands what is never met
pub no_clause-demands : (t : List Cell) → demands no_clause t ≡ None
unfolding demands seen_from
no_clause-demands t = refl

-- and a fact with no pattern demands nothing
pub fact_body-demands : (t : List Cell) → demands (record { pattern = []; body = fact_body }) t ≡ Some []
unfolding demands seen_from
fact_body-demands t = refl
