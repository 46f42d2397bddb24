-- What is read, and is within the bounds on arguments, is one term in preorder.
use Rattle.std.proofs.Common.{◌≡◌, ℕ, suc, ◌+◌, ◌<◌, ◌≤◌, true, false, cond, ◌&&◌, List, [], ◌∷◌, ◌++◌, length, refl, sym, ◌∙◌, ap, subst, arith, lt-ltb}
use Rattle.std.proofs.lemmas.Bool.{and_parts, and_from, leb-true}
use Rattle.std.proofs.lemmas.List.Folds.{list_all-append}
use Rattle.std.specs.Prelude.{Option, Some, None, ⊤, nat_lt, nat_le, codes}
use Rattle.std.specs.List.{list_all}
use Rattle.cp_term.specs.declared.cell.Cell.{Cell}
use Rattle.cp_term.specs.declared.cell.Cell.TheVariants.{Func}
use Rattle.cp_term.specs.Preorder.{is_terms, is_arity}
use Rattle.cp_term.proofs.lemmas.PreorderLaws.{is_terms-append}
use Rattle.cp_ops.specs.declared.fix.Fix.{Fix}
use Rattle.cp_ops.specs.Operators.{Ops, look_up}
use Rattle.cp_read.specs.Clauses.{cell_fits}
use Rattle.cp_read.specs.Lexemes.{Lexeme, leaf, name, closes, list_closes, braces_close, comma, bar}
use Rattle.cp_read.specs.Grammar.{Read, Infix, infix_by, infix_at, admitted_by, empty_list}
use Rattle.cp_read.specs.Derivation.{joined, ReadsTerm, ReadsOperand, ReadsArguments, ReadsElements, GoesOn, term, leaf_term, integer, negative, compound, prefix_operator, atom, parentheses, call_parentheses, empty_braces, braces, no_elements, list, last_argument, argument, last_element, element, last_and_tail, ends, operator}

-- the leaves among the lexemes are terms
abbrev pub AreTerms : List Lexeme → Type 0
AreTerms [] = ⊤
AreTerms (leaf cells ∷ ls) = (is_terms 1 cells ≡ true) × AreTerms ls
AreTerms (l ∷ ls) = AreTerms ls

abbrev pub Fitting : ℕ → List Cell → Type 0
Fitting most cells = list_all (cell_fits most) cells ≡ true

abbrev pub Makes : ℕ → ℕ → List Cell → Type 0
Makes most n cells = Fitting most cells → is_terms n cells ≡ true

abbrev pub Good : ℕ → Read → Type 0
Good most x = Makes most 1 (x.cells) × AreTerms (x.rest)

parts : (most : ℕ) (a b : List Cell) → Fitting most (a ++ b) → Fitting most a × Fitting most b
parts most a b h = and_parts (list_all (cell_fits most) a) (list_all (cell_fits most) b) (sym (list_all-append (cell_fits most) a b) ∙ h)

-- terms behind terms
makes-append : (most m n : ℕ) (a b : List Cell) → Makes most m a → Makes most n b → Makes most (m + n) (a ++ b)
makes-append most m n a b f g h = let p = parts most a b h in is_terms-append m n a b (f (p.0)) ∙ g (p.1)

-- a functor in front of its arguments
makes_compound : (most : ℕ) (f : List ℕ) (k : ℕ) (cells : List Cell) → 0 < k → Makes most k cells → Makes most 1 (Func f k ∷ cells)
makes_compound most f k cells some g h =
    let p = and_parts (cell_fits most (Func f k)) (list_all (cell_fits most) cells) h in
    let q = and_parts (nat_le (length f) most) (nat_le k 255) (p.0) in
    let low : k ≤ 255 = leb-true k 255 (q.1) in
    and_from (is_arity k) (is_terms (k + 0) cells) (and_from (nat_lt 0 k) (nat_lt k 256) (lt-ltb 0 k some) (lt-ltb k 256 (omega arith)))
    (ap (λ n. is_terms n cells) (let e : k + 0 ≡ k = omega arith in e) ∙ g (p.1))

infix_rest : (ops : Ops) (called : List ℕ) (ls : List Lexeme) (o : Option (ℕ × Fix)) (op : Infix) → AreTerms ls → infix_by called ls o ≡ Some op → AreTerms (op.rest)
infix_rest ops called ls None op t h = absurd (let none : ⊥ = cc in none)
infix_rest ops called ls (Some p) op t h = subst AreTerms (ap (λ (q : Infix). q.rest) (some_is _ op h)) t
  where
    some_is : (a b : Infix) → Some a ≡ Some b → a ≡ b
    some_is a b e = cc

pub admitted_is : (ops : Ops) (max p : ℕ) (o : Option Infix) (op : Infix) → admitted_by ops max p o ≡ Some op → o ≡ Some op
admitted_is ops max p None op h = h
admitted_is ops max p (Some q) op h =
    elim (nat_le (q.priority) max && nat_le p (q.left)) as (λ b. cond b (Some q) None ≡ Some op → Some q ≡ Some op) [ true ↦ λ e. e | false ↦ λ e. absurd (let none : ⊥ = cc in none) ] h

infix_terms : (ops : Ops) (ls : List Lexeme) (op : Infix) → AreTerms ls → infix_at ops ls ≡ Some op → AreTerms (op.rest)
infix_terms ops [] op t h = absurd (let none : ⊥ = cc in none)
infix_terms ops (name called signs ∷ ls) op t h = infix_rest ops called ls (look_up (ops.infixes) called) op t h
infix_terms ops (comma ∷ ls) op t h = infix_rest ops (codes ",") ls (look_up (ops.infixes) (codes ",")) op t h
infix_terms ops (l ∷ ls) op t h = absurd (let none : ⊥ = cc in none)

behind : (ls more : List Lexeme) → AreTerms ls → ls ≡ more → AreTerms more
behind ls more t e = subst AreTerms e t

-- so many terms, and leaves behind them that are terms
abbrev Terms : ℕ → ℕ → List Cell → List Lexeme → Type 0
Terms most count cells rest = (0 < count) × Makes most count cells × AreTerms rest

mutual
  pub good_term : (most : ℕ) (ops : Ops) (max : ℕ) (ls : List Lexeme) (x : Read) → ReadsTerm ops max ls x → AreTerms ls → Good most x
  good_term most ops _ _ _ (term max ls left x first more) t = good_goes most ops max left x more (good_operand most ops max ls left first t)

  good_operand : (most : ℕ) (ops : Ops) (max : ℕ) (ls : List Lexeme) (x : Read) → ReadsOperand ops max ls x → AreTerms ls → Good most x
  good_operand most ops _ _ _ (leaf_term max cells ls) t = (λ h. t.0, t.1)
  good_operand most ops _ _ _ (integer max n ls small) t = (λ h. refl, t)
  good_operand most ops _ _ _ (negative max called n ls) t = (λ h. refl, t)
  good_operand most ops _ _ _ (compound max called signs count cells ls rest args) t =
      let a = good_arguments most ops count cells ls rest args t in
      (makes_compound most called count cells (a.0) (a.1), a.2)
  good_operand most ops _ _ _ (prefix_operator max called signs op ls x plain here inner) t =
      let g = good_term most ops _ ls x inner t in
      (makes_compound most called 1 (x.cells) (omega arith) (g.0), g.1)
  good_operand most ops _ _ _ (atom max called signs ls plain here) t = (λ h. refl, t)
  good_operand most ops _ _ _ (parentheses max ls rest x inner closed) t =
      let g = good_term most ops 1200 ls x inner t in
      (g.0, behind (x.rest) (closes ∷ rest) (g.1) closed)
  good_operand most ops _ _ _ (call_parentheses max ls rest x inner closed) t =
      let g = good_term most ops 1200 ls x inner t in
      (g.0, behind (x.rest) (closes ∷ rest) (g.1) closed)
  good_operand most ops _ _ _ (empty_braces max ls) t = (λ h. refl, t)
  good_operand most ops _ _ _ (braces max ls rest x inner closed) t =
      let g = good_term most ops 1200 ls x inner t in
      (makes_compound most (codes "{}") 1 (x.cells) (omega arith) (g.0), behind (x.rest) (braces_close ∷ rest) (g.1) closed)
  good_operand most ops _ _ _ (no_elements max ls) t = (λ h. refl, t)
  good_operand most ops _ _ _ (list max cells ls rest items) t = good_elements most ops cells ls rest items t

  good_arguments : (most : ℕ) (ops : Ops) (count : ℕ) (cells : List Cell) (ls rest : List Lexeme) → ReadsArguments ops count cells ls rest → AreTerms ls → Terms most count cells rest
  good_arguments most ops _ _ _ _ (last_argument ls rest x inner closed) t =
      let g = good_term most ops 999 ls x inner t in
      (omega arith, g.0, behind (x.rest) (closes ∷ rest) (g.1) closed)
  good_arguments most ops _ _ _ _ (argument count cells ls more rest x inner closed args) t =
      let g = good_term most ops 999 ls x inner t in
      let a = good_arguments most ops count cells more rest args (behind (x.rest) (comma ∷ more) (g.1) closed) in
      let e : 1 + count ≡ suc count = omega arith in
      (omega arith, subst (λ n. Makes most n (x.cells ++ cells)) e (makes-append most 1 count (x.cells) cells (g.0) (a.1)), a.2)

  good_elements : (most : ℕ) (ops : Ops) (cells : List Cell) (ls rest : List Lexeme) → ReadsElements ops cells ls rest → AreTerms ls → Makes most 1 cells × AreTerms rest
  good_elements most ops _ _ _ (last_element ls rest x inner closed) t =
      let g = good_term most ops 999 ls x inner t in
      (makes_compound most (codes ".") 2 (x.cells ++ empty_list ∷ []) (omega arith) (makes-append most 1 1 (x.cells) (empty_list ∷ []) (g.0) (λ h. refl)), behind (x.rest) (list_closes ∷ rest) (g.1) closed)
  good_elements most ops _ _ _ (element cells ls more rest x inner closed items) t =
      let g = good_term most ops 999 ls x inner t in
      let a = good_elements most ops cells more rest items (behind (x.rest) (comma ∷ more) (g.1) closed) in
      (makes_compound most (codes ".") 2 (x.cells ++ cells) (omega arith) (makes-append most 1 1 (x.cells) cells (g.0) (a.0)), a.1)
  good_elements most ops _ _ _ (last_and_tail ls more rest x y inner closed after ended_so) t =
      let g = good_term most ops 999 ls x inner t in
      let b = good_term most ops 999 more y after (behind (x.rest) (bar ∷ more) (g.1) closed) in
      (makes_compound most (codes ".") 2 (x.cells ++ y.cells) (omega arith) (makes-append most 1 1 (x.cells) (y.cells) (g.0) (b.0)), behind (y.rest) (list_closes ∷ rest) (b.1) ended_so)

  good_goes : (most : ℕ) (ops : Ops) (max : ℕ) (left y : Read) → GoesOn ops max left y → Good most left → Good most y
  good_goes most ops _ _ _ (ends max left none) g = g
  good_goes most ops _ _ _ (operator max left x y op some inner more) g =
      let r = good_term most ops _ _ x inner (infix_terms ops (left.rest) op (g.1) (admitted_is ops max (left.priority) (infix_at ops (left.rest)) op some)) in
      good_goes most ops max (joined left op x) y more (makes_compound most _ 2 (left.cells ++ x.cells) (omega arith) (makes-append most 1 1 (left.cells) (x.cells) (g.0) (r.0)), r.1)
