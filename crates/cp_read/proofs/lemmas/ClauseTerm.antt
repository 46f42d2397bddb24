-- A clause that is within the bounds is one term with its variables numbered, so it is the value of a `Term`.
use Rattle.std.proofs.Common.{◌≡◌, ℕ, suc, Bool, true, false, cond, ◌&&◌, List, [], ◌∷◌, ◌++◌, length, refl}
use Rattle.std.proofs.lemmas.Bool.{and_parts, and_from}
use Rattle.std.specs.Prelude.{nat_lt, nat_eq, nat_le, ◌^◌, codes, pos}
use Rattle.std.specs.List.{flat_map, list_all}
use Rattle.std.specs.Str.{chars, is_utf8}
use Rattle.cp_term.specs.declared.cell.Cell.{Cell}
use Rattle.cp_term.specs.declared.cell.Cell.TheVariants.{Var, Int, Atom, Func}
use Rattle.cp_char.specs.Characters.{◌∈◌}
use Rattle.cp_term.specs.Preorder.{is_terms, IsTerm}
use Rattle.cp_term.specs.Numbering.{is_numbered_from, IsNumbered}
use Rattle.cp_lex.specs.declared.token.Token.{Token}
use Rattle.cp_lex.specs.declared.token.TokenKind.TheVariants as kinds
use Rattle.cp_ops.specs.Operators.{Ops}
use Rattle.cp_read.specs.Lexemes.{Lexeme, leaf, number, name, is_sign, code_list, opens, closes, list_opens, list_closes, braces_open, braces_close, comma, bar, stray, seen_behind, lexemes, lexeme_by, bracket}
use Rattle.cp_read.specs.Derivation.{ReadsClause, clause_is}
use Rattle.cp_read.specs.declared.bounds.Bounds.{Bounds}
use Rattle.cp_read.specs.Clauses.{cell_fits, fits}
use Rattle.cp_read.proofs.lemmas.WellFormed.{AreTerms, good_term}
use Rattle.cp_read.proofs.lemmas.Numbered.{leaves, numbered_term}

numbered_front : (n : ℕ) (a b : List Cell) → is_numbered_from n (a ++ b) ≡ true → is_numbered_from n a ≡ true
numbered_front n [] b h = refl
numbered_front n (Var v ∷ a) b h =
    elim (nat_lt v n) as (λ t. cond t (is_numbered_from n (a ++ b)) (nat_eq v n && is_numbered_from (suc n) (a ++ b)) ≡ true → cond t (is_numbered_from n a) (nat_eq v n && is_numbered_from (suc n) a) ≡ true) [
      | true ↦ λ g. numbered_front n a b g
      | false ↦ λ g. let p = and_parts (nat_eq v n) (is_numbered_from (suc n) (a ++ b)) g in and_from (nat_eq v n) (is_numbered_from (suc n) a) (p.0) (numbered_front (suc n) a b (p.1))
    ] h
numbered_front n (Int i ∷ a) b h = numbered_front n a b h
numbered_front n (Atom x ∷ a) b h = numbered_front n a b h
numbered_front n (Func f k ∷ a) b h = numbered_front n a b h

code_terms : (cs : List ℕ) → is_terms 1 (flat_map (λ c. Func (codes ".") 2 ∷ Int (pos c) ∷ []) cs ++ Atom (codes "[]") ∷ []) ≡ true
code_terms [] = refl
code_terms (c ∷ cs) = code_terms cs

-- a lexeme that is no leaf, and a choice of two such
abbrev Passes : Lexeme → Type 0
Passes l = (ls : List Lexeme) → AreTerms ls → AreTerms (l ∷ ls)

either : (b : Bool) (l m : Lexeme) → Passes l → Passes m → Passes (cond b l m)
either true l m f g = f
either false l m f g = g

bracket_terms : (c : ℕ) → Passes (bracket c)
bracket_terms c =
    either (c ∈ "(") opens _ (λ ls t. t) (either (c ∈ ")") closes _ (λ ls t. t) (either (c ∈ "[") list_opens _ (λ ls t. t) (either (c ∈ "]") list_closes _ (λ ls t. t)
    (either (c ∈ "{") braces_open _ (λ ls t. t) (either (c ∈ "}") braces_close _ (λ ls t. t) (either (c ∈ ",") comma _ (λ ls t. t) (either (c ∈ "|") bar stray (λ ls t. t) (λ ls t. t))))))))

lexeme_terms : (seen : List (List ℕ)) (ts : List Token) → AreTerms (lexemes seen ts)
lexeme_terms seen [] = tt
lexeme_terms seen (t ∷ ts) =
    elim (t.kind) as (λ k. AreTerms (lexemes (seen_behind seen k) ts) → AreTerms (lexeme_by k seen t ts ∷ lexemes (seen_behind seen k) ts)) [
      | kinds.Word called ↦ λ h. either (is_utf8 called) (name called (is_sign t called ts)) stray (λ ls t. t) (λ ls t. t) (lexemes seen ts) h
      | kinds.Variable called ↦ λ h. (refl, h)
      | kinds.Int n ↦ λ h. either (nat_le n (2 ^ 63)) (number n) stray (λ ls t. t) (λ ls t. t) (lexemes seen ts) h
      | kinds.Text bytes ↦ λ h. elim (is_utf8 bytes) as (λ b. AreTerms (cond b (leaf (code_list bytes)) stray ∷ lexemes seen ts)) [ true ↦ (code_terms (chars bytes), h) | false ↦ h ]
      | kinds.Punct c ↦ λ h. bracket_terms c (lexemes seen ts) h
      | kinds.OpenCall ↦ λ h. h
      | kinds.End ↦ λ h. h
    ] (lexeme_terms (seen_behind seen (t.kind)) ts)

pub clause_term : (ops : Ops) (bounds : Bounds) (ts : List Token) (cells : List Cell) (rest : List Lexeme) → ReadsClause ops cells (lexemes [] ts) rest → fits bounds cells ≡ true → IsTerm cells × IsNumbered cells
clause_term ops bounds ts _ _ (clause_is ls rest x inner closed) h =
    let p = and_parts (nat_le (length (x.cells)) (bounds.cells)) (list_all (cell_fits (bounds.name)) (x.cells)) h in
    let good = good_term (bounds.name) ops 1200 (lexemes [] ts) x inner (lexeme_terms [] ts) in
    (good.0 (p.1), numbered_front 0 (x.cells) (leaves (x.rest)) (numbered_term ops 1200 ts x inner))
