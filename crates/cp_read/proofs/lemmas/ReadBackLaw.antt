-- The quoted text of a term is read as the term.
use Rattle.std.proofs.Common.{◌≡◌, ℕ, suc, ◌+◌, ◌-◌, ◌<◌, ◌≤◌, ◌^◌, true, false, cond, List, [], ◌∷◌, ◌++◌, length, refl, sym, ◌∙◌, ap, subst, arith, append-nil}
use Rattle.std.specs.Prelude.{nat_lt, nat_le, nat_eq, ◌&&◌, Option, Some, Result, Ok, Err, IsTrue, codes}
use Rattle.std.specs.List.{list_all}
use Rattle.std.proofs.lemmas.Bool.{and_parts, and_from, leb-true, ltb-true, lt-ltb}
use Rattle.std.proofs.lemmas.Bool.Decides.{Decides-eqb}
use Rattle.std.proofs.lemmas.List.{drop_all, length-append}
use Rattle.cp_term.specs.declared.cell.Cell.{Cell}
use Rattle.cp_term.specs.declared.cell.Cell.TheVariants.{Var, Int, Atom, Func}
use Rattle.cp_term.specs.Preorder.{IsTerm}
use Rattle.cp_term.specs.Numbering.{is_numbered_from, IsNumbered}
use Rattle.cp_lex.specs.declared.token.Token.{Token}
use Rattle.cp_ops.specs.Operators.{Ops, IsTable}
use Rattle.cp_ops.specs.Text.{quoting, text_of}
use Rattle.cp_read.specs.declared.bounds.Bounds.{Bounds}
use Rattle.cp_read.specs.Lexemes.{clause_ends, lexemes}
use Rattle.cp_read.specs.Grammar.{primary, clause}
use Rattle.cp_read.specs.Derivation.{ReadsTerm, ReadsClause, clause_is}
use Rattle.cp_read.specs.Clauses.{fits, cell_fits, Clause, Fault, from_lexemes, clause_by, clause_of, next_clause, line_of}
use Rattle.cp_read.specs.Pieces.{Piece, pieces_text, spelled, AreLawful, variables_of, PiecesAreRead}
use Rattle.cp_read.specs.ReadBack.{found, found_by, found_in, read_text, is_proper, ReadsBack}
use Rattle.cp_read.proofs.lemmas.Complete.{complete_clause}
use Rattle.cp_read.proofs.lemmas.Spelling.{Each, none, one, Spelling, cells_of, spellings}
use Rattle.cp_read.proofs.lemmas.SpellingText.{first_of_spellings, spelling-text}
use Rattle.cp_read.proofs.lemmas.Surroundings.{lexed, at_end, beyond_end}
use Rattle.cp_read.proofs.lemmas.SpellingReads.{IsRead, read_before, read_closed}
use Rattle.cp_read.proofs.lemmas.SpellingFold.{is_numbered, are_the_terms, each-holds}
use Rattle.cp_read.proofs.lemmas.SpellingVariables.{numbered_variables, KeepsVariables, keeps_variables}
use Rattle.cp_read.proofs.lemmas.Beside.{meets_none}
use Rattle.cp_read.proofs.lemmas.SpellingLawful.{HasLawful, has_lawful}

-- ---- from tokens to the clause

no_tokens_left : (ts : List Token) → from_lexemes ts [] ≡ []
no_tokens_left ts = drop_all (length ts - 0) ts (omega arith)

clause_fits : (bounds : Bounds) (ts : List Token) (cells : List Cell) → fits bounds cells ≡ true →
    clause_by bounds ts (primary cells []) ≡ Ok (record { cells = cells; line = line_of ts; rest = [] })
clause_fits bounds ts cells h = rw (h, no_tokens_left ts) refl

-- the tokens are some, since a clause was read from their lexemes
next_found : (bounds : Bounds) (ops : Ops) (ts : List Token) (cells : List Cell) (ps : List Piece) → lexemes [] ts ≡ lexed false ps → clause ops (lexed false ps) ≡ primary cells [] → fits bounds cells ≡ true →
    found_by (next_clause bounds ops ts) ≡ found cells []
next_found bounds ops [] cells ps e c h = absurd (let n : length (lexed false ps) ≡ length (spelled false ps) + 1 = length-append (spelled false ps) (clause_ends ∷ []) in let m : 0 ≡ length (lexed false ps) = ap (λ ls. length ls) e in omega (arith, n, m))
next_found bounds ops (t ∷ ts) cells ps e c h =
    let is : clause_of bounds ops (t ∷ ts) ≡ Ok (record { cells = cells; line = t.line; rest = [] }) =
    ap (λ ls. clause_by bounds (t ∷ ts) (clause ops ls)) e ∙ (ap (λ r. clause_by bounds (t ∷ ts) r) c ∙ clause_fits bounds (t ∷ ts) cells h) in
    ap (λ (r : Result Clause Fault). found_by (elim r as (λ _. Result (Option Clause) Fault) [ Ok c ↦ Ok (Some c) | Err f ↦ Err f ])) is

-- ---- one term

only : (P : Spelling → Type 0) (ts : List Spelling) → length ts ≡ 1 → Each P ts → P (first_of_spellings ts)
only P _ e none = absurd (omega (arith, e))
only P _ e (one t ts h hs) = h

only_cells : (ts : List Spelling) → length ts ≡ 1 → cells_of ts ≡ (first_of_spellings ts).cells
only_cells [] e = absurd (omega (arith, e))
only_cells (t ∷ []) e = append-nil (t.cells)
only_cells (t ∷ u ∷ ts) e = absurd (omega (arith, e))

-- the pieces of a term and the end of the clause are read as the clause
reads_clause : (ops : Ops) (t : Spelling) → IsRead ops t → ReadsClause ops (t.cells) (lexed false (t.pieces)) []
reads_clause ops t h =
    clause_is (lexed false (t.pieces)) [] (read_before t [])
    (subst (λ ps. ReadsTerm ops 1200 (lexed false ps) (read_before t [])) (append-nil (t.pieces)) (read_closed ops t false 1200 [] h (h.low) at_end (beyond_end ops 1200))) refl

module _ (pieces_are_read : PiecesAreRead) (ops : Ops) (table : IsTable ops) (bounds : Bounds) (cells : List Cell) (h : fits bounds cells ≡ true) where
  spelling_read : (t : Spelling) → t.cells ≡ cells → IsRead ops t → HasLawful t → KeepsVariables t → is_numbered_from 0 cells ≡ true → read_text bounds ops (pieces_text (t.pieces) ++ codes " .") ≡ found cells []
  spelling_read t same read lawful variables numbered =
      let ps = t.pieces in
      let l : AreLawful ps = lawful.pieces.lawful false (codes " .") (record { soft = refl; apart = meets_none (pieces_text ps) (codes " .") refl }) in
      let v : IsNumbered (variables_of ps) = ap (is_numbered_from 0) (variables.same) ∙ (numbered_variables 0 (t.cells) ∙ (ap (is_numbered_from 0) same ∙ numbered)) in
      let r = pieces_are_read ps l v in
      let c : clause ops (lexed false ps) ≡ primary cells [] = complete_clause ops (t.cells) (lexed false ps) [] (reads_clause ops t read) ∙ ap (λ cs. primary cs []) same in
      ap (λ ts. found_in bounds ops ts) (r.1) ∙ next_found bounds ops (r.0) cells ps (r.2) c h

-- variables that are numbered by first occurrence have no greater numbers than there are cells
narrow_from : (n : ℕ) (cells : List Cell) → is_numbered_from n cells ≡ true → n + length cells ≤ 2 ^ 64 → list_all is_numbered cells ≡ true
narrow_from n [] h le = refl
narrow_from n (Var v ∷ cells) h le =
    elim (nat_lt v n) as (λ b. nat_lt v n ≡ b → cond b (is_numbered_from n cells) (nat_eq v n && is_numbered_from (suc n) cells) ≡ true → (nat_lt v (2 ^ 64) && list_all is_numbered cells) ≡ true) [
      | true ↦ λ e g.
          let lt : v < n = ltb-true v n e in
          and_from (nat_lt v (2 ^ 64)) (list_all is_numbered cells) (lt-ltb v (2 ^ 64) (omega (arith, lt, le))) (narrow_from n cells g (omega (arith, le)))
      | false ↦ λ e g.
          let p = and_parts (nat_eq v n) (is_numbered_from (suc n) cells) g in
          let same : v ≡ n = (Decides-eqb v n).0 (p.0) in
          and_from (nat_lt v (2 ^ 64)) (list_all is_numbered cells) (lt-ltb v (2 ^ 64) (omega (arith, same, le))) (narrow_from (suc n) cells (p.1) (omega (arith, le)))
    ] refl h
narrow_from n (Int i ∷ cells) h le = narrow_from n cells h (omega (arith, le))
narrow_from n (Atom a ∷ cells) h le = narrow_from n cells h (omega (arith, le))
narrow_from n (Func f k ∷ cells) h le = narrow_from n cells h (omega (arith, le))

-- the law, of a term whose variables have numbers of 64 bits
pub reads_back : PiecesAreRead → (ops : Ops) (bounds : Bounds) (cells : List Cell) → IsTable ops → IsTerm cells → IsNumbered cells → IsTrue (list_all is_proper cells) → IsTrue (list_all is_numbered cells) → IsTrue (fits bounds cells) →
    read_text bounds ops (text_of quoting ops cells ++ codes " .") ≡ found cells []
reads_back pieces_are_read ops bounds cells table term numbered proper narrow h =
    let r = are_the_terms ops table 1 cells term proper in
    let ts = spellings ops cells in
    let t = first_of_spellings ts in
    let same : t.cells ≡ cells = sym (only_cells ts (r.many)) ∙ r.same in
    let lawful = only HasLawful ts (r.many) (each-holds ops HasLawful (has_lawful ops table) cells proper narrow) in
    let variables = only KeepsVariables ts (r.many) (each-holds ops KeepsVariables (keeps_variables ops) cells proper narrow) in
    ap (λ text. read_text bounds ops (text ++ codes " .")) (spelling-text ops cells)
    ∙ spelling_read pieces_are_read ops table bounds cells h t same (only (IsRead ops) ts (r.many) (r.each)) lawful variables numbered

-- so it is within bounds that are numbers of 32 bits
pub reads_back_within_bounds : PiecesAreRead → ReadsBack
reads_back_within_bounds pieces_are_read ops bounds cells small table term numbered proper h =
    let few : length cells ≤ bounds.cells = leb-true (length cells) (bounds.cells) ((and_parts (nat_le (length cells) (bounds.cells)) (list_all (cell_fits (bounds.name)) cells) h).0) in
    reads_back pieces_are_read ops bounds cells table term numbered proper (narrow_from 0 cells numbered (omega (arith, few, small))) h
