-- The first lexeme is what the first token was taken for.
use Rattle.std.proofs.Common.{◌≡◌, ℕ, ◌+◌, ◌^◌, Bool, true, false, cond, List, [], ◌∷◌, refl, sym, ◌∙◌, ap, ◌&&◌}
use Rattle.std.proofs.lemmas.Bool.{le-leb}
use Rattle.std.specs.Prelude.{Some, drop, codes, ◌==◌}
use Rattle.std.specs.Str.{bytes_eq}
use Rattle.std.specs.Borrow.{Bor}
use Rattle.cp_term.specs.declared.cell.Cell.TheVariants.{Var}
use Rattle.cp_lex.specs.declared.token.Token.{Token}
use Rattle.cp_lex.specs.declared.token.TokenKind.{TokenKind}
use Rattle.cp_lex.specs.declared.token.TokenKind.TheVariants as kinds
use Rattle.cp_read.specs.declared.look.Look.TheVariants as looks
use Rattle.cp_read.specs.Look.{IsFront, signs}
use Rattle.cp_read.specs.Lexemes.{Lexeme, leaf, number, name, call_opens, opens, closes, list_opens, list_closes, braces_open, braces_close, comma, bar, clause_ends, stray, lexemes, lexeme_by, seen_behind, variable_number, code_list, is_sign, int_at, bracket}

both : (a b c : Bool) → (a && b && c) ≡ ((a && b) && c)
both true b c = refl
both false b c = refl

sign-is : (t : Token) (ts : List Token) (called : List ℕ) → t.kind ≡ kinds.Word called → is_sign t called ts ≡ signs (t ∷ ts)
sign-is t ts called h =
    both (bytes_eq called (codes "-")) (t.to == t.from + 1) (int_at t.to ts)
    ∙ sym (ap (λ (k : TokenKind). elim k as (λ _. Bool) [
      | kinds.Word called ↦ bytes_eq called (codes "-") && t.to == t.from + 1
      | kinds.Variable called ↦ false
      | kinds.Int n ↦ false
      | kinds.Text bytes ↦ false
      | kinds.Punct c ↦ false
      | kinds.OpenCall ↦ false
      | kinds.End ↦ false
    ] && int_at t.to ts) h)

by_kind : (list : List (List ℕ)) (t : Token) (ts : List Token) (k : TokenKind) → t.kind ≡ k → lexemes list (t ∷ ts) ≡ lexeme_by k list t ts ∷ lexemes (seen_behind list k) ts
by_kind list t ts k h = ap (λ (k : TokenKind). lexeme_by k list t ts ∷ lexemes (seen_behind list k) ts) h

pub front_variable : (called : Bor (List ℕ)) (list : List (List ℕ)) (ts : List Token) → IsFront (Some (looks.Variable called)) ts →
    lexemes list ts ≡ leaf (Var (variable_number list called.now) ∷ []) ∷ lexemes (seen_behind list (kinds.Variable called.now)) (drop 1 ts)
front_variable called list [] h = absurd h
front_variable called list (t ∷ ts) h = by_kind list t ts (kinds.Variable called.now) h

pub front_text : (bytes : Bor (List ℕ)) (list : List (List ℕ)) (ts : List Token) → IsFront (Some (looks.Text bytes)) ts → lexemes list ts ≡ leaf (code_list bytes.now) ∷ lexemes list (drop 1 ts)
front_text bytes list [] h = absurd h
front_text bytes list (t ∷ ts) h = by_kind list t ts (kinds.Text bytes.now) (h.0) ∙ ap (λ (b : Bool). cond b (leaf (code_list bytes.now)) stray ∷ lexemes list ts) (h.1)

pub front_number : (n : ℕ) (list : List (List ℕ)) (ts : List Token) → IsFront (Some (looks.Number n)) ts → lexemes list ts ≡ number n ∷ lexemes list (drop 1 ts)
front_number n list [] h = absurd h
front_number n list (t ∷ ts) h = by_kind list t ts (kinds.Int n) (h.0) ∙ ap (λ (b : Bool). cond b (number n) stray ∷ lexemes list ts) (le-leb n (2 ^ 63) (h.1))

pub front_word : (called : Bor (List ℕ)) (list : List (List ℕ)) (ts : List Token) → IsFront (Some (looks.Word called)) ts → lexemes list ts ≡ name called.now (signs ts) ∷ lexemes list (drop 1 ts)
front_word called list [] h = absurd h
front_word called list (t ∷ ts) h =
    by_kind list t ts (kinds.Word called.now) (h.0)
    ∙ ap (λ (b : Bool). cond b (name called.now (is_sign t called.now ts)) stray ∷ lexemes list ts) (h.1)
    ∙ ap (λ (b : Bool). name called.now b ∷ lexemes list ts) (sign-is t ts called.now (h.0))

pub front_call : (list : List (List ℕ)) (ts : List Token) → IsFront (Some looks.CallOpens) ts → lexemes list ts ≡ call_opens ∷ lexemes list (drop 1 ts)
front_call list [] h = absurd h
front_call list (t ∷ ts) h = by_kind list t ts kinds.OpenCall h

pub front_end : (list : List (List ℕ)) (ts : List Token) → IsFront (Some looks.ClauseEnds) ts → lexemes list ts ≡ clause_ends ∷ lexemes list (drop 1 ts)
front_end list [] h = absurd h
front_end list (t ∷ ts) h = by_kind list t ts kinds.End h

sign : (c : ℕ) (l : Lexeme) (list : List (List ℕ)) (t : Token) (ts : List Token) → t.kind ≡ kinds.Punct c → bracket c ≡ l → lexemes list (t ∷ ts) ≡ l ∷ lexemes list ts
sign c l list t ts h e = by_kind list t ts (kinds.Punct c) h ∙ ap (λ (l : Lexeme). l ∷ lexemes list ts) e

module _ (list : List (List ℕ)) where
  pub front_opens : (ts : List Token) → IsFront (Some looks.Opens) ts → lexemes list ts ≡ opens ∷ lexemes list (drop 1 ts)
  front_opens [] h = absurd h
  front_opens (t ∷ ts) h = sign 40 opens list t ts h refl

  pub front_closes : (ts : List Token) → IsFront (Some looks.Closes) ts → lexemes list ts ≡ closes ∷ lexemes list (drop 1 ts)
  front_closes [] h = absurd h
  front_closes (t ∷ ts) h = sign 41 closes list t ts h refl

  pub front_list_opens : (ts : List Token) → IsFront (Some looks.ListOpens) ts → lexemes list ts ≡ list_opens ∷ lexemes list (drop 1 ts)
  front_list_opens [] h = absurd h
  front_list_opens (t ∷ ts) h = sign 91 list_opens list t ts h refl

  pub front_list_closes : (ts : List Token) → IsFront (Some looks.ListCloses) ts → lexemes list ts ≡ list_closes ∷ lexemes list (drop 1 ts)
  front_list_closes [] h = absurd h
  front_list_closes (t ∷ ts) h = sign 93 list_closes list t ts h refl

  pub front_braces_open : (ts : List Token) → IsFront (Some looks.BracesOpen) ts → lexemes list ts ≡ braces_open ∷ lexemes list (drop 1 ts)
  front_braces_open [] h = absurd h
  front_braces_open (t ∷ ts) h = sign 123 braces_open list t ts h refl

  pub front_braces_close : (ts : List Token) → IsFront (Some looks.BracesClose) ts → lexemes list ts ≡ braces_close ∷ lexemes list (drop 1 ts)
  front_braces_close [] h = absurd h
  front_braces_close (t ∷ ts) h = sign 125 braces_close list t ts h refl

  pub front_comma : (ts : List Token) → IsFront (Some looks.Comma) ts → lexemes list ts ≡ comma ∷ lexemes list (drop 1 ts)
  front_comma [] h = absurd h
  front_comma (t ∷ ts) h = sign 44 comma list t ts h refl

  pub front_bar : (ts : List Token) → IsFront (Some looks.Bar) ts → lexemes list ts ≡ bar ∷ lexemes list (drop 1 ts)
  front_bar [] h = absurd h
  front_bar (t ∷ ts) h = sign 124 bar list t ts h refl
