-- Worked examples of pieces: their text, whether they are lawful, and what they are read as.
use Rattle.std.proofs.Common.{◌≡◌, ◌^◌, true, false, List, [], ◌∷◌, ◌++◌, refl, Ok, Err}
use Rattle.std.specs.Prelude.{Result, codes}
use Rattle.std.specs.Fmt.{digits as figures}
use Rattle.std.specs.Str.{chars, is_utf8}
use Rattle.std.specs.Str.Lossy.{utf8_valid_len}
use Rattle.std.specs.Char.{encode_utf8}
use Prim.Native.String.{String}
use Rattle.cp_term.specs.declared.cell.Cell.TheVariants.{Var}
use Rattle.cp_lex.specs.declared.token.Token.{Token}
use Rattle.cp_lex.specs.declared.token.Refusal.{Refusal}
use Rattle.cp_lex.specs.Tokens.{tokens}
use Rattle.cp_read.specs.Lexemes.{Lexeme, leaf, number, name, call_opens, opens, closes, clause_ends, lexemes}
use Rattle.cp_read.specs.Pieces.{Piece, variable, digits, word, quoted, sign, space, pieces_text, spelled, are_lawful}

abbrev named : String → Piece
named s = word (codes s)

abbrev in_any_case : String → Piece
in_any_case s = quoted (codes s)

abbrev opening : Piece
opening = sign 40

abbrev closing : Piece
closing = sign 41

abbrev lexemes_by : Result (List Token) Refusal → List Lexeme
lexemes_by (Ok ts) = lexemes [] ts
lexemes_by (Err e) = []

-- The pieces are lawful and have this text, and they and what the text is read as are these lexemes.
abbrev Are : List Piece → String → List Lexeme → Type 0
Are ps s ls =
    (are_lawful false ps (codes " .") ≡ true) × (pieces_text ps ≡ codes s) × (spelled false ps ≡ ls) × (lexemes_by (tokens (codes s ++ codes " .")) ≡ ls ++ clause_ends ∷ [])

abbrev Unlawful : List Piece → Type 0
Unlawful ps = are_lawful false ps (codes " .") ≡ false

abbrev plain : String → Lexeme
plain s = name (codes s) false

minus_minus : Are (digits 1 ∷ named "-" ∷ space ∷ named "-" ∷ digits 1 ∷ []) "1- -1" (number 1 ∷ plain "-" ∷ name (codes "-") true ∷ number 1 ∷ [])
unfolding figures utf8_valid_len is_utf8 chars encode_utf8
minus_minus = (refl, refl, refl, refl)

sign_apart : Are (named "-" ∷ space ∷ digits 1 ∷ []) "- 1" (plain "-" ∷ number 1 ∷ [])
unfolding figures utf8_valid_len is_utf8 chars encode_utf8
sign_apart = (refl, refl, refl, refl)

empty_list_functor : Are (in_any_case "[]" ∷ opening ∷ variable 0 ∷ closing ∷ []) "'[]'(_0)" (plain "[]" ∷ call_opens ∷ leaf (Var 0 ∷ []) ∷ closes ∷ [])
unfolding figures utf8_valid_len is_utf8 chars encode_utf8
empty_list_functor = (refl, refl, refl, refl)

argument : Are (named "f" ∷ opening ∷ opening ∷ named ":-" ∷ space ∷ named "a" ∷ closing ∷ closing ∷ []) "f((:- a))" (plain "f" ∷ call_opens ∷ opens ∷ plain ":-" ∷ plain "a" ∷ closes ∷ closes ∷ [])
unfolding figures utf8_valid_len is_utf8 chars encode_utf8
argument = (refl, refl, refl, refl)

escapes : Are (word (7 ∷ 10 ∷ 39 ∷ 92 ∷ 127 ∷ []) ∷ []) "'\\x7\\\\n\\'\\\\\\x7f\\'" (name (7 ∷ 10 ∷ 39 ∷ 92 ∷ 127 ∷ []) false ∷ [])
unfolding figures utf8_valid_len is_utf8 chars encode_utf8
escapes = (refl, refl, refl, refl)

begins_a_comment : Are (digits 0 ∷ space ∷ named "/*" ∷ space ∷ digits 1 ∷ []) "0 '/*' 1" (number 0 ∷ plain "/*" ∷ number 1 ∷ [])
unfolding figures utf8_valid_len is_utf8 chars encode_utf8
begins_a_comment = (refl, refl, refl, refl)

least : Are (named "-" ∷ digits (2 ^ 63) ∷ []) "-9223372036854775808" (name (codes "-") true ∷ number (2 ^ 63) ∷ [])
unfolding figures utf8_valid_len is_utf8 chars encode_utf8
least = (refl, refl, refl, refl)

-- tokens that would be one, or no token
meeting_symbols : Unlawful (named "-" ∷ named "-" ∷ [])
unfolding figures utf8_valid_len is_utf8 chars encode_utf8
meeting_symbols = refl

digits_in_a_name : Unlawful (named "a" ∷ digits 1 ∷ [])
unfolding figures utf8_valid_len is_utf8 chars encode_utf8
digits_in_a_name = refl

character_code : Unlawful (digits 0 ∷ in_any_case "a" ∷ [])
unfolding figures utf8_valid_len is_utf8 chars encode_utf8
character_code = refl

doubled_quote : Unlawful (in_any_case "a" ∷ in_any_case "b" ∷ [])
unfolding figures utf8_valid_len is_utf8 chars encode_utf8
doubled_quote = refl

comment : Unlawful (named "/" ∷ named "*" ∷ [])
unfolding figures utf8_valid_len is_utf8 chars encode_utf8
comment = refl

least_apart : Unlawful (named "-" ∷ space ∷ digits (2 ^ 63) ∷ [])
unfolding figures utf8_valid_len is_utf8 chars encode_utf8
least_apart = refl

least_behind_quotes : Unlawful (in_any_case "-" ∷ digits (2 ^ 63) ∷ [])
unfolding figures utf8_valid_len is_utf8 chars encode_utf8
least_behind_quotes = refl
