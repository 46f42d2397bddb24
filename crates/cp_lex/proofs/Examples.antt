-- Worked examples, which the definitions compute.
use Rattle.std.proofs.Common.{◌≡◌, ℕ, List, [], ◌∷◌, map, refl, Some, None}
use Rattle.std.specs.Prelude.{codes, Option}
use Rattle.std.specs.Char.{encode_utf8}
use Rattle.std.specs.Str.{is_utf8, chars}
use Rattle.std.specs.Str.Lossy.{utf8_valid_len}
use Prim.Native.String.{String}
use Rattle.cp_lex.specs.declared.error.LexWhy.{LexWhy}
use Rattle.cp_lex.specs.declared.error.LexWhy.TheVariants.{BadUtf8, OpenQuote, OpenComment, BadEscape, WideNumber, Float, StrayByte}
use Rattle.cp_lex.specs.declared.token.TokenKind.{TokenKind}
use Rattle.cp_lex.specs.declared.token.TokenKind.TheVariants.{Word, Variable, Int, Text, Punct, OpenCall, End}
use Rattle.cp_lex.specs.declared.token.Refusal.{Refusal}
use Rattle.cp_lex.specs.Tokens.{utf8_scan, scan}

-- the kinds of the tokens of an ASCII text before the first refusal, and that refusal
abbrev kinds : String → List TokenKind × Option Refusal
kinds s = (map (λ t. t.kind) (utf8_scan (codes s)).tokens, (utf8_scan (codes s)).refusal)

abbrev Says : String → List TokenKind → Type 0
Says s ks = kinds s ≡ (ks, None)

abbrev Refuses : String → List TokenKind → ℕ → LexWhy → Type 0
Refuses s ks line why = kinds s ≡ (ks, Some (record { line = line; why = why }))

abbrev word : String → TokenKind
word s = Word (codes s)

sum : Says "a -1." (word "a" ∷ word "-" ∷ Int 1 ∷ End ∷ [])
sum = refl

call : Says "f(-)." (word "f" ∷ OpenCall ∷ word "-" ∷ Punct 41 ∷ End ∷ [])
call = refl

apart : Says "f (X_1)" (word "f" ∷ Punct 40 ∷ Variable (codes "X_1") ∷ Punct 41 ∷ [])
apart = refl

places : (utf8_scan (codes "a\n  bc")).tokens ≡ record { kind = word "a"; from = 0; to = 1; line = 1 } ∷ record { kind = word "bc"; from = 4; to = 6; line = 2 } ∷ []
places = refl

float : Refuses "X is 1.5." (Variable (codes "X") ∷ word "is" ∷ []) 1 Float
float = refl

open_quote : Refuses "\n'a" [] 2 OpenQuote
open_quote = refl

open_comment : Refuses "a /* b\n" (word "a" ∷ []) 1 OpenComment
open_comment = refl

comments : Says "a/* b */c % d\n. e" (word "a" ∷ word "c" ∷ End ∷ word "e" ∷ [])
comments = refl

comment_alone : Says "/*/ a */b" (word "b" ∷ [])
comment_alone = refl

string : Says "\"ab\"." (Text (codes "ab") ∷ End ∷ [])
string = refl

doubled : Says "'it''s' \"a\"\"b\"" (word "it's" ∷ Text (codes "a\"b") ∷ [])
doubled = refl

escapes : Says "'\\n\\x41\\\\101\\\\0\\\nb\\0'" (Word (10 ∷ 65 ∷ 65 ∷ 0 ∷ 10 ∷ 98 ∷ 0 ∷ []) ∷ [])
unfolding encode_utf8
escapes = refl

past_ascii : (utf8_scan (codes "'\\xe9\\'")).tokens ≡ record { kind = Word (195 ∷ 169 ∷ []); from = 0; to = 7; line = 1 } ∷ []
unfolding encode_utf8
past_ascii = refl

bad_escape : Refuses "'a\n\\q'" [] 2 BadEscape
bad_escape = refl

-- a bad escape counts only where the text is closed
open_before_bad : Refuses "'a\n\\q" [] 1 OpenQuote
open_before_bad = refl

surrogate : Refuses "'\\xd800\\'" [] 1 BadEscape
surrogate = refl

characters : Says "0'a 0''' 0'\\n 0'  0'\\x41\\" (Int 97 ∷ Int 39 ∷ Int 10 ∷ Int 32 ∷ Int 65 ∷ [])
characters = refl

no_character : Refuses "0'" [] 1 StrayByte
no_character = refl

bases : Says "0x1F 0o17 0b101 0xg 0b2" (Int 31 ∷ Int 15 ∷ Int 5 ∷ Int 0 ∷ word "xg" ∷ Int 0 ∷ word "b2" ∷ [])
bases = refl

least : Says "-9223372036854775808" (word "-" ∷ Int 9223372036854775808 ∷ [])
least = refl

wide : Refuses "- 9223372036854775808" (word "-" ∷ []) 1 WideNumber
wide = refl

wide_behind_quotes : Refuses "'-'9223372036854775808" (word "-" ∷ []) 1 WideNumber
wide_behind_quotes = refl

symbols : Says "a:-b.c=..D.%" (word "a" ∷ word ":-" ∷ word "b" ∷ word "." ∷ word "c" ∷ word "=.." ∷ Variable (codes "D") ∷ End ∷ [])
symbols = refl

end_behind_symbols : Says "0'+. a/* */." (Int 43 ∷ End ∷ word "a" ∷ End ∷ [])
end_behind_symbols = refl

stray : Refuses "a\n`" (word "a" ∷ []) 2 StrayByte
stray = refl

bad_utf8 : scan (97 ∷ 39 ∷ 10 ∷ 255 ∷ []) ≡ record { tokens = []; refusal = Some (record { line = 2; why = BadUtf8 }) }
unfolding utf8_valid_len is_utf8 chars encode_utf8
bad_utf8 = refl
