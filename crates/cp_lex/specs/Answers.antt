-- What the calls answer.
use Rattle.std.specs.Prelude.{◌≡◌, ⊤, List, Result, Ok, Err}
use Rattle.cp_lex.specs.declared.error.LexError.{LexError}
use Rattle.cp_lex.specs.declared.error.LexError.TheVariants.{Lex, NoMemory}
use Rattle.cp_lex.specs.declared.token.Token.{Token}
use Rattle.cp_lex.specs.declared.token.Refusal.{Refusal}

-- What a call answered is the definition's answer, unless memory ran out.
abbrev pub Lexes : Result (List Token) LexError → Result (List Token) Refusal → Type 0
Lexes (Ok ts) given = given ≡ Ok ts
Lexes (Err NoMemory) given = ⊤
Lexes (Err (Lex line why)) given = given ≡ Err (record { line = line; why = why })
