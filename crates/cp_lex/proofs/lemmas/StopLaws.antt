-- What stands behind an End.
use Rattle.std.proofs.Common.{◌≡◌, ℕ, zero, suc, ◌+◌, ◌-◌, ◌<◌, true, false, cond, List, [], ◌∷◌, ◌++◌, length, take, drop, get_or, inl, inr, refl, sym, ◌∙◌, ap, subst, arith, Some, None}
use Rattle.std.specs.Prelude.{Option, not, ◌&&◌, ◌==◌}
use Rattle.std.specs.Char.{is_digit}
use Rattle.std.specs.Str.{IsUtf8}
use Rattle.std.specs.Str.Parse.{digits_value}
use Rattle.std.proofs.lemmas.Str.{IsUtf8-drop, IsCharBoundary-after_ascii}
use Rattle.std.proofs.lemmas.Bool.{cond_both, and_parts, or_cases, eqb-true}
use Rattle.bstr.specs.Utf8.{decoded}
use Rattle.cp_char.specs.Characters.{first, run, begins, ◌∈◌, newline, quote, double_quote, backslash, ends_clause}
use Rattle.cp_lex.specs.declared.error.LexWhy.TheVariants.{WideNumber, Float, StrayByte}
use Rattle.cp_lex.specs.declared.token.TokenKind.{TokenKind}
use Rattle.cp_lex.specs.declared.token.TokenKind.TheVariants.{Word, Variable, Int, Text, Punct, OpenCall, End}
use Rattle.cp_lex.specs.declared.token.Token.{Token}
use Rattle.cp_lex.specs.declared.token.Scan.{Scan}
use Rattle.cp_lex.specs.declared.before.Before.{Before}
use Rattle.cp_lex.specs.declared.before.Before.TheVariants.{Minus, OtherWord, NoWord}
use Rattle.cp_lex.specs.declared.start.Start.{Start}
use Rattle.cp_lex.specs.declared.start.Start.TheVariants.{Layout, LineComment, BlockComment, SmallLetter, CapitalLetter, Digit, ClauseEnd, Symbols, Solo, WordQuote, TextQuote, Bracket, Nothing}
use Rattle.cp_lex.specs.declared.piece.Piece.{Piece}
use Rattle.cp_lex.specs.declared.piece.Piece.TheVariants as pieces
use Rattle.cp_lex.specs.declared.escape.Escape.{Escape}
use Rattle.cp_lex.specs.declared.escape.Escape.TheVariants.{Bad, Character, Newline}
use Rattle.cp_lex.specs.declared.quoted.Quoted.{Quoted}
use Rattle.cp_lex.specs.declared.quoted.Quoted.TheVariants.{Closed, BadAt, Unended}
use Rattle.cp_lex.specs.Quoted.{escape, quoted}
use Rattle.cp_lex.specs.Lexical.{after, start, past_comment, comment, quoted_piece, is_wide, integer, begins_fraction, decimal, radix, escaped_character, quote_character, decoded_character, plain_character, character, number, bracket_token, piece_from, piece}
use Rattle.cp_lex.specs.Tokens.{newlines, Place, past, beginning, with_token, scan_from, utf8_scan}
use Rattle.cp_lex.specs.Laws.{moved_scan, IsReadAnew}
use Rattle.cp_lex.proofs.lemmas.InsideLaws.{Begins, begins-start}
use Rattle.cp_lex.proofs.lemmas.JoinLaws.{from_byte, further, further-scan, scan-utf8}

-- an End is one full stop
abbrev EndIsStop : TokenKind → ℕ → ℕ → Type 0
EndIsStop (Word name) n c = Unit {0}
EndIsStop (Variable name) n c = Unit {0}
EndIsStop (Int value) n c = Unit {0}
EndIsStop (Text bytes) n c = Unit {0}
EndIsStop (Punct sign) n c = Unit {0}
EndIsStop OpenCall n c = Unit {0}
EndIsStop End n c = (n ≡ 1) × (c ≡ 46)

abbrev IsStop : Piece → ℕ → Type 0
IsStop (pieces.Blank n) c = Unit {0}
IsStop (pieces.Token kind n) c = EndIsStop kind n c
IsStop (pieces.Refused why n) c = Unit {0}

module _ (c : ℕ) where
  abbrev Q : Piece → Type 0
  Q p = IsStop p c

  comment-stop : (o : Option ℕ) → Q (comment o)
  comment-stop None = tt
  comment-stop (Some n) = tt

  word-stop : (q : Quoted) → Q (quoted_piece (λ bytes. Word bytes) q)
  word-stop (Closed bytes n) = tt
  word-stop (BadAt n) = tt
  word-stop Unended = tt

  text-stop : (q : Quoted) → Q (quoted_piece (λ bytes. Text bytes) q)
  text-stop (Closed bytes n) = tt
  text-stop (BadAt n) = tt
  text-stop Unended = tt

  integer-stop : (b : Before) (value n : ℕ) → Q (integer b value n)
  integer-stop b value n = cond_both (is_wide b value) (pieces.Refused WideNumber 0) (pieces.Token (Int value) n) Q (λ _. tt) (λ _. tt)

  decimal-stop : (b : Before) (t : List ℕ) → Q (decimal b t)
  decimal-stop b t =
      let n : ℕ = run (λ d. is_digit d 10) t in
      let value : ℕ = digits_value 10 (take n t) in
      cond_both (not (is_wide b value) && begins_fraction (drop n t)) (pieces.Refused Float 0) (integer b value n) Q (λ _. tt) (λ _. integer-stop b value n)

  radix-stop : (b : Before) (base : ℕ) (t : List ℕ) → Q (radix b base t)
  radix-stop b base t =
      let n : ℕ = run (λ d. is_digit d base) (drop 2 t) in
      let value : ℕ = digits_value base (take n (drop 2 t)) in
      cond_both (n == 0) (decimal b t) (integer b value (2 + n)) Q (λ _. decimal-stop b t) (λ _. integer-stop b value (2 + n))

  escaped-stop : (e : Escape) → Q (escaped_character e)
  escaped-stop (Bad n) = tt
  escaped-stop (Character d n) = tt
  escaped-stop Newline = tt

  decoded-stop : (o : Option ℕ) (size : ℕ) → Q (decoded_character (record { char = o; size = size }))
  decoded-stop None size = tt
  decoded-stop (Some d) size = tt

  character-stop : (t : List ℕ) → Q (character t)
  character-stop [] = tt
  character-stop (d ∷ rest) =
      cond_both (d == backslash) (escaped_character (escape rest)) (cond (d == quote) (quote_character rest) (plain_character (d ∷ rest))) Q (λ _. escaped-stop (escape rest))
      (λ _. cond_both (d == quote) (quote_character rest) (plain_character (d ∷ rest)) Q
      (λ _. cond_both (first rest == quote) (pieces.Token (Int quote) 4) (pieces.Refused StrayByte 0) Q (λ _. tt) (λ _. tt))
      (λ _. decoded-stop (decoded (d ∷ rest)).char (decoded (d ∷ rest)).size))

  number-stop : (b : Before) (t : List ℕ) → Q (number b t)
  number-stop b t =
      cond_both (begins "0'" t) (character (drop 2 t)) (cond (begins "0x" t) (radix b 16 t) (cond (begins "0o" t) (radix b 8 t) (cond (begins "0b" t) (radix b 2 t) (decimal b t)))) Q (λ _. character-stop (drop 2 t))
      (λ _. cond_both (begins "0x" t) (radix b 16 t) (cond (begins "0o" t) (radix b 8 t) (cond (begins "0b" t) (radix b 2 t) (decimal b t))) Q (λ _. radix-stop b 16 t)
      (λ _. cond_both (begins "0o" t) (radix b 8 t) (cond (begins "0b" t) (radix b 2 t) (decimal b t)) Q (λ _. radix-stop b 8 t)
      (λ _. cond_both (begins "0b" t) (radix b 2 t) (decimal b t) Q (λ _. radix-stop b 2 t) (λ _. decimal-stop b t))))

  bracket-stop : (b : Before) (sign : ℕ) → Q (pieces.Token (bracket_token b sign) 1)
  bracket-stop NoWord sign = tt
  bracket-stop Minus sign = cond_both (sign ∈ "(") OpenCall (Punct sign) (λ k. EndIsStop k 1 c) (λ _. tt) (λ _. tt)
  bracket-stop OtherWord sign = cond_both (sign ∈ "(") OpenCall (Punct sign) (λ k. EndIsStop k 1 c) (λ _. tt) (λ _. tt)

  full_stop : (rest : List ℕ) → (c ∈ "." && ends_clause rest) ≡ true → c ≡ 46
  full_stop rest h = elim (or_cases (c == 46) false (and_parts (c ∈ ".") (ends_clause rest) h).0) [ inl e ↦ eqb-true c 46 e | inr e ↦ cc ]

  from-stop : (s : Start) (b : Before) (rest : List ℕ) → Begins s c rest → Q (piece_from s b (c ∷ rest))
  from-stop Layout b rest h = tt
  from-stop LineComment b rest h = tt
  from-stop BlockComment b rest h = comment-stop (past_comment (drop 2 (c ∷ rest)))
  from-stop SmallLetter b rest h = tt
  from-stop CapitalLetter b rest h = tt
  from-stop Digit b rest h = number-stop b (c ∷ rest)
  from-stop ClauseEnd b rest h = (refl, full_stop rest h)
  from-stop Symbols b rest h = tt
  from-stop Solo b rest h = tt
  from-stop WordQuote b rest h = word-stop (quoted quote rest)
  from-stop TextQuote b rest h = text-stop (quoted double_quote rest)
  from-stop Bracket b rest h = bracket-stop b c
  from-stop Nothing b rest h = tt

piece-stop : (b : Before) (c : ℕ) (rest : List ℕ) → IsStop (piece b (c ∷ rest)) c
piece-stop b c rest = from-stop c (start (c ∷ rest)) b rest (begins-start c rest)

-- how an End stands in a text that is scanned from a place on, and what is scanned behind it
record Ends (s : Scan) (p : Place) (text : List ℕ) (us : List Token) (t : Token) : Type 0 where
  taken : ℕ
  place : p.at + suc taken ≡ t.to
  within : taken < length text
  byte : get_or text taken 0 ≡ 46
  line : p.line + newlines (take (suc taken) text) ≡ t.line
  behind : scan_from NoWord 0 (record { at = t.to; line = t.line }) (drop (suc taken) text) ≡ record { tokens = us; refusal = s.refusal }

-- one byte further to the front
past_line : (c k : ℕ) (p : Place) → (past c p).line + k ≡ p.line + (cond (c == newline) 1 0 + k)
past_line c k p = elim (c == newline) as (λ b. cond b (suc (p.line)) (p.line) + k ≡ p.line + (cond b 1 0 + k)) [ true ↦ omega arith | false ↦ omega arith ]

one_more : (s : Scan) (p : Place) (c : ℕ) (text : List ℕ) (us : List Token) (t : Token) → Ends s (past c p) text us t → Ends s p (c ∷ text) us t
one_more s p c text us t e = record {
  taken = suc e.taken;
  place = omega (arith, e.place);
  within = omega (arith, e.within);
  byte = e.byte;
  line = sym (past_line c (newlines (take (suc e.taken) text)) p) ∙ e.line;
  behind = e.behind;
}

same_scan : (s s' : Scan) (p : Place) (text : List ℕ) (us : List Token) (t : Token) → s.refusal ≡ s'.refusal → Ends s p text us t → Ends s' p text us t
same_scan s s' p text us t same e = record {
  taken = e.taken;
  place = e.place;
  within = e.within;
  byte = e.byte;
  line = e.line;
  behind = e.behind ∙ (λ i. record { tokens = us; refusal = same i });
}

none_there : {X : Type 0} (ts us : List X) (t : X) → [] ≡ ts ++ t ∷ us → ⊥
none_there [] us t e = cc
none_there (v ∷ ts) us t e = cc

here : (b : Before) (p : Place) (c : ℕ) (text : List ℕ) (kind : TokenKind) (n : ℕ) (us : List Token) (t : Token) → EndIsStop kind n c → t.kind ≡ End
    → record { kind = kind; from = p.at; to = p.at + n; line = p.line } ≡ t → (scan_from (after kind n) (n - 1) (past c p) text).tokens ≡ us
    → Ends (with_token (record { kind = kind; from = p.at; to = p.at + n; line = p.line }) (scan_from (after kind n) (n - 1) (past c p) text)) p (c ∷ text) us t
here b p c text (Word name) n us t stop end is others = let same = ap (λ (v : Token). v.kind) is in cc
here b p c text (Variable name) n us t stop end is others = let same = ap (λ (v : Token). v.kind) is in cc
here b p c text (Int value) n us t stop end is others = let same = ap (λ (v : Token). v.kind) is in cc
here b p c text (Text bytes) n us t stop end is others = let same = ap (λ (v : Token). v.kind) is in cc
here b p c text (Punct sign) n us t stop end is others = let same = ap (λ (v : Token). v.kind) is in cc
here b p c text OpenCall n us t stop end is others = let same = ap (λ (v : Token). v.kind) is in cc
here b p c text End n us t stop end is others =
    let to = ap (λ (v : Token). v.to) is in
    let line = ap (λ (v : Token). v.line) is in
    let none : newlines (take 1 (c ∷ text)) ≡ 0 = ap (λ d. cond (d == newline) 1 0 + 0) stop.1 in
    let line_is : (past c p).line ≡ t.line = ap (λ d. cond (d == newline) (suc p.line) p.line) stop.1 ∙ line in
    let to_is : suc p.at ≡ t.to = omega (arith, to, stop.0) in
    record {
      taken = 0;
      place = omega (arith, to, stop.0);
      within = omega arith;
      byte = stop.1;
      line = omega (arith, none, line);
      behind = (λ i. scan_from NoWord 0 (record { at = sym to_is i; line = sym line_is i }) text)
          ∙ (ap (λ k. scan_from NoWord (k - 1) (past c p) text) (sym stop.0) ∙ (λ i. record { tokens = others i; refusal = (scan_from (after End n) (n - 1) (past c p) text).refusal }));
    }

by_piece : (b : Before) (p : Place) (c : ℕ) (text : List ℕ) (pc : Piece) (ts us : List Token) (t : Token) → IsStop pc c
    → ((d : Before) (left : ℕ) (vs : List Token) → (scan_from d left (past c p) text).tokens ≡ vs ++ t ∷ us → Ends (scan_from d left (past c p) text) (past c p) text us t)
    → (from_byte pc b p c text).tokens ≡ ts ++ t ∷ us → t.kind ≡ End → Ends (from_byte pc b p c text) p (c ∷ text) us t
by_piece b p c text (pieces.Refused why n) ts us t stop ih e end = absurd (none_there ts us t e)
by_piece b p c text (pieces.Blank n) ts us t stop ih e end = one_more (scan_from NoWord (n - 1) (past c p) text) p c text us t (ih NoWord (n - 1) ts e)
by_piece b p c text (pieces.Token kind n) [] us t stop ih e end =
    let first_is : record { kind = kind; from = p.at; to = p.at + n; line = p.line } ≡ t = cc in
    let others : (scan_from (after kind n) (n - 1) (past c p) text).tokens ≡ us = cc in
    here b p c text kind n us t stop end first_is others
by_piece b p c text (pieces.Token kind n) (v ∷ ts) us t stop ih e end =
    let rest : Scan = scan_from (after kind n) (n - 1) (past c p) text in
    let others : (scan_from (after kind n) (n - 1) (past c p) text).tokens ≡ ts ++ t ∷ us = cc in
    let one : Token = record { kind = kind; from = p.at; to = p.at + n; line = p.line } in
    same_scan rest (with_token one rest) p (c ∷ text) us t refl (one_more rest p c text us t (ih (after kind n) (n - 1) ts others))

ends : (b : Before) (left : ℕ) (p : Place) (text : List ℕ) (ts us : List Token) (t : Token) → (scan_from b left p text).tokens ≡ ts ++ t ∷ us → t.kind ≡ End → Ends (scan_from b left p text) p text us t
ends b zero p [] ts us t e end = absurd (none_there ts us t e)
ends b (suc left) p [] ts us t e end = absurd (none_there ts us t e)
ends b (suc left) p (c ∷ text) ts us t e end = one_more (scan_from b left (past c p) text) p c text us t (ends b left (past c p) text ts us t e end)
ends b zero p (c ∷ text) ts us t e end = by_piece b p c text (piece b (c ∷ text)) ts us t (piece-stop b c text) (λ d left vs h. ends d left (past c p) text vs us t h end) e end

pub read_anew : IsReadAnew
read_anew text ts us t utf8 are end =
    let whole = scan-utf8 text utf8 in
    let e : Ends (utf8_scan text) beginning text us t = ends NoWord 0 beginning text ts us t (sym (ap (λ (s : Scan). s.tokens) whole) ∙ are) end in
    let to_is : suc e.taken ≡ t.to = let at = e.place in omega arith in
    let lines : newlines (take (suc e.taken) text) ≡ newlines (take t.to text) = ap (λ n. newlines (take n text)) to_is in
    let one : e.taken + 1 ≡ suc e.taken = omega arith in
    let boundary = IsCharBoundary-after_ascii text e.taken utf8 e.within (let b = e.byte in omega arith) in
    let utf8_rest : IsUtf8 (drop t.to text) = subst (λ n. IsUtf8 (drop n text)) (one ∙ to_is) (IsUtf8-drop text (e.taken + 1) utf8 boundary) in
    let place_is : further t.to (newlines (take t.to text)) beginning ≡ record { at = t.to; line = t.line } = λ i. record {
      at = (let k : t.to + 0 ≡ t.to = omega arith in k) i;
      line = (let l = e.line in let k : newlines (take t.to text) + 1 ≡ t.line = omega arith in k) i;
    } in
    ap (moved_scan t.to (newlines (take t.to text))) (scan-utf8 (drop t.to text) utf8_rest)
    ∙ (sym (further-scan t.to (newlines (take t.to text)) NoWord 0 beginning (drop t.to text))
    ∙ (ap (λ q. scan_from NoWord 0 q (drop t.to text)) place_is
    ∙ (ap (λ n. scan_from NoWord 0 (record { at = t.to; line = t.line }) (drop n text)) (sym to_is)
    ∙ (e.behind ∙ (λ i. record { tokens = us; refusal = (ap (λ (s : Scan). s.refusal) (sym whole)) i })))))
