-- A name in quotes is read as the name.
use Rattle.std.proofs.Common.{◌≡◌, ℕ, zero, suc, ◌+◌, ◌-◌, ◌<◌, ◌≤◌, false, cond, List, [], ◌∷◌, ◌++◌, length, inl, inr, refl, sym, ◌∙◌, ap, subst, arith, append_assoc, None}
use Rattle.std.specs.Prelude.{◌||◌, ◌==◌, codes}
use Rattle.std.specs.Char.{encode_utf8}
use Rattle.std.specs.List.{flat_map}
use Rattle.std.proofs.lemmas.List.{length-append}
use Rattle.std.proofs.lemmas.Bool.{cases_eq, cases_lt, ne_eqb, le-ltb}
use Rattle.cp_char.specs.Characters.{first, quote, backslash}
use Rattle.cp_lex.specs.Quoted.{part_at, onward, quoted_from, quoted}
use Rattle.cp_lex.specs.Steps.{finished}
use Rattle.cp_ops.specs.Text.{hexadecimal, quoted_byte}

-- A text is read as closed with these bytes, and so many bytes stand before the closing quote.
abbrev pub IsClosed : List ℕ → List ℕ → ℕ → Type 0
IsClosed text bytes n = quoted_from quote 0 text ≡ finished bytes None n (quoted_from quote 0 (quote ∷ []))

-- these bytes, in front of a text that is closed, are read as the byte c
abbrev IsReadAs : List ℕ → ℕ → Type 0
IsReadAs own c = (text ys : List ℕ) (m : ℕ) → IsClosed text ys m → IsClosed (own ++ text) (c ∷ ys) (length own + m)

abbrev IsByte : ℕ → Type 0
IsByte c = IsReadAs (quoted_byte c) c

module _ (c : ℕ) (own text ys : List ℕ) (m : ℕ) where
  alone : quoted_from quote 0 (own ++ text) ≡ onward (c ∷ []) (quoted_from quote 0 text) → length own ≡ 1 → IsClosed text ys m → IsClosed (own ++ text) (c ∷ ys) (length own + m)
  alone e len h = let n : suc (m + 1) ≡ length own + m + 1 = omega arith in e ∙ (ap (λ q. onward (c ∷ []) q) h ∙ rw n)

  behind_one : quoted_from quote 0 (own ++ text) ≡ onward (c ∷ []) (onward [] (quoted_from quote 0 text)) → length own ≡ 2 → IsClosed text ys m → IsClosed (own ++ text) (c ∷ ys) (length own + m)
  behind_one e len h = let n : suc (suc (m + 1)) ≡ length own + m + 1 = omega arith in e ∙ (ap (λ q. onward (c ∷ []) (onward [] q)) h ∙ rw n)

  behind_three : quoted_from quote 0 (own ++ text) ≡ onward (c ∷ []) (onward [] (onward [] (onward [] (quoted_from quote 0 text)))) → length own ≡ 4 → IsClosed text ys m → IsClosed (own ++ text) (c ∷ ys) (length own + m)
  behind_three e len h = let n : suc (suc (suc (suc (m + 1)))) ≡ length own + m + 1 = omega arith in e ∙ (ap (λ q. onward (c ∷ []) (onward [] (onward [] (onward [] q)))) h ∙ rw n)

  behind_four : quoted_from quote 0 (own ++ text) ≡ onward (c ∷ []) (onward [] (onward [] (onward [] (onward [] (quoted_from quote 0 text))))) → length own ≡ 5 → IsClosed text ys m → IsClosed (own ++ text) (c ∷ ys) (length own + m)
  behind_four e len h = let n : suc (suc (suc (suc (suc (m + 1))))) ≡ length own + m + 1 = omega arith in e ∙ (ap (λ q. onward (c ∷ []) (onward [] (onward [] (onward [] (onward [] q))))) h ∙ rw n)

abbrev Each : (ℕ → Type 0) → ℕ → Type 0
Each P zero = Unit {0}
Each P (suc n) = Each P n × P n

each-at : (P : ℕ → Type 0) (n : ℕ) → Each P n → (c : ℕ) → c < n → P c
each-at P zero all c h = absurd (omega (arith, h))
each-at P (suc n) all c h = elim (cases_eq c n) [
  | inl same ↦ subst P (sym same) all.1
  | inr other ↦ each-at P n all.0 c (omega (arith, h, other))
]

first_controls : Each IsByte 8
unfolding encode_utf8
first_controls = ((((((((tt, λ text ys m h. behind_three 0 (quoted_byte 0) text ys m refl refl h), λ text ys m h. behind_three 1 (quoted_byte 1) text ys m refl refl h), λ text ys m h. behind_three 2 (quoted_byte 2) text ys m refl refl h), λ text ys m h. behind_three 3 (quoted_byte 3) text ys m refl refl h), λ text ys m h. behind_three 4 (quoted_byte 4) text ys m refl refl h), λ text ys m h. behind_three 5 (quoted_byte 5) text ys m refl refl h), λ text ys m h. behind_three 6 (quoted_byte 6) text ys m refl refl h), λ text ys m h. behind_three 7 (quoted_byte 7) text ys m refl refl h)

second_controls : Each (λ d. IsByte (8 + d)) 8
unfolding encode_utf8
second_controls = ((((((((tt, λ text ys m h. behind_three 8 (quoted_byte 8) text ys m refl refl h), λ text ys m h. behind_one 9 (quoted_byte 9) text ys m refl refl h), λ text ys m h. behind_one 10 (quoted_byte 10) text ys m refl refl h), λ text ys m h. behind_three 11 (quoted_byte 11) text ys m refl refl h), λ text ys m h. behind_three 12 (quoted_byte 12) text ys m refl refl h), λ text ys m h. behind_three 13 (quoted_byte 13) text ys m refl refl h), λ text ys m h. behind_three 14 (quoted_byte 14) text ys m refl refl h), λ text ys m h. behind_three 15 (quoted_byte 15) text ys m refl refl h)

third_controls : Each (λ d. IsByte (16 + d)) 8
unfolding encode_utf8
third_controls = ((((((((tt, λ text ys m h. behind_four 16 (quoted_byte 16) text ys m refl refl h), λ text ys m h. behind_four 17 (quoted_byte 17) text ys m refl refl h), λ text ys m h. behind_four 18 (quoted_byte 18) text ys m refl refl h), λ text ys m h. behind_four 19 (quoted_byte 19) text ys m refl refl h), λ text ys m h. behind_four 20 (quoted_byte 20) text ys m refl refl h), λ text ys m h. behind_four 21 (quoted_byte 21) text ys m refl refl h), λ text ys m h. behind_four 22 (quoted_byte 22) text ys m refl refl h), λ text ys m h. behind_four 23 (quoted_byte 23) text ys m refl refl h)

fourth_controls : Each (λ d. IsByte (24 + d)) 8
unfolding encode_utf8
fourth_controls = ((((((((tt, λ text ys m h. behind_four 24 (quoted_byte 24) text ys m refl refl h), λ text ys m h. behind_four 25 (quoted_byte 25) text ys m refl refl h), λ text ys m h. behind_four 26 (quoted_byte 26) text ys m refl refl h), λ text ys m h. behind_four 27 (quoted_byte 27) text ys m refl refl h), λ text ys m h. behind_four 28 (quoted_byte 28) text ys m refl refl h), λ text ys m h. behind_four 29 (quoted_byte 29) text ys m refl refl h), λ text ys m h. behind_four 30 (quoted_byte 30) text ys m refl refl h), λ text ys m h. behind_four 31 (quoted_byte 31) text ys m refl refl h)

backslash-byte : IsByte 92
unfolding encode_utf8
backslash-byte text ys m h = behind_one 92 (quoted_byte 92) text ys m refl refl h

quote-byte : IsByte 39
unfolding encode_utf8
quote-byte text ys m h = behind_one 39 (quoted_byte 39) text ys m refl refl h

delete-byte : IsByte 127
unfolding encode_utf8
delete-byte text ys m h = behind_four 127 (quoted_byte 127) text ys m refl refl h

in_row : (from : ℕ) → Each (λ d. IsByte (from + d)) 8 → (c : ℕ) → from ≤ c → c < from + 8 → IsByte c
in_row from row c low high =
    let e : from + (c - from) ≡ c = omega arith in
    subst IsByte e (each-at (λ d. IsByte (from + d)) 8 row (c - from) (omega (arith, low, high)))

control-byte : (c : ℕ) → c < 32 → IsByte c
control-byte c h = elim (cases_lt c 8) [
  | inl low ↦ each-at IsByte 8 first_controls c low
  | inr from8 ↦ elim (cases_lt c 16) [
    | inl low ↦ in_row 8 second_controls c from8 (omega (arith, low))
    | inr from16 ↦ elim (cases_lt c 24) [
      | inl low ↦ in_row 16 third_controls c from16 (omega (arith, low))
      | inr from24 ↦ in_row 24 fourth_controls c from24 (omega (arith, h))
    ]
  ]
]

-- a byte that stands for itself
module _ (c : ℕ) (no_backslash : c ≡ 92 → ⊥) (no_quote : c ≡ 39 → ⊥) (high : 32 ≤ c) (no_delete : c ≡ 127 → ⊥) where
  pub plain-bytes : quoted_byte c ≡ c ∷ []
  plain-bytes =
      let e1 = ne_eqb c 92 no_backslash in
      let e2 = ne_eqb c 39 no_quote in
      let e3 = ne_eqb c 10 (λ e. omega (arith, e, high)) in
      let e4 = ne_eqb c 9 (λ e. omega (arith, e, high)) in
      let e5 = le-ltb c 32 high in
      let e6 = ne_eqb c 127 no_delete in
      λ i. cond (e1 i || e2 i) (backslash ∷ c ∷ []) (cond (e3 i) (codes "\\n") (cond (e4 i) (codes "\\t") (cond (e5 i || e6 i) (codes "\\x" ++ hexadecimal c ++ codes "\\") (c ∷ []))))

  itself : (text : List ℕ) → quoted_from quote 0 (c ∷ text) ≡ onward (c ∷ []) (quoted_from quote 0 text)
  itself text =
      let e1 = ne_eqb c 92 no_backslash in
      let e2 = ne_eqb c 39 no_quote in
      let none : (part_at quote c text).more ≡ 0 = rw (e1, e2, part_at) in
      rw (e1, e2, quoted_from, part_at) (ap (λ k. onward (c ∷ []) (quoted_from quote k text)) none)

  plain-byte : IsByte c
  plain-byte = subst (λ own. IsReadAs own c) (sym plain-bytes) (λ text ys m h. alone c (c ∷ []) text ys m (itself text) refl h)

byte : (c : ℕ) → IsByte c
byte c = elim (cases_eq c 92) [
  | inl e ↦ subst IsByte (sym e) backslash-byte
  | inr e92 ↦ elim (cases_eq c 39) [
    | inl e ↦ subst IsByte (sym e) quote-byte
    | inr e39 ↦ elim (cases_lt c 32) [
      | inl low ↦ control-byte c low
      | inr high ↦ elim (cases_eq c 127) [
        | inl e ↦ subst IsByte (sym e) delete-byte
        | inr e127 ↦ plain-byte c e92 e39 high e127
      ]
    ]
  ]
]

-- what is written between quotes, the closing quote and a text that does not begin with one
pub quoted-name : (a rest : List ℕ) → (first rest == quote) ≡ false → IsClosed (flat_map quoted_byte a ++ quote ∷ rest) a (length (flat_map quoted_byte a))
quoted-name [] rest ends = rw (ends, quoted_from, part_at)
quoted-name (c ∷ a) rest ends =
    let own : List ℕ = quoted_byte c in
    let more : List ℕ = flat_map quoted_byte a in
    let len : length own + length more ≡ length (own ++ more) = sym (length-append own more) in
    ap (quoted quote) (append_assoc own more (quote ∷ rest))
    ∙ (byte c (more ++ quote ∷ rest) a (length more) (quoted-name a rest ends)
    ∙ ap (λ n. finished (c ∷ a) None n (quoted_from quote 0 (quote ∷ []))) len)
