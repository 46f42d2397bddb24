-- A quoted text, sign by sign.
use Rattle.std.proofs.Common.{◌≡◌, ℕ, zero, suc, ◌+◌, ◌≤◌, true, false, List, [], ◌∷◌, ◌++◌, length, drop, refl, sym, ◌∙◌, ap, arith, append_assoc}
use Rattle.std.proofs.Math.Nat.{add-zero}
use Rattle.std.specs.Prelude.{Option, Some, None, encode_utf8}
use Rattle.cp_lex.specs.declared.quoted.Sign.{Sign}
use Rattle.cp_lex.specs.declared.quoted.Sign.TheVariants as signs
use Rattle.cp_lex.specs.declared.quoted.Part.{Part}
use Rattle.cp_lex.specs.declared.quoted.Quoted.{Quoted}
use Rattle.cp_lex.specs.declared.quoted.Quoted.TheVariants.{Closed, BadAt, Unended}
use Rattle.cp_lex.specs.Quoted.{part_at, spelled, onward, misspelt, quoted_from, quoted}
use Rattle.cp_lex.specs.Steps.{closes, first_bad, finished, IsQuotedWithin}

-- nothing is read yet
finished-none : (q : Quoted) → q ≡ finished [] None 0 q
finished-none (Closed more n) = let e : n ≡ 0 + n = omega arith in ap (λ k. Closed more k) e
finished-none (BadAt n) = let e : n ≡ 0 + n = omega arith in ap (λ k. BadAt k) e
finished-none Unended = refl

-- one byte more of a part
onward-one : (left : ℕ) (q : Quoted) → onward [] (finished [] None left q) ≡ finished [] None (suc left) q
onward-one left (Closed more n) = let e : suc (left + n) ≡ suc left + n = omega arith in ap (λ k. Closed more k) e
onward-one left (BadAt n) = let e : suc (left + n) ≡ suc left + n = omega arith in ap (λ k. BadAt k) e
onward-one left Unended = refl

-- the bytes that are left of a part are passed over
skip : (mark left : ℕ) (text : List ℕ) → left ≤ length text → quoted_from mark left text ≡ finished [] None left (quoted mark (drop left text))
skip mark zero text h = finished-none (quoted mark text)
skip mark (suc left) [] h = absurd (omega (arith, h))
skip mark (suc left) (c ∷ text) h = ap (λ q. onward [] q) (skip mark left text (omega (arith, h))) ∙ onward-one left (quoted mark (drop left text))

-- one sign more that stands for some bytes
onward-more : (bytes xs : List ℕ) (bad : Option ℕ) (at more : ℕ) (q : Quoted) → finished bytes bad at (onward xs (finished [] None more q)) ≡ finished (bytes ++ xs) bad (at + (1 + more)) q
onward-more bytes xs None at more (Closed ys n) =
    let e : at + suc (more + n) ≡ at + (1 + more) + n = omega arith in
    λ i. Closed (sym (append_assoc bytes xs ys) i) (e i)
onward-more bytes xs None at more (BadAt n) = let e : at + suc (more + n) ≡ at + (1 + more) + n = omega arith in ap (λ k. BadAt k) e
onward-more bytes xs None at more Unended = refl
onward-more bytes xs (Some place) at more (Closed ys n) = refl
onward-more bytes xs (Some place) at more (BadAt n) = refl
onward-more bytes xs (Some place) at more Unended = refl

-- one backslash more that begins no escape
misspelt-more : (bytes : List ℕ) (bad : Option ℕ) (at more : ℕ) (q : Quoted) →
    finished bytes bad at (misspelt (finished [] None more q)) ≡ finished (bytes ++ []) (first_bad bad signs.Misspelt at) (at + (1 + more)) q
misspelt-more bytes None at more (Closed ys n) = ap (λ k. BadAt k) (add-zero at)
misspelt-more bytes None at more (BadAt n) = ap (λ k. BadAt k) (add-zero at)
misspelt-more bytes None at more Unended = refl
misspelt-more bytes (Some place) at more (Closed ys n) = refl
misspelt-more bytes (Some place) at more (BadAt n) = refl
misspelt-more bytes (Some place) at more Unended = refl

abbrev pub from_part : Part → ℕ → List ℕ → Quoted
from_part p mark text = elim (p.sign) [
  | signs.Closes ↦ Closed [] 1
  | signs.Misspelt ↦ misspelt (quoted_from mark p.more text)
  | signs.Byte b ↦ onward (b ∷ []) (quoted_from mark p.more text)
  | signs.Character d ↦ onward (encode_utf8 d) (quoted_from mark p.more text)
  | signs.Nothing ↦ onward [] (quoted_from mark p.more text)
]

part_step : (s : Sign) (more mark : ℕ) (text bytes : List ℕ) (bad : Option ℕ) (at : ℕ) → closes s ≡ false → more ≤ length text →
    finished bytes bad at (from_part (record { sign = s; more = more }) mark text) ≡ finished (bytes ++ spelled s) (first_bad bad s at) (at + (1 + more)) (quoted mark (drop more text))
part_step signs.Closes more mark text bytes bad at going h = cc
part_step signs.Misspelt more mark text bytes bad at going h =
    ap (λ q. finished bytes bad at (misspelt q)) (skip mark more text h) ∙ misspelt-more bytes bad at more (quoted mark (drop more text))
part_step (signs.Byte b) more mark text bytes bad at going h =
    ap (λ q. finished bytes bad at (onward (b ∷ []) q)) (skip mark more text h) ∙ onward-more bytes (b ∷ []) bad at more (quoted mark (drop more text))
part_step (signs.Character d) more mark text bytes bad at going h =
    ap (λ q. finished bytes bad at (onward (encode_utf8 d) q)) (skip mark more text h) ∙ onward-more bytes (encode_utf8 d) bad at more (quoted mark (drop more text))
part_step signs.Nothing more mark text bytes bad at going h =
    ap (λ q. finished bytes bad at (onward [] q)) (skip mark more text h) ∙ onward-more bytes [] bad at more (quoted mark (drop more text))

-- one sign on that is not the closing quote
pub quoted-step : (mark c : ℕ) (text bytes : List ℕ) (bad : Option ℕ) (at : ℕ) (p : Part) → p ≡ part_at mark c text → closes p.sign ≡ false → p.more ≤ length text →
    finished bytes bad at (quoted mark (c ∷ text)) ≡ finished (bytes ++ spelled p.sign) (first_bad bad p.sign at) (at + (1 + p.more)) (quoted mark (drop p.more text))
quoted-step mark c text bytes bad at p is going h =
    ap (λ o. finished bytes bad at (from_part o mark text)) (sym is) ∙ part_step p.sign p.more mark text bytes bad at going h

closing : (s : Sign) (more mark : ℕ) (text : List ℕ) → closes s ≡ true → from_part (record { sign = s; more = more }) mark text ≡ Closed [] 1
closing signs.Closes more mark text h = refl
closing signs.Misspelt more mark text h = cc
closing (signs.Byte b) more mark text h = cc
closing (signs.Character d) more mark text h = cc
closing signs.Nothing more mark text h = cc

-- the closing quote
pub quoted-closed : (mark c : ℕ) (text : List ℕ) (p : Part) → p ≡ part_at mark c text → closes p.sign ≡ true → quoted mark (c ∷ text) ≡ Closed [] 1
quoted-closed mark c text p is h = ap (λ o. from_part o mark text) (sym is) ∙ closing p.sign p.more mark text h

onward-within : (xs : List ℕ) (q : Quoted) (len : ℕ) → IsQuotedWithin q len → IsQuotedWithin (onward xs q) (suc len)
onward-within xs (Closed ys n) len h = omega (arith, h)
onward-within xs (BadAt n) len h = omega (arith, h)
onward-within xs Unended len h = tt

misspelt-within : (q : Quoted) (len : ℕ) → IsQuotedWithin (misspelt q) (suc len)
misspelt-within (Closed ys n) len = omega arith
misspelt-within (BadAt n) len = omega arith
misspelt-within Unended len = tt

-- a quoted text takes no more than there is
pub quoted-within : (mark left : ℕ) (text : List ℕ) → IsQuotedWithin (quoted_from mark left text) (length text)
quoted-within mark zero [] = tt
quoted-within mark (suc left) [] = tt
quoted-within mark (suc left) (c ∷ text) = onward-within [] (quoted_from mark left text) (length text) (quoted-within mark left text)
quoted-within mark zero (c ∷ text) =
    let rest = quoted-within mark (part_at mark c text).more text in
    elim (part_at mark c text).sign as (λ s. IsQuotedWithin (from_part (record { sign = s; more = (part_at mark c text).more }) mark text) (suc (length text))) [
      | signs.Closes ↦ omega arith
      | signs.Misspelt ↦ misspelt-within (quoted_from mark (part_at mark c text).more text) (length text)
      | signs.Byte b ↦ onward-within (b ∷ []) (quoted_from mark (part_at mark c text).more text) (length text) rest
      | signs.Character d ↦ onward-within (encode_utf8 d) (quoted_from mark (part_at mark c text).more text) (length text) rest
      | signs.Nothing ↦ onward-within [] (quoted_from mark (part_at mark c text).more text) (length text) rest
    ]
