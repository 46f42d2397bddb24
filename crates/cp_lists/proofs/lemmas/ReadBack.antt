-- Texts that are written are read again.
use Rattle.std.proofs.Common.{◌≡◌, ℕ, suc, ◌-◌, ◌^◌, ◌<◌, ◌≤◌, Bool, true, false, List, [], ◌∷◌, map, length, refl, sym, ◌∙◌, ap, arith}
use Rattle.std.specs.Prelude.{Some, None, Ok, Err, if◌then◌else◌, ◌||◌, ◌&&◌, cond, ◌==◌, nat_lt, nat_le, ℤ, pos, negsuc, neg_ℤ, codes}
use Rattle.std.specs.Str.{all_scalars}
use Rattle.std.specs.Str.Parse.{digits_value as parsed_value, AllDigits}
use Rattle.std.specs.Char.{digit_value, is_ascii_digit}
use Rattle.std.specs.Fmt.{decimal, signed_decimal}
use Rattle.std.specs.List.{list_all}
use Rattle.std.specs.Int.Digits.{number_from_digits}
use Rattle.std.proofs.lemmas.Bool.{and_parts, ltb-true, le-leb, ne_eqb}
use Rattle.std.proofs.lemmas.Fmt.{decimal_is_IsNumeral}
use Rattle.std.proofs.lemmas.Int.Digits.{digits_value_is}
use Rattle.std.proofs.lemmas.Str.{digit_value_digit}
use Rattle.std.proofs.lemmas.Str.Parse.{digit_from_value}
use Rattle.cp_term.specs.Preorder.{is_terms}
use Rattle.cp_term.proofs.lemmas.PreorderLaws.{is_terms-append}
use Rattle.cp_goal.specs.Errors.{representation_error}
use Rattle.cp_goal.specs.Operations.{fits}
use Rattle.cp_goal.specs.Lists.{code_term, Proper, longer, spine, codes_in, codes_of, code_before, elements_by, is_scalar, code_of, text_in, digits_value, natural_of, signed, number_of}
use Rattle.cp_goal.specs.Builtins.{codes_term}
use Rattle.cp_lists.proofs.lemmas.Spines.{spine-pair}

codes_are_term : (cs : List ℕ) → is_terms 1 (codes_term cs) ≡ true
codes_are_term [] = refl
codes_are_term (c ∷ cs) = is_terms-append 1 1 (code_term c) (codes_term cs) refl ∙ codes_are_term cs

codes_spine : (cs : List ℕ) → spine (codes_term cs) ≡ Proper (map code_term cs)
codes_spine [] = refl
codes_spine (c ∷ cs) = spine-pair (codes ".") (code_term c) (codes_term cs) refl (codes_are_term cs) ∙ ap (longer (code_term c)) (codes_spine cs)

or_cond : (t u : Bool) → cond t true u ≡ (t || u)
or_cond true u = refl
or_cond false u = refl

scalars_are_codes : (cs : List ℕ) → all_scalars cs ≡ true → codes_of (map code_term cs) ≡ Ok cs
scalars_are_codes [] h = refl
scalars_are_codes (c ∷ cs) h =
    let parts = and_parts _ (all_scalars cs) h in
    let scalar : is_scalar c ≡ true = sym (or_cond (nat_lt c 0xD800) (nat_le 0xE000 c && nat_lt c 0x110000)) ∙ parts.0 in
    let code : code_of (code_term c) ≡ Ok c = ap (λ t. if t then Ok c else Err (representation_error (codes "character_code"))) scalar in
    ap (λ r. code_before r (codes_of (map code_term cs))) code ∙ ap (code_before (Ok c)) (scalars_are_codes cs parts.1)

pub text_back : (cs : List ℕ) → all_scalars cs ≡ true → text_in (codes_term cs) ≡ Ok cs
text_back cs h = ap (λ s. codes_in (elements_by s (codes_term cs))) (codes_spine cs) ∙ scalars_are_codes cs h

-- ---- numbers

digit_same : (c : ℕ) → digit_value c < 10 → c - 48 ≡ digit_value c
digit_same c h = let r = digit_value_digit c (digit_from_value c h) in omega arith

digits_same : (cs : List ℕ) → AllDigits 10 cs → map (λ d. d - 48) cs ≡ map digit_value cs
digits_same [] h = refl
digits_same (c ∷ cs) h = λ i. digit_same c h.0 i ∷ digits_same cs h.1 i

digit_passes : (c : ℕ) → digit_value c < 10 → is_ascii_digit c ≡ true
digit_passes c h =
    let r = digit_from_value c h in
    ap (λ t. t && nat_le c 57) (le-leb 48 c r.0) ∙ le-leb c 57 r.1

digits_pass : (cs : List ℕ) → AllDigits 10 cs → list_all is_ascii_digit cs ≡ true
digits_pass [] h = refl
digits_pass (c ∷ cs) h = ap (λ t. t && list_all is_ascii_digit cs) (digit_passes c h.0) ∙ digits_pass cs h.1

numeral : (cs : List ℕ) (n : ℕ) → 0 < length cs → AllDigits 10 cs → parsed_value 10 cs ≡ n → natural_of cs ≡ Some n
numeral [] n some all is = absurd (omega arith)
numeral (c ∷ cs) n some all is =
    ap (λ t. if t then Some (digits_value (c ∷ cs)) else None) (digits_pass (c ∷ cs) all)
    ∙ ap (λ n. Some n) (ap (number_from_digits 10) (digits_same (c ∷ cs) all) ∙ sym (digits_value_is 10 (c ∷ cs)) ∙ is)

natural_back : (n : ℕ) → n < 2 ^ 64 → natural_of (decimal n) ≡ Some n
natural_back n h = let d = decimal_is_IsNumeral n h in numeral (decimal n) n d.0.0 d.0.1 d.1

-- digits have no sign before them
unsigned : (cs : List ℕ) → 0 < length cs → AllDigits 10 cs → number_of cs ≡ signed pos (natural_of cs)
unsigned [] some all = absurd (omega arith)
unsigned (c ∷ cs) some all =
    let r = digit_from_value c all.0 in
    ap (λ t. if t then signed (λ n. neg_ℤ (pos n)) (natural_of cs) else signed pos (natural_of (c ∷ cs))) (no_sign c r.0)
  where
    no_sign : (c : ℕ) → 48 ≤ c → (c == 45) ≡ false
    no_sign c le = ne_eqb c 45 (λ e. absurd (omega arith))

small : (n : ℕ) → nat_lt n (2 ^ 63) ≡ true → n < 2 ^ 64 - 1
small n h = let lt = ltb-true n (2 ^ 63) h in omega arith

pub number_back : (z : ℤ) → fits z ≡ true → number_of (signed_decimal z) ≡ Some z
number_back (pos n) h =
    let lt = small n h in
    let d = decimal_is_IsNumeral n (omega arith) in
    unsigned (decimal n) d.0.0 d.0.1 ∙ ap (signed pos) (natural_back n (omega arith)) ∙ ap (λ t. if t then Some (pos n) else None) h
number_back (negsuc n) h =
    let lt = small n h in
    ap (signed (λ n. neg_ℤ (pos n))) (natural_back (suc n) (omega arith)) ∙ ap (λ t. if t then Some (negsuc n) else None) h
