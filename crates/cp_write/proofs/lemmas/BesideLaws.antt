-- Texts side by side, with a space where two symbol characters would meet: it does not matter which two are joined first.
use Rattle.std.proofs.Common.{◌≡◌, ℕ, Bool, true, false, cond, ◌&&◌, List, [], ◌∷◌, ◌++◌, refl, sym, ◌∙◌, ap, append_assoc}
use Rattle.std.specs.Prelude.{codes}
use Rattle.std.specs.Str.{bytes_eq}
use Rattle.cp_char.specs.Characters.{is_symbol, first}
use Rattle.cp_ops.specs.Text.{Style, beside, last_byte, infix_text, is_tight, name_text}
use Rattle.cp_write.specs.Writing.{operator_put}

abbrev joined : Bool → List ℕ → List ℕ → List ℕ
joined s a b = cond s (a ++ 32 ∷ b) (a ++ b)

last_byte-append : (a : List ℕ) (c : ℕ) (b : List ℕ) → last_byte (a ++ c ∷ b) ≡ last_byte (c ∷ b)
last_byte-append [] c b = refl
last_byte-append (x ∷ []) c b = refl
last_byte-append (x ∷ y ∷ a) c b = last_byte-append (y ∷ a) c b

last_byte-joined : (s : Bool) (a : List ℕ) (c : ℕ) (b : List ℕ) → last_byte (joined s a (c ∷ b)) ≡ last_byte (c ∷ b)
last_byte-joined true a c b = last_byte-append a 32 (c ∷ b)
last_byte-joined false a c b = last_byte-append a c b

first-joined : (s : Bool) (x : ℕ) (a b : List ℕ) → first (joined s (x ∷ a) b) ≡ x
first-joined true x a b = refl
first-joined false x a b = refl

joined-joined : (s t : Bool) (a b c : List ℕ) → joined t (joined s a b) c ≡ joined s a (joined t b c)
joined-joined true true a b c = append_assoc a (32 ∷ b) (32 ∷ c)
joined-joined true false a b c = append_assoc a (32 ∷ b) c
joined-joined false true a b c = append_assoc a b (32 ∷ c)
joined-joined false false a b c = append_assoc a b c

no_bytes : (a : List ℕ) → a ++ [] ≡ a
no_bytes [] = refl
no_bytes (x ∷ a) = ap (λ xs. x ∷ xs) (no_bytes a)

pub beside-plain : (a b : List ℕ) → is_symbol (first b) ≡ false → beside a b ≡ a ++ b
beside-plain a b h =
    ap (λ t. joined (is_symbol (last_byte a) && t) a b) h
    ∙ elim (is_symbol (last_byte a)) as (λ s. joined (s && false) a b ≡ a ++ b) [ true ↦ refl | false ↦ refl ]

pub beside-after : (a b : List ℕ) → is_symbol (last_byte a) ≡ false → beside a b ≡ a ++ b
beside-after a b h = ap (λ s. joined (s && is_symbol (first b)) a b) h

pub beside-none : (a : List ℕ) → beside a [] ≡ a
beside-none a = beside-plain a [] refl ∙ no_bytes a

pub beside-assoc : (a b c : List ℕ) → beside (beside a b) c ≡ beside a (beside b c)
beside-assoc a [] c = ap (λ x. beside x c) (beside-none a)
beside-assoc a (x ∷ b) c =
    let s = is_symbol (last_byte a) && is_symbol x in
    let t = is_symbol (last_byte (x ∷ b)) && is_symbol (first c) in
    ap (λ l. joined (is_symbol l && is_symbol (first c)) (joined s a (x ∷ b)) c) (last_byte-joined s a x b)
    ∙ (joined-joined s t a (x ∷ b) c
    ∙ ap (λ f. joined (is_symbol (last_byte a) && is_symbol f) a (joined t (x ∷ b) c)) (sym (first-joined t x b c)))

-- a byte that is no symbol character, between two texts
pub around : (out left : List ℕ) (a : ℕ) (right : List ℕ) → is_symbol a ≡ false → beside (beside (beside out left) (a ∷ [])) right ≡ beside out (left ++ a ∷ right)
around out left a right h =
    beside-assoc (beside out left) (a ∷ []) right
    ∙ (ap (λ x. beside (beside out left) x) (beside-after (a ∷ []) right h)
    ∙ (beside-assoc out left (a ∷ right)
    ∙ ap (λ x. beside out x) (beside-plain left (a ∷ right) h)))

-- a byte that is no symbol character before a text, and a text behind it that begins with none
pub behind : (out : List ℕ) (a : ℕ) (w rest : List ℕ) → is_symbol a ≡ false → is_symbol (first rest) ≡ false → beside (beside (beside out (a ∷ [])) w) rest ≡ beside out (a ∷ (w ++ rest))
behind out a w rest h k =
    beside-assoc (beside out (a ∷ [])) w rest
    ∙ (beside-assoc out (a ∷ []) (beside w rest)
    ∙ ap (λ x. beside out x) (beside-after (a ∷ []) (beside w rest) h ∙ ap (λ x. a ∷ x) (beside-plain w rest k)))

-- a name with a space on either side, between two texts
spaced : (out left name right : List ℕ) → beside (beside (beside (beside (beside out left) (codes " ")) name) (codes " ")) right ≡ beside out (left ++ 32 ∷ name ++ 32 ∷ right)
spaced out left name right =
    around (beside (beside out left) (32 ∷ [])) name 32 right refl
    ∙ (around out left 32 (name ++ 32 ∷ right) refl
    ∙ ap (beside out) (sym (append_assoc left (32 ∷ name) (32 ∷ right))))

-- an infix operator between its operands
pub operator-between : (style : Style) (name out left right : List ℕ) → beside (operator_put style name (beside out left)) right ≡ beside out (infix_text style name left right)
operator-between style name out left right =
    elim (bytes_eq name (codes ",")) as (λ b. beside (cond b (beside (beside out left) (codes ",")) (cond (is_tight style name) (beside (beside out left) name) (beside (beside (beside (beside out left) (codes " ")) (name_text style name)) (codes " ")))) right
    ≡ beside out (cond b (left ++ codes "," ++ right) (cond (is_tight style name) (beside (beside left name) right) (left ++ 32 ∷ name_text style name ++ 32 ∷ right)))) [
      | true ↦ around out left 44 right refl ∙ ap (beside out) (sym (append_assoc left (44 ∷ []) right))
      | false ↦ elim (is_tight style name) as (λ t. beside (cond t (beside (beside out left) name) (beside (beside (beside (beside out left) (codes " ")) (name_text style name)) (codes " "))) right
          ≡ beside out (cond t (beside (beside left name) right) (left ++ 32 ∷ name_text style name ++ 32 ∷ right))) [
            | true ↦ ap (λ x. beside x right) (beside-assoc out left name) ∙ beside-assoc out (beside left name) right
            | false ↦ spaced out left (name_text style name) right
          ]
    ]
