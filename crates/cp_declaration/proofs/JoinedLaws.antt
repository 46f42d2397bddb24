-- What is read as joined by commas is of that form.
use Rattle.std.proofs.Common.{◌≡◌, ◌↔◌, ◌+◌, ◌≤◌, Bool, true, false, List, [], ◌∷◌, ◌++◌, length, refl, sym, ◌∙◌, ap, subst, arith, append_assoc, length-append, drop, if◌then◌else◌}
use Rattle.std.specs.Prelude.{ℕ, zero, suc, Option, Some, None, codes}
use Rattle.std.proofs.lemmas.List.{append-nil}
use Rattle.std.proofs.lemmas.Bool.{false≢true, lt-ltb}
use Rattle.cp_term.specs.declared.cell.Cell.{Cell}
use Rattle.cp_term.specs.declared.cell.Cell.TheVariants.{Func}
use Rattle.cp_term.specs.Preorder.{is_terms, IsTerm}
use Rattle.cp_declaration.specs.declared.indicator.Indicator.{Indicator}
use Rattle.cp_declaration.specs.Lists.{before, is_comma, indicator, joined}
use Rattle.cp_declaration.specs.Grammar.{indicator_cells, HasArity, IsJoined, Alone, Both}
use Rattle.cp_declaration.proofs.Found.{found, found-last}
use Rattle.cp_declaration.proofs.Cases.{before-some, is_comma-true, indicator-some}

-- ---- of the form: read

long : {ps : List Indicator} {cells : List Cell} → IsJoined ps cells → 2 ≤ length cells
long (Alone p h) = omega arith
long (Both ps qs a b i j) = let h : 2 ≤ length a = long i in omega (arith, length-append a b)

joined-comma : (cells : List Cell) → 2 ≤ length cells → joined (Func (codes ",") 2 ∷ cells) ≡ joined cells
joined-comma [] h = absurd (omega arith)
joined-comma (c ∷ []) h = absurd (omega arith)
joined-comma (c ∷ d ∷ rest) h = refl

found-one : (p : Indicator) (more : Option (List Indicator)) → before (Some p) more ≡ found (p ∷ []) more
found-one p None = refl
found-one p (Some more) = refl

found-found : (ps qs : List Indicator) (more : Option (List Indicator)) → found ps (found qs more) ≡ found (ps ++ qs) more
found-found ps qs None = refl
found-found ps qs (Some more) = ap (λ rs. Some rs) (sym (append_assoc ps qs more))

complete : {ps : List Indicator} {cells : List Cell} → IsJoined ps cells → (rest : List Cell) → joined (cells ++ rest) ≡ found ps (joined rest)
complete (Alone p h) rest =
    ap (λ (b : Bool). before (if b then Some p else None) (joined rest)) (lt-ltb p.arity 256 h) ∙ found-one p (joined rest)
complete (Both ps qs a b i j) rest =
    let h : 2 ≤ length ((a ++ b) ++ rest) = omega (arith, long i, length-append a b, length-append (a ++ b) rest) in
    joined-comma ((a ++ b) ++ rest) h
    ∙ ap joined (append_assoc a b rest)
    ∙ complete i (b ++ rest)
    ∙ ap (found ps) (complete j rest)
    ∙ found-found ps qs (joined rest)

-- ---- read: of the form

-- so many terms of the form, one after another
AreJoined : ℕ → List Indicator → List Cell → Type 0
AreJoined zero ps cells = (ps ≡ []) × (cells ≡ [])
AreJoined (suc n) ps cells = (qs : List Indicator) × (rs : List Indicator) × (a : List Cell) × (b : List Cell) × IsJoined qs a × AreJoined n rs b × (ps ≡ qs ++ rs) × (cells ≡ a ++ b)

two-suc : (n : ℕ) → 2 + n ≡ suc (suc n)
two-suc n = omega arith

after_comma : (n : ℕ) (c : Cell) (cells : List Cell) → is_comma c ≡ true → is_terms (suc n) (c ∷ cells) ≡ true → is_terms (suc (suc n)) cells ≡ true
after_comma n c cells q t =
    subst (λ k. is_terms k cells ≡ true) (two-suc n) (subst (λ x. is_terms (suc n) (x ∷ cells) ≡ true) (is_comma-true c q) t)

comma : (n : ℕ) (c : Cell) (cells : List Cell) (ps : List Indicator) → is_comma c ≡ true → AreJoined (suc (suc n)) ps cells → AreJoined (suc n) ps (c ∷ cells)
unfolding AreJoined
comma n c cells ps q (ps1, rest1, a1, b1, i1, (ps2, rest2, a2, b2, i2, more, e2, f2), e1, f1) = (
  ps1 ++ ps2,
  rest2,
  Func (codes ",") 2 ∷ a1 ++ a2,
  b2,
  Both ps1 ps2 a1 a2 i1 i2,
  more,
  e1 ∙ ap (λ rs. ps1 ++ rs) e2 ∙ sym (append_assoc ps1 ps2 rest2),
  ap (λ x. x ∷ cells) (is_comma-true c q) ∙ ap (λ cs. Func (codes ",") 2 ∷ cs) (f1 ∙ ap (λ cs. a1 ++ cs) f2 ∙ sym (append_assoc a1 a2 b2)),
)

after_item : (n : ℕ) (c d e : Cell) (rest : List Cell) (p : Indicator) → c ∷ d ∷ e ∷ [] ≡ indicator_cells p → is_terms (suc n) (c ∷ d ∷ e ∷ rest) ≡ true → is_terms n rest ≡ true
after_item n c d e rest p q t =
    let there : is_terms (suc n) (indicator_cells p ++ rest) ≡ true = subst (λ (cs : List Cell). is_terms (suc n) (cs ++ rest) ≡ true) q t in
    subst (λ k. is_terms k (drop 1 (indicator_cells p) ++ rest) ≡ true) (two-suc n) there

item : (n : ℕ) (c d e : Cell) (rest : List Cell) (p : Indicator) (ps : List Indicator) → HasArity p → c ∷ d ∷ e ∷ [] ≡ indicator_cells p → AreJoined n ps rest → AreJoined (suc n) (p ∷ ps) (c ∷ d ∷ e ∷ rest)
unfolding AreJoined
item n c d e rest p ps h q more = (p ∷ [], ps, indicator_cells p, rest, Alone p h, more, refl, ap (λ (cs : List Cell). cs ++ rest) q)

sound : (cells : List Cell) (n : ℕ) (ps : List Indicator) → is_terms n cells ≡ true → joined cells ≡ Some ps → AreJoined n ps cells
unfolding AreJoined
sound [] zero ps t h = (cc, refl)
sound [] (suc n) ps t h = absurd (false≢true t)
sound (c ∷ cells) zero ps t h = absurd (false≢true t)
sound (c ∷ []) (suc n) ps t h = cc
sound (c ∷ d ∷ []) (suc n) ps t h = cc
sound (c ∷ d ∷ e ∷ rest) (suc n) ps t h =
    let P : Bool → Type 0 = λ b. is_comma c ≡ b → (if b then joined (d ∷ e ∷ rest) else before (indicator c d e) (joined rest)) ≡ Some ps → AreJoined (suc n) ps (c ∷ d ∷ e ∷ rest) in
    elim (is_comma c) as P [
      | true ↦ λ q k. comma n c (d ∷ e ∷ rest) ps q (sound (d ∷ e ∷ rest) (suc (suc n)) ps (after_comma n c (d ∷ e ∷ rest) q t) k)
      | false ↦ λ q k.
          let parts = before-some (indicator c d e) (joined rest) ps k in
          let one = indicator-some c d e parts.0 parts.2 in
          subst (λ rs. AreJoined (suc n) rs (c ∷ d ∷ e ∷ rest)) parts.4
          (item n c d e rest parts.0 parts.1 one.0 one.1 (sound rest n parts.1 (after_item n c d e rest parts.0 one.1 t) parts.3))
    ] refl h

whole : (ps : List Indicator) (cells : List Cell) → AreJoined 1 ps cells → IsJoined ps cells
unfolding AreJoined
whole ps cells (qs, rs, a, b, i, (r, s), e, f) =
    subst (λ xs. IsJoined xs cells) (sym (e ∙ ap (λ xs. qs ++ xs) r ∙ append-nil qs))
    (subst (λ cs. IsJoined qs cs) (sym (f ∙ ap (λ cs. a ++ cs) s ∙ append-nil a)) i)

pub joined-exact : (cells : List Cell) (ps : List Indicator) → IsTerm cells → ((joined cells ≡ Some ps) ↔ IsJoined ps cells)
joined-exact cells ps t = (
  λ h. whole ps cells (sound cells 1 ps t h),
  λ i. ap joined (sym (append-nil cells)) ∙ complete i [] ∙ found-last ps,
)
