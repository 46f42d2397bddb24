-- Of causes one after another the one that counts is that of the parts.
use Rattle.std.proofs.Common.{◌≡◌, ℕ, ◌+◌, ◌*◌, ◌<◌, ◌≤◌, inl, inr, refl, sym, ap, ◌∙◌, Bool, true, false, Some, None, Option, List, [], ◌∷◌, ◌++◌, arith}
use Rattle.std.specs.Prelude.{◌||◌, ◌&&◌, nat_lt, nat_eq, cond}
use Rattle.std.proofs.lemmas.Bool.{lt-ltb, le-ltb, ltb-true, ltb-false, cases_lt}
use Rattle.std.proofs.lemmas.Bool.Decides.{eqb_tells}
use Rattle.cp_module.specs.declared.why.Why.{Why}
use Rattle.cp_module.specs.declared.why.Why.TheVariants as why
use Rattle.cp_module.specs.declared.cause.Cause.{Cause}
use Rattle.cp_module.specs.Words.{rank}
use Rattle.cp_module.specs.Causes.{comes_before, sooner, least}
use Rattle.cp_module.specs.Least.{soonest}

-- ---- the order of causes is that of one number

before : ℕ → ℕ → ℕ → ℕ → Bool
before l r m s = nat_lt l m || (nat_eq l m && nat_lt r s)

key : (l r m s : ℕ) → r < 32 → s < 32 → before l r m s ≡ nat_lt (l * 32 + r) (m * 32 + s)
unfolding before
key l r m s hr hs =
    elim (cases_lt l m) [
      | inl lt ↦ ap (λ b. b || (nat_eq l m && nat_lt r s)) (lt-ltb l m lt) ∙ sym (lt-ltb (l * 32 + r) (m * 32 + s) (omega arith))
      | inr ge ↦ elim (eqb_tells l m) [
        | inl same ↦
            let e : l ≡ m = same.1 in
            ap (λ b. b || (nat_eq l m && nat_lt r s)) (le-ltb l m ge) ∙ ap (λ b. b && nat_lt r s) same.0 ∙ by_rank e
        | inr other ↦
            let ne : m < l = omega (arith, ge, other.1) in
            ap (λ b. b || (nat_eq l m && nat_lt r s)) (le-ltb l m ge) ∙ ap (λ b. b && nat_lt r s) other.0 ∙ sym (le-ltb (l * 32 + r) (m * 32 + s) (omega arith))
      ]
    ]
  where
    by_rank : l ≡ m → nat_lt r s ≡ nat_lt (l * 32 + r) (m * 32 + s)
    by_rank e =
        elim (cases_lt r s) [
          | inl lt ↦ lt-ltb r s lt ∙ sym (lt-ltb (l * 32 + r) (m * 32 + s) (omega arith))
          | inr ge ↦ le-ltb r s ge ∙ sym (le-ltb (l * 32 + r) (m * 32 + s) (omega arith))
        ]

in_table : (w : Why) → rank w < 32
in_table w =
    elim w as (λ v. rank v < 32) [
      | why.BadUtf8 ↦ omega arith
      | why.OpenQuote ↦ omega arith
      | why.OpenComment ↦ omega arith
      | why.BadEscape ↦ omega arith
      | why.WideNumber ↦ omega arith
      | why.Float ↦ omega arith
      | why.StrayByte ↦ omega arith
      | why.NoFullStop ↦ omega arith
      | why.Priority ↦ omega arith
      | why.UnexpectedToken ↦ omega arith
      | why.TooLarge ↦ omega arith
      | why.NoModuleHeader ↦ omega arith
      | why.BadDeclaration ↦ omega arith
      | why.BadBody ↦ omega arith
      | why.ClauseOfBuiltin ↦ omega arith
      | why.RuleOfShared ↦ omega arith
      | why.SharedTwice ↦ omega arith
      | why.TooManyClauses ↦ omega arith
      | why.TooManyModules ↦ omega arith
      | why.TooManyShared ↦ omega arith
      | why.DuplicateModule ↦ omega arith
      | why.NotExported ↦ omega arith
      | why.ImportClash ↦ omega arith
      | why.ClauseOfImported ↦ omega arith
      | why.BadAddress ↦ omega arith
      | why.NotRegular ↦ omega arith
      | why.BadHead ↦ omega arith
      | why.BadProperty ↦ omega arith
      | why.OnShared ↦ omega arith
      | why.NoMain ↦ omega arith
    ]

place : Cause → ℕ
place c = c.line * 32 + rank c.why

by_place : (c d : Cause) → comes_before c d ≡ nat_lt (place c) (place d)
unfolding before place
by_place c d = key c.line (rank c.why) d.line (rank d.why) (in_table c.why) (in_table d.why)

-- ---- the soonest of three

earlier : Cause → Cause → Cause
earlier c d = cond (nat_lt (place d) (place c)) d c

sooner-earlier : (c d : Cause) → sooner c (Some d) ≡ earlier c d
unfolding earlier
sooner-earlier c d = ap (λ b. cond b d c) (by_place d c)

of_three : (x y z : ℕ) (c d e : Cause) → cond (nat_lt (cond (nat_lt z y) z y) x) (cond (nat_lt z y) e d) c ≡ cond (nat_lt z (cond (nat_lt y x) y x)) e (cond (nat_lt y x) d c)
of_three x y z c d e = go (nat_lt z y) (nat_lt y x) refl refl
  where
    go : (p q : Bool) → nat_lt z y ≡ p → nat_lt y x ≡ q → cond (nat_lt (cond p z y) x) (cond p e d) c ≡ cond (nat_lt z (cond q y x)) e (cond q d c)
    go true true hp hq =
        let zy : z < y = ltb-true z y hp in
        let yx : y < x = ltb-true y x hq in
        ap (λ b. cond b e c) (lt-ltb z x (omega arith)) ∙ ap (λ b. cond b e d) (sym hp)
    go true false hp hq = refl
    go false true hp hq = ap (λ b. cond b d c) hq ∙ ap (λ b. cond b e d) (sym hp)
    go false false hp hq =
        let yz : y ≤ z = ltb-false z y hp in
        let xy : x ≤ y = ltb-false y x hq in
        ap (λ b. cond b d c) hq ∙ ap (λ b. cond b e c) (sym (le-ltb z x (omega arith)))

place-cond : (b : Bool) (c d : Cause) → place (cond b c d) ≡ cond b (place c) (place d)
place-cond true c d = refl
place-cond false c d = refl

earlier-assoc : (c d e : Cause) → earlier c (earlier d e) ≡ earlier (earlier c d) e
unfolding earlier
earlier-assoc c d e =
    ap (λ n. cond (nat_lt n (place c)) (cond (nat_lt (place e) (place d)) e d) c) (place-cond (nat_lt (place e) (place d)) e d)
    ∙ of_three (place c) (place d) (place e) c d e
    ∙ ap (λ n. cond (nat_lt (place e) n) e (cond (nat_lt (place d) (place c)) d c)) (sym (place-cond (nat_lt (place d) (place c)) d c))

sooner-assoc : (c d e : Cause) → sooner c (Some (sooner d (Some e))) ≡ sooner (sooner c (Some d)) (Some e)
sooner-assoc c d e =
    ap (λ x. sooner c (Some x)) (sooner-earlier d e) ∙ sooner-earlier c (earlier d e) ∙ earlier-assoc c d e
    ∙ sym (sooner-earlier (earlier c d) e) ∙ ap (λ x. sooner x (Some e)) (sym (sooner-earlier c d))

pub soonest-assoc : (a b c : Option Cause) → soonest a (soonest b c) ≡ soonest (soonest a b) c
soonest-assoc None b c = refl
soonest-assoc (Some x) None c = refl
soonest-assoc (Some x) (Some y) None = refl
soonest-assoc (Some x) (Some y) (Some z) = ap (λ d. Some d) (sooner-assoc x y z)

pub least-append : (xs ys : List Cause) → least (xs ++ ys) ≡ soonest (least xs) (least ys)
least-append [] ys = refl
least-append (c ∷ xs) ys = ap (λ o. soonest (Some c) o) (least-append xs ys) ∙ soonest-assoc (Some c) (least xs) (least ys)

pub soonest_none : (cause : Option Cause) → soonest cause None ≡ cause
soonest_none None = refl
soonest_none (Some c) = refl

-- past the first of two parts
pub least_past : (cause found whole : Option Cause) (xs ys : List Cause) → soonest cause (least (xs ++ ys)) ≡ whole → found ≡ soonest cause (least xs) → soonest found (least ys) ≡ whole
least_past cause found whole xs ys h f =
    ap (λ x. soonest x (least ys)) f ∙ sym (soonest-assoc cause (least xs) (least ys)) ∙ ap (soonest cause) (sym (least-append xs ys)) ∙ h
