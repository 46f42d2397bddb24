-- Operator declarations: what is refused does not depend on the table, and all of the names are declared or none.
use Rattle.std.proofs.Common.{◌≡◌, ℕ, refl, ap, ◌∙◌, sym, Bool, true, false, Some, None, Option, List, [], ◌∷◌}
use Rattle.std.specs.Prelude.{◌&&◌, not, if◌then◌else◌, is_some, is_ok, Result, Ok, Err, ℤ}
use Rattle.std.specs.List.{list_all}
use Rattle.cp_ops.specs.declared.fix.Fix.{Fix}
use Rattle.cp_ops.specs.declared.table.OpError.{OpError}
use Rattle.cp_ops.specs.declared.table.OpError.TheVariants.{Clash}
use Rattle.cp_ops.specs.Operators.{Ops, declare, declared_at, declared_as, is_fixed, kind_of, priority_of, with_operator}
use Rattle.cp_module.specs.Texts.{declared, kept, and_then}
use Rattle.cp_module.specs.Operators.{is_accepted}
use Rattle.cp_ops.specs.Standard.{standard}
use Rattle.cp_module.specs.declared.why.Why.TheVariants as why
use Rattle.cp_module.specs.Causes.{unless}
use Rattle.cp_module.specs.Judging.{operators_cause}

by_name : (b : Bool) (ops : Ops) → is_ok (let r : Result Ops OpError = if b then Err Clash else Ok ops in r) ≡ not b
by_name true ops = refl
by_name false ops = refl

by_kind : (ops : Ops) (name : List ℕ) (p : ℕ) (k : Option Fix) → is_ok (declared_as ops name p k) ≡ (is_some k && not (is_fixed name))
by_kind ops name p None = refl
by_kind ops name p (Some fix) = by_name (is_fixed name) (with_operator ops (record { name = name; priority = p; fix = fix }))

by_priority : (ops : Ops) (kind name : List ℕ) (p : Option ℕ) → is_ok (declared_at ops kind name p) ≡ (is_some p && is_some (kind_of kind) && not (is_fixed name))
by_priority ops kind name None = refl
by_priority ops kind name (Some p) = by_kind ops name p (kind_of kind)

pub accepted : (ops : Ops) (priority : ℤ) (kind name : List ℕ) → is_ok (declare ops priority kind name) ≡ is_accepted priority kind name
accepted ops priority kind name = by_priority ops kind name (priority_of priority)

both : (r : Result Ops OpError) (f : Ops → Option Ops) (b : Bool) → ((o : Ops) → is_some (f o) ≡ b) → is_some (and_then (kept r) f) ≡ (is_ok r && b)
both (Ok o) f b h = h o
both (Err e) f b h = refl

pub all_accepted : (ops : Ops) (priority : ℤ) (kind : List ℕ) (names : List (List ℕ)) → is_some (declared ops priority kind names) ≡ list_all (is_accepted priority kind) names
all_accepted ops priority kind [] = refl
all_accepted ops priority kind (name ∷ names) =
    both (declare ops priority kind name) (λ o. declared o priority kind names) (list_all (is_accepted priority kind) names) (λ o. all_accepted o priority kind names)
    ∙ ap (λ b. b && list_all (is_accepted priority kind) names) (accepted ops priority kind name)

none_of : (o : Option Ops) → is_some o ≡ false → o ≡ None
none_of None h = refl
none_of (Some x) h = cc

pub none_declared : (ops : Ops) (priority : ℤ) (kind : List ℕ) (names : List (List ℕ)) → list_all (is_accepted priority kind) names ≡ false → declared ops priority kind names ≡ None
none_declared ops priority kind names h = none_of (declared ops priority kind names) (all_accepted ops priority kind names ∙ h)

pub one_declared : (ops changed : Ops) (priority : ℤ) (kind name : List ℕ) (names : List (List ℕ)) → declare ops priority kind name ≡ Ok changed
    → declared ops priority kind (name ∷ names) ≡ declared changed priority kind names
one_declared ops changed priority kind name names e = ap (λ r. and_then (kept r) (λ o. declared o priority kind names)) e

pub cause_accepted : (priority : ℤ) (kind : List ℕ) (names : List (List ℕ)) (b : Bool) → b ≡ list_all (is_accepted priority kind) names
    → operators_cause priority kind names ≡ (if b then None else Some why.BadDeclaration)
cause_accepted priority kind names b h =
    ap (λ x. unless (not x) why.BadDeclaration None) (all_accepted standard priority kind names ∙ sym h) ∙ go b
  where
    go : (x : Bool) → unless (not x) why.BadDeclaration None ≡ (if x then None else Some why.BadDeclaration)
    go true = refl
    go false = refl
