-- What is refused in a clause, by what is known of the clauses above it. Each of these is said for whatever clauses the
-- table is of.
use Rattle.std.specs.Prelude.{◌≡◌, ℕ, Bool, not, ◌&&◌, nat_le, List, [], ◌∷◌, ◌++◌, length, Option, Some, None, is_some, ℤ}
use Rattle.std.specs.List.{list_any}
use Rattle.cp_term.specs.declared.cell.Cell.{Cell}
use Rattle.cp_declaration.specs.declared.declaration.Declaration.{Declaration}
use Rattle.cp_declaration.specs.declared.declaration.Declaration.TheVariants as declares
use Rattle.cp_declaration.specs.declared.indicator.Indicator.{Indicator}
use Rattle.cp_read.specs.declared.clause.ReadClause.{ReadClause}
use Rattle.cp_module.specs.declared.why.Why.{Why}
use Rattle.cp_module.specs.declared.why.Why.TheVariants as whys
use Rattle.cp_ops.specs.Standard.{standard}
use Rattle.cp_module.specs.Texts.{Cause, declared}
use Rattle.cp_module.specs.Above.{Row, Knows, known_in, known_behind}
use Rattle.cp_module.specs.Causes.{unless, is_goal_of_the_language, is_shared, clauses_of, is_defined, declaration_cause, rule_cause, clause_cause, clause_causes, end_causes, undefined, least, cause_on}
use Rattle.cp_module.specs.Least.{soonest}

abbrev pub IsDefinedness : List Row → Indicator → Bool → Type 0
IsDefinedness rows p b = (done : List ReadClause) → Knows rows done → b ≡ is_defined done p

abbrev pub AreDefined : List Row → List Indicator → Bool → Type 0
AreDefined rows ps b = (done : List ReadClause) → Knows rows done → b ≡ list_any (is_defined done) ps

abbrev pub IsOneUndefined : List Row → List Indicator → Bool → Type 0
IsOneUndefined rows ps b = (done : List ReadClause) → Knows rows done → b ≡ list_any (λ p. not (is_defined done p)) ps

abbrev pub IsUndefined : List Row → Option (List Indicator) → Bool → Type 0
IsUndefined rows exports b = (done : List ReadClause) → Knows rows done → b ≡ undefined done exports

abbrev pub IsDeclarationCause : List Row → Option Declaration → Option Why → Type 0
IsDeclarationCause rows said cause = (done : List ReadClause) → Knows rows done → cause ≡ declaration_cause done said

abbrev pub IsSharingCause : List Row → List Indicator → Option Why → Type 0
IsSharingCause rows preds cause = (suspends : Bool) → IsDeclarationCause rows (Some (declares.Shared suspends preds)) cause

abbrev pub operators_cause : ℤ → List ℕ → List (List ℕ) → Option Why
operators_cause priority kind names = unless (not (is_some (declared standard priority kind names))) whys.BadDeclaration None

-- what is refused in a clause of p, which is a fact or not
abbrev pub pred_cause : List ReadClause → Indicator → Bool → Option Why
pred_cause done p fact =
    unless (is_goal_of_the_language p) whys.ClauseOfBuiltin
    (unless (is_shared done p && not fact) whys.RuleOfShared (unless (nat_le 4096 (length (clauses_of done p))) whys.TooManyClauses None))

abbrev pub IsPredCause : List Row → Indicator → Bool → Option Why → Type 0
IsPredCause rows p fact cause = (done : List ReadClause) → Knows rows done → cause ≡ pred_cause done p fact

abbrev pub IsRuleCause : List Row → List Cell → Option Why → Type 0
IsRuleCause rows cells cause = (m : List ℕ) → (done : List ReadClause) → Knows rows done → cause ≡ rule_cause m done cells

-- of a clause that is not the first
abbrev pub IsClauseCause : List Row → ReadClause → Option Why → Type 0
IsClauseCause rows c cause = (base : List ℕ) → (a : ReadClause) → (done : List ReadClause) → Knows rows (a ∷ done) → cause ≡ clause_cause base (a ∷ done) c

-- ---- of several clauses

abbrev pub IsCauseOf : List Row → List ReadClause → Option Cause → Type 0
IsCauseOf rows clauses cause = (base : List ℕ) → (a : ReadClause) → (done : List ReadClause) → Knows rows (a ∷ done) → cause ≡ least (clause_causes base (a ∷ done) clauses)

abbrev pub KnowsMore : List Row → List ReadClause → List Row → Type 0
KnowsMore old clauses new = (a : ReadClause) → (done : List ReadClause) → Knows old (a ∷ done) → Knows new (a ∷ (done ++ clauses))

abbrev pub IsEndCause : List Row → ReadClause → Option Cause → Option Cause → Type 0
IsEndCause rows first fault cause = (done : List ReadClause) → Knows rows (first ∷ done) → cause ≡ least (end_causes (first ∷ done) fault)

-- one clause more is judged: what is known behind it, and what counts then
pub record IsJudged (rows more : List Row) (c : ReadClause) (cause now : Option Cause) : Type 0 where
  pub why : Option Why
  pub is_cause : IsClauseCause rows c why
  pub is_known : (p : Indicator) → known_in more p ≡ known_behind c p (known_in rows p)
  pub counts : now ≡ soonest cause (least (cause_on c.line why))
