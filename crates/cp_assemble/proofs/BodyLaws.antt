-- The bodies of the clauses of an accepted file are goals, and so are those of the program that files make.
use Rattle.std.proofs.Common.{◌≡◌, ℕ, refl, sym, ap, ◌∙◌, Bool, true, false, Some, None, Option, List, [], ◌∷◌, ◌++◌, map}
use Rattle.std.specs.Prelude.{not, ◌&&◌, ◌||◌, nat_eq, cond, filter}
use Rattle.cp_term.specs.declared.cell.Cell.{Cell}
use Rattle.cp_term.specs.declared.cell.Cell.TheVariants.{Var, Int, Atom, Func}
use Rattle.cp_term.specs.declared.pred_name.PredName.{PredName}
use Rattle.cp_read.specs.declared.clause.ReadClause.{ReadClause}
use Rattle.cp_code.specs.declared.pred_info.PredInfo.{PredInfo}
use Rattle.cp_code.specs.Bodies.{is}
use Rattle.cp_code.specs.Clauses.{body_term, head_of}
use Rattle.cp_declaration.specs.declared.indicator.Indicator.{Indicator}
use Rattle.cp_declaration.specs.Declarations.{declaration, is_declaration}
use Rattle.cp_module.specs.declared.why.Why.{Why}
use Rattle.cp_module.specs.declared.why.Why.TheVariants as why
use Rattle.cp_module.specs.declared.cause.Cause.{Cause}
use Rattle.cp_module.specs.Parts.{Part, IsPart}
use Rattle.cp_module.specs.Paths.{base_of}
use Rattle.cp_module.specs.Causes.{is_header, header_cause, first_cause, unless, cause_on, clause_causes, end_causes, least, refused, later_cause, rule_cause, declaration_cause, head_cause, headed, is_body, module_name, is_option, is_clause_of}
use Rattle.cp_link.specs.Modules.{name_of}
use Rattle.cp_link.specs.Linked.{clause_in, pred_in, preds_in, remote_pred}
use Rattle.cp_link.specs.Lawful.{HaveBodies, AllHaveBodies}

-- ---- what is not refused

none_least : (cs : List Cause) → least cs ≡ None → cs ≡ []
none_least [] e = refl
none_least (c ∷ cs) e = cc

first_none : (xs ys : List Cause) → xs ++ ys ≡ [] → xs ≡ []
first_none [] ys e = refl
first_none (x ∷ xs) ys e = cc

second_none : (xs ys : List Cause) → xs ++ ys ≡ [] → ys ≡ []
second_none [] ys e = e
second_none (x ∷ xs) ys e = cc

none_on : (line : ℕ) (w : Option Why) → cause_on line w ≡ [] → w ≡ None
none_on line None e = refl
none_on line (Some w) e = cc

not_wrong : (b : Bool) (w : Why) (o : Option Why) → unless (not b) w o ≡ None → b ≡ true
not_wrong true w o e = refl
not_wrong false w o e = cc

-- ---- the clauses of a file

abbrev pub IsRule : List ℕ → ReadClause → Type 0
IsRule m c = is_declaration c.term ≡ false → is_body m (body_term c.term) ≡ true

abbrev pub AreRules : List ℕ → List ReadClause → Type 0
AreRules m [] = Unit {0}
AreRules m (c ∷ cs) = IsRule m c × AreRules m cs

later : (m : List ℕ) (above : List ReadClause) (c : ReadClause) → later_cause m above c.term ≡ None → IsRule m c
later m above c e = λ d.
    not_wrong (is_body m (body_term c.term)) why.BadBody (head_cause above c.term (headed (head_of c.term)))
    (ap (λ b. cond b (declaration_cause above (declaration c.term)) (rule_cause m above c.term)) (sym d) ∙ e)

behind : (base : List ℕ) (a : ReadClause) (above clauses : List ReadClause) → clause_causes base (a ∷ above) clauses ≡ [] → AreRules (module_name base (a ∷ [])) clauses
behind base a above [] e = tt
behind base a above (c ∷ cs) e =
    let w = later_cause (module_name base (a ∷ [])) (a ∷ above) c.term in
    let more = clause_causes base (a ∷ (above ++ c ∷ [])) cs in (
      later (module_name base (a ∷ [])) (a ∷ above) c (none_on c.line w (first_none (cause_on c.line w) more e)),
      behind base a (above ++ c ∷ []) cs (second_none (cause_on c.line w) more e),
    )

header_declares : (cells : List Cell) → is_header cells ≡ true → is_declaration cells ≡ true
header_declares [] e = cc
header_declares (c ∷ []) e = cc
header_declares (c ∷ Var v ∷ cells) e = cc
header_declares (c ∷ Int i ∷ cells) e = cc
header_declares (c ∷ Atom a ∷ cells) e = cc
header_declares (c ∷ Func f k ∷ cells) e =
    both (is_declaration (c ∷ Func f k ∷ cells)) (is f "module") (both (is_declaration (c ∷ Func f k ∷ cells) && is f "module") (nat_eq k 2 || nat_eq k 3) e)
  where
    both : (a b : Bool) → (a && b) ≡ true → a ≡ true
    both true b h = refl
    both false b h = h

first : (m base : List ℕ) (c : ReadClause) → first_cause base c.term ≡ None → IsRule m c
first m base c e = λ d.
    let h : is_declaration c.term ≡ true = header_declares c.term (not_wrong (is_header c.term) why.NoModuleHeader (header_cause base (declaration c.term)) e) in
    cc

of_clauses : (base : List ℕ) (clauses : List ReadClause) → clause_causes base [] clauses ≡ [] → AreRules (module_name base clauses) clauses
of_clauses base [] e = tt
of_clauses base (c ∷ cs) e =
    let w = first_cause base c.term in
    let more = clause_causes base (c ∷ []) cs in (
      first (module_name base (c ∷ cs)) base c (none_on c.line w (first_none (cause_on c.line w) more e)),
      behind base c [] cs (second_none (cause_on c.line w) more e),
    )

pub of_part : (p : Part) → IsPart p → AreRules (name_of p) p.clauses
unfolding refused
of_part p h =
    let base = base_of p.file in
    of_clauses base p.clauses (first_none (clause_causes base [] p.clauses) (end_causes p.clauses None) (none_least (clause_causes base [] p.clauses ++ end_causes p.clauses None) h.accepted))

-- ---- the predicates of a program

undeclared : (i : Indicator) (b : Bool) (o : Option Indicator) → is_option i (cond b None o) ≡ true → b ≡ false
undeclared i true o e = sym e
undeclared i false o e = refl

have_bodies : (m : List ℕ) (i : Indicator) (cs : List ReadClause) → AreRules m cs → HaveBodies (map (clause_in m) (filter (is_clause_of i) cs))
have_bodies m i [] h = tt
have_bodies m i (c ∷ cs) h = go (have_bodies m i cs h.1) (is_clause_of i c) refl
  where
    go : HaveBodies (map (clause_in m) (filter (is_clause_of i) cs)) → (b : Bool) → is_clause_of i c ≡ b → HaveBodies (map (clause_in m) (cond b (c ∷ filter (is_clause_of i) cs) (filter (is_clause_of i) cs)))
    go more true e = (h.0 (undeclared i (is_declaration c.term) (headed (head_of c.term)) e), more)
    go more false e = more

of_preds : (shared : List PredName) (p : Part) (preds : List Indicator) → AreRules (name_of p) p.clauses → AllHaveBodies (map (pred_in shared p) preds)
of_preds shared p [] h = tt
of_preds shared p (i ∷ preds) h = (have_bodies (name_of p) i p.clauses h, of_preds shared p preds h)

pub both_have : (xs ys : List PredInfo) → AllHaveBodies xs → AllHaveBodies ys → AllHaveBodies (xs ++ ys)
both_have [] ys hx hy = hy
both_have (x ∷ xs) ys hx hy = (hx.0, both_have xs ys hx.1 hy)

pub of_file : (shared : List PredName) (p : Part) → IsPart p → AllHaveBodies (preds_in shared p)
of_file shared p h = of_preds shared p _ (of_part p h)

pub remote_have : (modules : List (List ℕ)) (ps : List PredName) → AllHaveBodies (map (remote_pred modules) ps)
remote_have modules [] = tt
remote_have modules (p ∷ ps) = (tt, remote_have modules ps)
