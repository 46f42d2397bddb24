-- Assertions that are read one after another are those of the files.
use Rattle.std.proofs.Common.{◌≡◌, ℕ, ◌+◌, ◌<◌, refl, sym, ap, ◌∙◌, subst, Option, Some, None, List, [], ◌∷◌, ◌++◌, length, get_or, drop}
use Rattle.std.specs.List.{flat_map}
use Rattle.cp_term.specs.declared.cell.Cell.{Cell}
use Rattle.cp_read.specs.declared.clause.ReadClause.{ReadClause}
use Rattle.cp_code.specs.declared.assertion.Assertion.{Assertion}
use Rattle.cp_code.specs.declared.program.Program.{Program}
use Rattle.cp_declaration.specs.declared.declaration.Declaration.{Declaration}
use Rattle.cp_declaration.specs.declared.declaration.Declaration.TheVariants as declares
use Rattle.cp_module.specs.declared.cause.Cause.{Cause}
use Rattle.cp_module.specs.declared.refusal.Refusal.{Refusal}
use Rattle.cp_module.specs.declared.why.Why.{Why}
use Rattle.cp_module.specs.Parts.{Part}
use Rattle.cp_module.specs.Causes.{cause_on, least}
use Rattle.cp_module.specs.Least.{soonest}
use Rattle.cp_link.specs.Kept.{fault_of}
use Rattle.cp_link.specs.Modules.{name_of, said}
use Rattle.cp_link.specs.Refusals.{or_later}
use Rattle.cp_assertion.specs.Assertions.{assertion_in, SpeaksOfArguments}
use Rattle.cp_load.specs.Answers.{SpeakOfArguments}
use Rattle.cp_load.specs.Assertions.{cause_by, causes_in, assertion_fault, IsRead, AddsBy, ClausesAdd, FilesAdd}
use Rattle.cp_load.specs.Asserting.{why_by, KeepsRest}
use Rattle.cp_load.proofs.LeastLaws.{least_past, soonest_none}
use Rattle.cp_load.proofs.StepLaws.{split}

-- ---- programs with the same predicates and types

pub record SameMeaning (p q : Program) : Type 0 where
  pub preds : p.preds ≡ q.preds
  pub types : p.types ≡ q.types

pub kept_same : (p q : Program) → KeepsRest p q → SameMeaning p q
kept_same p q k = record { preds = sym (ap (λ (x : Program). x.preds) k); types = sym (ap (λ (x : Program). x.types) k) }

same_reading : (p q : Program) (m : List ℕ) (cells : List Cell) → SameMeaning p q → assertion_in p m cells ≡ assertion_in q m cells
same_reading p q m cells s = λ i. assertion_in (record p { preds = s.preds i; types = s.types i }) m cells

read_same : (p q : Program) (m : List ℕ) (earlier : List Assertion) (c : ReadClause) (a : Assertion) → SameMeaning p q → IsRead p m earlier c a → IsRead q m earlier c a
read_same p q m earlier c a s r = record { reads = sym (same_reading p q m _ s) ∙ r.reads; placed = r.placed }

why_same : (p q : Program) (m : List ℕ) (c : ReadClause) (d : Option Declaration) → SameMeaning p q → why_by p m c d ≡ why_by q m c d
why_same p q m c d s = λ i. why_by (record p { preds = s.preds i; types = s.types i }) m c d

-- ---- what is added

adds_map : (p q : Program) (m : List ℕ) (c : ReadClause) (d : Option Declaration) (earlier : List Assertion) (Then Next : List Assertion → Type 0) → SameMeaning p q
    → ((more : List Assertion) → Then more → Next more) → AddsBy p m c d earlier Then → AddsBy q m c d earlier Next
adds_map p q m c (Some declares.Assertion) earlier Then Next s f h = (h.0, read_same p q m earlier c h.0 s h.1, f (earlier ++ h.0 ∷ []) h.2)
adds_map p q m c other earlier Then Next s f h = f earlier h

clauses_map : (p q : Program) (m : List ℕ) (clauses : List ReadClause) (earlier : List Assertion) (Then Next : List Assertion → Type 0) → SameMeaning p q
    → ((more : List Assertion) → Then more → Next more) → ClausesAdd p m clauses earlier Then → ClausesAdd q m clauses earlier Next
clauses_map p q m [] earlier Then Next s f h = f earlier h
clauses_map p q m (c ∷ clauses) earlier Then Next s f h =
    adds_map p q m c (said c) earlier (λ more. ClausesAdd p m clauses more Then) (λ more. ClausesAdd q m clauses more Next) s (λ more k. clauses_map p q m clauses more Then Next s f k) h

pub files_same : (p q : Program) (parts : List Part) (earlier all : List Assertion) → SameMeaning p q → FilesAdd p parts earlier all → FilesAdd q parts earlier all
files_same p q [] earlier all s h = h
files_same p q (x ∷ parts) earlier all s h =
    clauses_map p q (name_of x) x.clauses earlier (λ more. FilesAdd p parts more all) (λ more. FilesAdd q parts more all) s (λ more k. files_same p q parts more all s k) h

here : (all x : List Assertion) (Then : List Assertion → Type 0) → Then all → (more : List Assertion) → all ≡ more → Then more
here all x Then h more e = subst Then e h

-- ---- causes

cause_same : (program : Program) (m : List ℕ) (c : ReadClause) (d : Option Declaration) → cause_by program m c d ≡ cause_on c.line (why_by program m c d)
cause_same program m c (Some declares.Assertion) = refl
cause_same program m c other = refl

abbrev pub causes_of : Program → List ℕ → List ReadClause → List Cause
causes_of program m clauses = flat_map (λ c. cause_by program m c (said c)) clauses

-- ---- the clauses of a file

pub record AreRead (before : Program) (m : List ℕ) (clauses : List ReadClause) (program : Program) (cause : Option Cause) (rest : List ReadClause) : Type 0 where
  pub kept : KeepsRest before program
  pub causes : soonest cause (least (causes_of before m rest)) ≡ least (causes_of before m clauses)
  pub added : cause ≡ None → (all : List Assertion) → ClausesAdd before m rest program.checks (λ more. all ≡ more) → ClausesAdd before m clauses before.checks (λ more. all ≡ more)
  pub arguments : SpeakOfArguments before.checks → SpeakOfArguments program.checks

pub none_read : (before : Program) (m : List ℕ) (clauses : List ReadClause) → AreRead before m clauses before None clauses
none_read before m clauses = record { kept = refl; causes = refl; added = λ e all h. h; arguments = λ h. h }

none_of_soonest : (cause found : Option Cause) → soonest cause found ≡ None → (cause ≡ None) × (found ≡ None)
none_of_soonest None found e = (refl, e)
none_of_soonest (Some c) found e = cc

none_on : (line : ℕ) (why : Option Why) → least (cause_on line why) ≡ None → why ≡ None
none_on line None e = refl
none_on line (Some w) e = cc

pub read_next : (before : Program) (m own : List ℕ) (clauses : List ReadClause) (program now : Program) (cause found : Option Cause) (why : Option Why) (i : ℕ) (c : ReadClause) → i < length clauses → c ≡ get_or clauses i c
    → own ≡ m → why ≡ why_by program own c (said c) → found ≡ soonest cause (least (cause_on c.line why)) → (why ≡ None → AddsBy program own c (said c) program.checks (λ more. now.checks ≡ more)) → KeepsRest program now
    → (SpeakOfArguments program.checks → SpeakOfArguments now.checks) → AreRead before m clauses program cause (drop i clauses) → AreRead before m clauses now found (drop (i + 1) clauses)
read_next before m own clauses program now cause found why i c lt is_c is_m is_why is_found adds keeps speaks r =
    let s : SameMeaning program before = let k = kept_same before program r.kept in record { preds = sym k.preds; types = sym k.types } in
    let rest = drop (i + 1) clauses in
    let first = r.causes in
    let is_w : why ≡ why_by before m c (said c) = is_why ∙ ap (λ n. why_by program n c (said c)) is_m ∙ why_same program before m c (said c) s in
    let counts : found ≡ soonest cause (least (cause_by before m c (said c)))
    = is_found ∙ ap (λ w. soonest cause (least (cause_on c.line w))) is_w ∙ ap (λ cs. soonest cause (least cs)) (sym (cause_same before m c (said c))) in
    record {
      kept = keeps ∙ (λ j. record (r.kept j) { checks = now.checks });
      causes = least_past cause found (least (causes_of before m clauses)) (cause_by before m c (said c)) (causes_of before m rest)
          (ap (λ cs. soonest cause (least (causes_of before m cs))) (sym (split clauses i c lt is_c)) ∙ r.causes) counts;
      added = λ e all h.
          let both = none_of_soonest cause (least (cause_on c.line why)) (sym is_found ∙ e) in
          let no_why = none_on c.line why both.1 in
          let Own : List ℕ → Type 0 = λ n. AddsBy program n c (said c) program.checks (λ more. now.checks ≡ more) in
          let step : AddsBy program m c (said c) program.checks (λ more. now.checks ≡ more) = subst Own is_m (adds no_why) in
          let goes : AddsBy before m c (said c) program.checks (λ more. ClausesAdd before m rest more (λ x. all ≡ x))
          = adds_map program before m c (said c) program.checks (λ more. now.checks ≡ more) (λ more. ClausesAdd before m rest more (λ x. all ≡ x)) s
          (λ more k. let P : List Assertion → Type 0 = λ y. ClausesAdd before m rest y (λ x. all ≡ x) in subst P k h) step in
          let Q : List ReadClause → Type 0 = λ cs. ClausesAdd before m cs program.checks (λ x. all ≡ x) in
          r.added both.0 all (subst Q (sym (split clauses i c lt is_c)) goes);
      arguments = λ h. speaks (r.arguments h);
    }

pub all_read : (before : Program) (m : List ℕ) (clauses : List ReadClause) (program : Program) (cause : Option Cause) (rest : List ReadClause) → rest ≡ [] → AreRead before m clauses program cause rest
    → (cause ≡ least (causes_of before m clauses)) × (cause ≡ None → ClausesAdd before m clauses before.checks (λ more. program.checks ≡ more))
all_read before m clauses program cause rest e r =
    let end : AreRead before m clauses program cause [] = subst (AreRead before m clauses program cause) e r in
    (sym (soonest_none cause) ∙ end.causes, λ n. end.added n program.checks refl)

-- ---- all files

pub record AreFilesRead (before : Program) (parts : List Part) (program : Program) (rest : List Part) : Type 0 where
  pub kept : KeepsRest before program
  pub faults : assertion_fault before rest ≡ assertion_fault before parts
  pub added : (all : List Assertion) → FilesAdd before rest program.checks all → FilesAdd before parts before.checks all
  pub arguments : SpeakOfArguments before.checks → SpeakOfArguments program.checks

pub no_file_read : (before : Program) (parts : List Part) → AreFilesRead before parts before parts
no_file_read before parts = record { kept = refl; faults = refl; added = λ all h. h; arguments = λ h. h }

causes_same : (p q : Program) (x : Part) → SameMeaning p q → causes_in p x ≡ causes_in q x
causes_same p q x s = λ i. causes_in (record p { preds = s.preds i; types = s.types i }) x

fault_file : (program : Program) (x : Part) (rest : List Part) → assertion_fault program (x ∷ rest) ≡ or_later x.file (least (causes_in program x)) (assertion_fault program rest)
unfolding assertion_fault
fault_file program x rest = refl

pub faults_same : (p q : Program) (parts : List Part) → SameMeaning p q → assertion_fault p parts ≡ assertion_fault q parts
unfolding assertion_fault
faults_same p q [] s = refl
faults_same p q (x ∷ parts) s = λ i. or_later x.file (least (causes_same p q x s i)) (faults_same p q parts s i)

pub file_next : (before : Program) (parts : List Part) (program now : Program) (i : ℕ) (x : Part) → i < length parts → x ≡ get_or parts i x → None ≡ least (causes_in program x)
    → ClausesAdd program (name_of x) x.clauses program.checks (λ more. now.checks ≡ more) → KeepsRest program now → (SpeakOfArguments program.checks → SpeakOfArguments now.checks)
    → AreFilesRead before parts program (drop i parts) → AreFilesRead before parts now (drop (i + 1) parts)
file_next before parts program now i x lt is_x none adds keeps speaks r =
    let s : SameMeaning program before = let k = kept_same before program r.kept in record { preds = sym k.preds; types = sym k.types } in
    let rest = drop (i + 1) parts in
    let no_cause : least (causes_in before x) ≡ None = ap least (sym (causes_same program before x s)) ∙ sym none in
    record {
      kept = keeps ∙ (λ j. record (r.kept j) { checks = now.checks });
      faults = ap (λ o. or_later x.file o (assertion_fault before rest)) (sym no_cause) ∙ sym (fault_file before x rest) ∙ ap (assertion_fault before) (sym (split parts i x lt is_x)) ∙ r.faults;
      added = λ all h.
          let goes : FilesAdd before (x ∷ rest) program.checks all
          = clauses_map program before (name_of x) x.clauses program.checks (λ more. now.checks ≡ more) (λ more. FilesAdd before rest more all) s
          (λ more k. let P : List Assertion → Type 0 = λ y. FilesAdd before rest y all in subst P k h) adds in
          let Q : List Part → Type 0 = λ ps. FilesAdd before ps program.checks all in
          r.added all (subst Q (sym (split parts i x lt is_x)) goes);
      arguments = λ h. speaks (r.arguments h);
    }

pub file_refused : (before : Program) (parts : List Part) (program : Program) (i : ℕ) (x : Part) (cause : Cause) (r : Refusal) → i < length parts → x ≡ get_or parts i x → Some cause ≡ least (causes_in program x)
    → fault_of r ≡ record { file = x.file; cause = cause } → AreFilesRead before parts program (drop i parts) → Some (fault_of r) ≡ assertion_fault before parts
file_refused before parts program i x cause r lt is_x found is_r a =
    let s : SameMeaning program before = let k = kept_same before program a.kept in record { preds = sym k.preds; types = sym k.types } in
    let there : least (causes_in before x) ≡ Some cause = ap least (sym (causes_same program before x s)) ∙ sym found in
    ap Some is_r ∙ ap (λ o. or_later x.file o (assertion_fault before (drop (i + 1) parts))) (sym there) ∙ sym (fault_file before x (drop (i + 1) parts)) ∙ ap (assertion_fault before) (sym (split parts i x lt is_x)) ∙ a.faults

no_more : (program : Program) (rest : List Part) → rest ≡ [] → assertion_fault program rest ≡ None
unfolding assertion_fault
no_more program rest e = ap (assertion_fault program) e

pub all_files_read : (before : Program) (parts : List Part) (program : Program) (rest : List Part) → rest ≡ [] → AreFilesRead before parts program rest
    → (None ≡ assertion_fault before parts) × FilesAdd before parts before.checks program.checks
all_files_read before parts program rest e r =
    let end : AreFilesRead before parts program [] = subst (AreFilesRead before parts program) e r in
    (sym (no_more before [] refl) ∙ end.faults, end.added program.checks refl)

-- ---- what assertions speak of

pub speaks_more : (earlier : List Assertion) (a : Assertion) → SpeakOfArguments earlier → SpeaksOfArguments a → SpeakOfArguments (earlier ++ a ∷ [])
speaks_more [] a h k = (k, tt)
speaks_more (b ∷ earlier) a h k = (h.0, speaks_more earlier a h.1 k)
