-- The program of files, and what loading decides of it.
use Rattle.std.proofs.Common.{◌≡◌, ℕ, refl, sym, ap, ◌∙◌, subst, Bool, Option, Some, None, List, [], map}
use Rattle.std.specs.Prelude.{Result, Ok, Err, codes}
use Rattle.std.specs.Str.Lossy.{utf8_valid_len}
use Rattle.std.specs.Str.{is_utf8, chars}
use Rattle.std.specs.Char.{encode_utf8}
use Rattle.cp_io.specs.Content.{Tree}
use Rattle.cp_ops.specs.Operators.{Ops}
use Rattle.cp_code.specs.Bodies.{body_of}
use Rattle.cp_code.specs.Goals.{builtin_goal}
use Rattle.cp_code.specs.declared.assertion.Assertion.{Assertion}
use Rattle.cp_code.specs.declared.program.Program.{Program}
use Rattle.cp_module.specs.declared.module.Loaded.{Loaded}
use Rattle.cp_module.specs.declared.module.Loaded.TheVariants as loaded
use Rattle.cp_module.specs.Answers as of_module
use Rattle.cp_module.specs.Causes as causes
use Rattle.cp_module.specs.Parts.{Part}
use Rattle.cp_module.specs.Paths.{base_of}
use Rattle.cp_module.specs.Texts.{text_of}
use Rattle.cp_assemble.specs.Answers.{Assembles}
use Rattle.cp_link.specs.Lawful.{IsRunnable}
use Rattle.cp_link.specs.Linked.{linked}
use Rattle.cp_link.specs.Modules.{shared_in}
use Rattle.cp_link.specs.Refusals as refusals
use Rattle.cp_link.specs.Refusals.{Fault}
use Rattle.cp_load.specs.declared.error.LoadError.{LoadError}
use Rattle.cp_load.specs.declared.error.LoadError.TheVariants as error
use Rattle.cp_load.specs.Prelude as prelude
use Rattle.cp_load.specs.Types.{type_fault, typed}
use Rattle.cp_load.specs.Assertions.{assertion_fault, FilesAdd}
use Rattle.cp_load.specs.Gathering.{gathered, Files}
use Rattle.cp_load.specs.Accepted.{program_of, main_fault, or_else, judged, settled, outcome, IsProgramOf}
use Rattle.cp_load.specs.Accepted as accepted
use Rattle.cp_load.specs.Answers.{SpeakOfArguments, Decides, Loads, HasCause}
use Rattle.cp_load.specs.Reached.{IsNotGathered, Gathers}
use Rattle.cp_load.specs.Loading.{IsPrelude, ops_of_part, completion_fault, Completes, MakesLinked, Makes}
use Rattle.cp_load.proofs.Asserting.{SameMeaning, files_same, faults_same}

-- ---- the prelude

prelude_is_accepted : causes.refused (base_of (codes "prelude.pl")) (text_of prelude.text) ≡ None
unfolding utf8_valid_len is_utf8 chars encode_utf8 text_of causes.refused base_of body_of builtin_goal
prelude_is_accepted = refl

prelude_shares_nothing : shared_in prelude.prelude.clauses ≡ []
unfolding utf8_valid_len is_utf8 chars encode_utf8 text_of
prelude_shares_nothing = refl

pub prelude_answer : (answer : Loaded) → of_module.Loads (codes "prelude.pl") prelude.text answer → IsPrelude answer
prelude_answer (loaded.Part p) h = (h.1, ap (λ (q : Part). shared_in q.clauses) h.1 ∙ prelude_shares_nothing)
prelude_answer (loaded.Refused r) h =
    let refused = sym prelude_is_accepted ∙ h.1 in
    cc
prelude_answer loaded.NoMemory h = tt

-- ---- the program of files

pub refused_first : (needs_main : Bool) (parts : List Part) (f : Fault) → refusals.refused parts ≡ Some f → accepted.fault_of needs_main parts ≡ Some f
refused_first needs_main parts f h =
    ap (λ o. or_else o (or_else (type_fault (linked parts prelude.prelude).types parts) (or_else (assertion_fault (program_of parts) parts) (main_fault needs_main parts)))) h

-- the program that is completed means what that of the files means
same_files : (parts : List Part) (p : Program) → Assembles parts prelude.prelude p → SameMeaning (record p { types = typed p.types parts }) (program_of parts)
same_files parts p m = record { preds = ap (λ (x : Program). x.preds) m; types = ap (λ (x : Program). typed x.types parts) m }

pub later : (needs_main : Bool) (parts : List Part) (p : Program) (f : Option Fault) → refusals.refused parts ≡ None → Assembles parts prelude.prelude p → f ≡ completion_fault needs_main parts p → accepted.fault_of needs_main parts ≡ f
later needs_main parts p f r m h =
    let t : type_fault (linked parts prelude.prelude).types parts ≡ type_fault p.types parts = ap (λ (x : Program). type_fault x.types parts) (sym m) in
    let a = sym (faults_same (record p { types = typed p.types parts }) (program_of parts) parts (same_files parts p m)) in
    (λ i. or_else (r i) (or_else (t i) (or_else (a i) (main_fault needs_main parts)))) ∙ sym h

pub makes : (needs_main : Bool) (parts : List Part) (p q : Program) (ops : List Ops) → MakesLinked parts (Ok p) → None ≡ completion_fault needs_main parts p → Completes parts p q → ops ≡ map ops_of_part parts
    → Makes needs_main parts (Ok (record q { ops = ops }))
unfolding linked
makes needs_main parts p q ops m h k e =
    let none : p.checks ≡ [] = ap (λ (x : Program). x.checks) m.1 in
    let whole : Program = record p { types = typed p.types parts; checks = q.checks; ops = ops } in
    let first : record q { ops = ops } ≡ whole = λ i. record (k.kept i) { ops = ops } in
    let second : whole ≡ record (program_of parts) { checks = q.checks } = λ i. record (m.1 i) { types = typed (m.1 i).types parts; checks = q.checks; ops = e i } in
    let assertions : FilesAdd (program_of parts) parts p.checks q.checks = files_same (record p { types = typed p.types parts }) (program_of parts) parts p.checks q.checks (same_files parts p m.1) k.added in
    let From : List Assertion → Type 0 = λ cs. FilesAdd (program_of parts) parts cs q.checks in
    let Speak : List Assertion → Type 0 = λ cs. SpeakOfArguments cs in
    let Runs : Program → Type 0 = λ x. IsRunnable x in
    let runs : IsRunnable whole = record { lawful = record { objects = m.2.lawful.objects }; bodies = m.2.bodies } in (
      later needs_main parts p None m.0 m.1 h,
      record { is_linked = first ∙ second; assertions = subst From none assertions },
      record { runnable = subst Runs (sym first) runs; arguments = k.arguments (subst Speak (sym none) tt) },
    )

-- ---- what loading decides

pub decides : (tree : Tree) (name : List ℕ) (needs_main : Bool) (parts : List Part) → gathered tree name ≡ Files parts → (answer : Result Program LoadError) → Makes needs_main parts answer → Decides tree name needs_main answer
unfolding outcome
decides tree name needs_main parts h (Ok p) m = (record { parts = parts; accepts = ap (settled needs_main) h ∙ ap (judged parts) m.0; is_of = m.1 }, m.2)
decides tree name needs_main parts h (Err (error.Refused r)) m = ap (settled needs_main) h ∙ ap (judged parts) m
decides tree name needs_main parts h (Err (error.Missing file)) m = absurd m
decides tree name needs_main parts h (Err (error.FileTooBig file)) m = absurd m
decides tree name needs_main parts h (Err (error.FileFault file)) m = absurd m
decides tree name needs_main parts h (Err error.NoMemory) m = tt

pub loads : (told : Option Tree) (name : List ℕ) (needs_main : Bool) (parts : List Part) (answer : Result Program LoadError) → Gathers told name (Ok parts) → Makes needs_main parts answer → Loads told name needs_main answer
loads told name needs_main parts answer g m = (g.0, g.1, decides g.0 name needs_main parts g.2 answer m)

not_gathered : (tree : Tree) (name : List ℕ) (needs_main : Bool) (e : LoadError) → IsNotGathered tree name e → Decides tree name needs_main (Err e)
unfolding outcome
not_gathered tree name needs_main (error.Refused r) h = ap (settled needs_main) h
not_gathered tree name needs_main (error.Missing file) h = ap (settled needs_main) h
not_gathered tree name needs_main (error.FileTooBig file) h = ap (settled needs_main) h
not_gathered tree name needs_main (error.FileFault file) h = ap (settled needs_main) h
not_gathered tree name needs_main error.NoMemory h = tt

pub loads_not : (told : Option Tree) (name : List ℕ) (needs_main : Bool) (e : LoadError) → Gathers told name (Err e) → Loads told name needs_main (Err e)
loads_not told name needs_main e g = (g.0, g.1, not_gathered g.0 name needs_main e g.2)

-- what is answered without a word from the files
pub cause_at : (A : Type 0) (faults faults_now misses misses_now : ℕ) (answer : Result A LoadError) → ((f m : ℕ) → HasCause f f m m answer) → faults_now ≡ faults → misses_now ≡ misses → HasCause faults faults_now misses misses_now answer
cause_at A faults faults_now misses misses_now answer h e n =
    let P : ℕ → Type 0 = λ f. HasCause faults f misses misses answer in
    let Q : ℕ → Type 0 = λ m. HasCause faults faults_now misses m answer in
    subst Q (sym n) (subst P (sym e) (h faults misses))

pub made_cause : (faults faults_now misses misses_now : ℕ) (needs_main : Bool) (parts : List Part) (answer : Result Program LoadError) → Makes needs_main parts answer → (faults_now ≡ faults) → (misses_now ≡ misses) → HasCause faults faults_now misses misses_now answer
made_cause faults faults_now misses misses_now needs_main parts (Ok p) m f n = (f, n)
made_cause faults faults_now misses misses_now needs_main parts (Err (error.Refused r)) m f n = (f, n)
made_cause faults faults_now misses misses_now needs_main parts (Err (error.Missing file)) m f n = absurd m
made_cause faults faults_now misses misses_now needs_main parts (Err (error.FileTooBig file)) m f n = absurd m
made_cause faults faults_now misses misses_now needs_main parts (Err (error.FileFault file)) m f n = absurd m
made_cause faults faults_now misses misses_now needs_main parts (Err error.NoMemory) m f n = (f, n)

-- loading ends before the files are together
pub loads_end : (told : Option Tree) (name : List ℕ) (needs_main : Bool) (answer : Result Program LoadError) (e y : LoadError) → Gathers told name (Err e) → answer ≡ Err y → y ≡ e → Loads told name needs_main answer
loads_end told name needs_main answer e y g h s =
    let P : Result Program LoadError → Type 0 = λ a. Loads told name needs_main a in
    subst P (sym (h ∙ ap Err s)) (loads_not told name needs_main e g)
