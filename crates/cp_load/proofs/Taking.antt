-- What one file is by itself, from what is fetched of it.
use Rattle.std.proofs.Common.{◌≡◌, ◌≢◌, ℕ, ◌<◌, inl, inr, refl, sym, ap, ◌∙◌, subst, Option, Some, None, List, length, take, length-take, arith}
use Rattle.std.specs.Prelude.{cond, IfSome, IsSomeAnd, Result, Ok, Err}
use Rattle.std.proofs.lemmas.Bool.{cases_lt, lt-ltb}
use Rattle.std.proofs.lemmas.List.{take_all}
use Rattle.cp_io.specs.declared.files.Fetched.{Fetched}
use Rattle.cp_io.specs.declared.files.Fetched.TheVariants as fetched
use Rattle.cp_io.specs.Content.{Tree, FetchedFrom}
use Rattle.cp_module.specs.Causes.{refused}
use Rattle.cp_module.specs.Parts.{Part}
use Rattle.cp_module.specs.Paths.{base_of}
use Rattle.cp_module.specs.Texts.{text_of}
use Rattle.cp_load.specs.declared.error.LoadError.{LoadError}
use Rattle.cp_load.specs.declared.error.LoadError.TheVariants as error
use Rattle.cp_load.specs.Gathering.{Ends, TooBig, judged, taken}
use Rattle.cp_load.specs.Reached.{IsTaken, TakesFile}

-- some content, that which is told where it is
pub some_content : (told : Option Tree) (file : List ℕ) → (content : Option (List ℕ)) × IfSome told (λ files. files file ≡ content)
some_content None file = (None, tt)
some_content (Some files) file = (files file, refl)

-- want of memory
pub takes_nothing : (told : Option Tree) (file : List ℕ) (answer : Result Part LoadError) (e : LoadError) → answer ≡ Err e → e ≡ error.NoMemory → TakesFile told file answer
takes_nothing told file answer e h n =
    let k = some_content told file in
    let P : Result Part LoadError → Type 0 = λ a. TakesFile told file a in
    subst P (sym (h ∙ ap Err n)) (k.0, k.1, tt)

-- the first bytes of a file say what all of it is
prefix_same : (file whole : List ℕ) → taken file (Some (take 1048577 whole)) ≡ taken file (Some whole)
prefix_same file whole =
    elim (cases_lt 1048576 (length whole)) [
      | inl lt ↦
          let len : 1048576 < length (take 1048577 whole) = omega (arith, length-take 1048577 whole) in
          ap (λ b. cond b (Ends (TooBig file)) (judged file (take 1048577 whole) (refused (base_of file) (text_of (take 1048577 whole))))) (lt-ltb 1048576 (length (take 1048577 whole)) len)
          ∙ ap (λ b. cond b (Ends (TooBig file)) (judged file whole (refused (base_of file) (text_of whole)))) (sym (lt-ltb 1048576 (length whole) lt))
      | inr ge ↦ ap (λ bytes. taken file (Some bytes)) (take_all 1048577 whole (omega arith))
    ]

is_there : (o : Option (List ℕ)) (P : List ℕ → Type 0) → IsSomeAnd o P → (x : List ℕ) × (o ≡ Some x) × P x
is_there None P h = absurd h
is_there (Some x) P h = (x, refl, h)

same_taken : (file text whole : List ℕ) → taken file (Some text) ≡ taken file (Some whole) → (a : Result Part LoadError) → IsTaken file (Some text) a → IsTaken file (Some whole) a
same_taken file text whole e (Ok p) k = sym e ∙ k
same_taken file text whole e (Err (error.Refused r)) k = sym e ∙ k
same_taken file text whole e (Err (error.Missing f)) k = sym e ∙ k
same_taken file text whole e (Err (error.FileTooBig f)) k = sym e ∙ k
same_taken file text whole e (Err (error.FileFault f)) k = k
same_taken file text whole e (Err error.NoMemory) k = tt

takes_some : (told : Option Tree) (file text : List ℕ) (answer : Result Part LoadError) → IfSome told (λ files. FetchedFrom files file 1048576 (fetched.Bytes text)) → IsTaken file (Some text) answer → TakesFile told file answer
takes_some None file text answer h t = (Some text, tt, t)
takes_some (Some files) file text answer h t =
    let w = is_there (files file) (λ whole. text ≡ take 1048577 whole) h in
    (Some w.0, w.1, same_taken file text w.0 (ap (λ bytes. taken file (Some bytes)) w.2 ∙ prefix_same file w.0) answer t)

pub takes_bytes : (told : Option Tree) (file name text bytes : List ℕ) (found : Fetched) (answer : Result Part LoadError) → IfSome told (λ files. FetchedFrom files file 1048576 found) → found ≡ fetched.Bytes text
    → name ≡ file → bytes ≡ text → IsTaken name (Some bytes) answer → TakesFile told file answer
takes_bytes told file name text bytes found answer h f n b t =
    let P : Fetched → Type 0 = λ x. IfSome told (λ files. FetchedFrom files file 1048576 x) in
    let Q : List ℕ → Type 0 = λ x. IsTaken x (Some bytes) answer in
    let R : List ℕ → Type 0 = λ x. IsTaken file (Some x) answer in
    takes_some told file text answer (subst P f h) (subst R b (subst Q n t))

unwrap_ok : {E : Type 0} → Result Fetched E → Fetched → Fetched
unwrap_ok (Ok x) d = x
unwrap_ok (Err e) d = d

-- bytes are no fault and no miss
pub no_fault : (found : Fetched) (text : List ℕ) → found ≡ fetched.Bytes text → (E : Type 0) → ◌≢◌ {A = Result Fetched E} (Ok found) (Ok fetched.Fault)
unfolding unwrap_ok
no_fault found text h E e = let f : found ≡ fetched.Fault = ap (λ r. unwrap_ok r found) e in cc

pub no_miss : (found : Fetched) (text : List ℕ) → found ≡ fetched.Bytes text → (E : Type 0) → ◌≢◌ {A = Result Fetched E} (Ok found) (Ok fetched.Missing)
unfolding unwrap_ok
no_miss found text h E e = let f : found ≡ fetched.Missing = ap (λ r. unwrap_ok r found) e in cc
