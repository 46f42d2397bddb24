-- Files are loaded one after another: what comes of them is what the definition gathers, in a tree that has them.
use Rattle.std.proofs.Common.{◌≡◌, ℕ, zero, suc, ◌-◌, ◌<◌, ◌≤◌, refl, sym, ap, ◌∙◌, subst, false, Option, Some, None, List, [], ◌∷◌, ◌++◌, length, get_or, take, length-append, arith}
use Rattle.std.specs.Prelude.{cond, slice_get, IfSome, Result, Ok, Err}
use Rattle.std.specs.Str.{bytes_eq}
use Rattle.std.proofs.lemmas.Option.{slice_get_past, slice_get_within, slice_get_read}
use Rattle.cp_io.specs.Content.{Tree}
use Rattle.cp_module.specs.declared.refusal.Refusal.{Refusal}
use Rattle.cp_module.specs.Parts.{Part}
use Rattle.cp_link.specs.Kept.{fault_of}
use Rattle.cp_link.specs.Refusals.{Fault}
use Rattle.cp_load.specs.Gathering.{Gathered, Files, Refuses, Missing, TooBig, Takes, Ends, taken, is_known, known_after, step_fault, unless_refused, unless_ended, unless_last, without, gather, gathered}
use Rattle.cp_load.specs.declared.error.LoadError.{LoadError}
use Rattle.cp_load.specs.declared.error.LoadError.TheVariants as error
use Rattle.cp_load.specs.Reached.{TakesFile, Gathers, AgreeOn, IsReached, Reaches}
use Rattle.cp_load.proofs.KnownLaws.{same, turned, neither, not_before, HasGrown, after_grows, grown_length}

-- ---- trees

-- the files that are told, or none
pub told_or_none : (told : Option Tree) → (tree : Tree) × IfSome told (λ files. tree ≡ files)
told_or_none None = ((λ name. None), tt)
told_or_none (Some files) = (files, refl)

-- the tree with this content under this name
extended : Tree → (file : List ℕ) → Option (List ℕ) → Tree
extended tree file content name = cond (bytes_eq name file) content (tree name)

-- a tree with this content, which has the other files of a tree
pub record Extends (told : Option Tree) (tree : Tree) (file : List ℕ) (content : Option (List ℕ)) : Type 0 where
  pub wider : Tree
  pub is_told : IfSome told (λ files. wider ≡ files)
  pub has : wider file ≡ content
  pub others : (name : List ℕ) → bytes_eq name file ≡ false → wider name ≡ tree name

pub extend : (told : Option Tree) (tree : Tree) (file : List ℕ) (content : Option (List ℕ)) → IfSome told (λ files. tree ≡ files) → IfSome told (λ files. files file ≡ content) → Extends told tree file content
unfolding extended
extend None tree file content h k = record {
  wider = extended tree file content;
  is_told = tt;
  has = ap (λ b. cond b content (tree file)) (same file);
  others = λ name e. ap (λ b. cond b content (tree name)) e;
}
extend (Some files) tree file content h k = record { wider = tree; is_told = h; has = ap (λ (t : Tree). t file) h ∙ k; others = λ name e. refl }

agree_first : (a b : Tree) (xs ys : List (List ℕ)) → AgreeOn a b (xs ++ ys) → AgreeOn a b xs
agree_first a b [] ys h = tt
agree_first a b (x ∷ xs) ys h = (h.0, agree_first a b xs ys h.1)

agree_last : (a b : Tree) (xs : List (List ℕ)) (y : List ℕ) → AgreeOn a b (xs ++ y ∷ []) → a y ≡ b y
agree_last a b [] y h = h.0
agree_last a b (x ∷ xs) y h = agree_last a b xs y h.1

agree_narrow : (a wider tree : Tree) (file : List ℕ) → ((name : List ℕ) → bytes_eq name file ≡ false → wider name ≡ tree name) → (xs : List (List ℕ)) → is_known xs file ≡ false → AgreeOn a wider xs → AgreeOn a tree xs
agree_narrow a wider tree file others [] n h = tt
agree_narrow a wider tree file others (x ∷ xs) n h =
    let parts = neither (bytes_eq file x) (is_known xs file) n in
    (h.0 ∙ others x (turned file x (bytes_eq x file) parts.0 refl), agree_narrow a wider tree file others xs parts.1 h.1)

pub agree_itself : (a : Tree) (xs : List (List ℕ)) → AgreeOn a a xs
agree_itself a [] = tt
agree_itself a (x ∷ xs) = (refl, agree_itself a xs)

-- ---- one step of the definition

abbrev behind : (most : ℕ) → Tree → (known : List (List ℕ)) → List Part → Part → Gathered
behind most tree known parts p = unless_refused (step_fault known parts p) (gather most tree (known_after known p.file p.clauses) (parts ++ p ∷ []))

abbrev from_file : (most : ℕ) → Tree → (known : List (List ℕ)) → List Part → List ℕ → Gathered
from_file most tree known parts file = unless_ended (taken file (tree file)) (behind most tree known parts)

gather_end : (most : ℕ) (tree : Tree) (known : List (List ℕ)) (parts : List Part) → slice_get known (length parts) ≡ None → gather (suc most) tree known parts ≡ Files parts
gather_end most tree known parts s = ap (λ o. unless_last parts o (from_file most tree known parts)) s

gather_file : (most : ℕ) (tree : Tree) (known : List (List ℕ)) (parts : List Part) (file : List ℕ) → slice_get known (length parts) ≡ Some file → gather (suc most) tree known parts ≡ from_file most tree known parts file
gather_file most tree known parts file s = ap (λ o. unless_last parts o (from_file most tree known parts)) s

gather_ends : (most : ℕ) (tree : Tree) (known : List (List ℕ)) (parts : List Part) (file : List ℕ) (end : Gathered) → slice_get known (length parts) ≡ Some file → taken file (tree file) ≡ Ends end → gather (suc most) tree known parts ≡ end
gather_ends most tree known parts file end s t = gather_file most tree known parts file s ∙ ap (λ x. unless_ended x (behind most tree known parts)) t

gather_takes : (most : ℕ) (tree : Tree) (known : List (List ℕ)) (parts : List Part) (file : List ℕ) (p : Part)
    → slice_get known (length parts) ≡ Some file → taken file (tree file) ≡ Takes p → gather (suc most) tree known parts ≡ behind most tree known parts p
gather_takes most tree known parts file p s t = gather_file most tree known parts file s ∙ ap (λ x. unless_ended x (behind most tree known parts)) t

gather_refused : (most : ℕ) (tree : Tree) (known : List (List ℕ)) (parts : List Part) (file : List ℕ) (p : Part) (f : Fault)
    → slice_get known (length parts) ≡ Some file → taken file (tree file) ≡ Takes p → step_fault known parts p ≡ Some f → gather (suc most) tree known parts ≡ Refuses f
gather_refused most tree known parts file p f s t e =
    gather_takes most tree known parts file p s t ∙ ap (λ x. unless_refused x (gather most tree (known_after known p.file p.clauses) (parts ++ p ∷ []))) e

gather_more : (most : ℕ) (tree : Tree) (known : List (List ℕ)) (parts : List Part) (file : List ℕ) (p : Part)
    → slice_get known (length parts) ≡ Some file → taken file (tree file) ≡ Takes p → step_fault known parts p ≡ None
    → gather (suc most) tree known parts ≡ gather most tree (known_after known p.file p.clauses) (parts ++ p ∷ [])
gather_more most tree known parts file p s t e =
    gather_takes most tree known parts file p s t ∙ ap (λ x. unless_refused x (gather most tree (known_after known p.file p.clauses) (parts ++ p ∷ []))) e

-- ---- the files so far

take_next : (known : List (List ℕ)) (k : ℕ) (file : List ℕ) (more : List (List ℕ)) → slice_get known k ≡ Some file → take (suc k) (known ++ more) ≡ take k known ++ file ∷ []
take_next [] k file more s = cc
take_next (f ∷ known) zero file more s = let e : f ≡ file = cc in ap (λ x. x ∷ []) e
take_next (f ∷ known) (suc k) file more s = ap (λ xs. f ∷ xs) (take_next known k file more s)

one_longer : (parts : List Part) (p : Part) → length (parts ++ p ∷ []) ≡ suc (length parts)
one_longer parts p = length-append parts (p ∷ []) ∙ omega arith

pub at_first : (told : Option Tree) (name : List ℕ) → IsReached told name (name ∷ []) []
unfolding gathered
at_first told name =
    let t = told_or_none told in
    record { tree = t.0; is_told = t.1; room = omega arith; within = omega arith; distinct = (refl, tt); goes_on = λ other h. refl }

pub one_more : (told : Option Tree) (name : List ℕ) (known now : List (List ℕ)) (parts : List Part) (file : List ℕ) (content : Option (List ℕ)) (p : Part)
    → IsReached told name known parts → slice_get known (length parts) ≡ Some file → IfSome told (λ files. files file ≡ content) → taken file content ≡ Takes p
    → step_fault known parts p ≡ None → now ≡ known_after known p.file p.clauses → length now ≤ 64 → IsReached told name now (parts ++ p ∷ [])
one_more told name known now parts file content p r s k t e n room =
    let w = extend told r.tree file content r.is_told k in
    let lt : length parts < length known = slice_get_within known (length parts) file s in
    let g : HasGrown known now = subst (HasGrown known) (sym n) (after_grows known p.file p.clauses) in
    let longer : length known ≤ length now = grown_length known now g in
    let len : length (parts ++ p ∷ []) ≡ suc (length parts) = one_longer parts p in
    let first : take (length (parts ++ p ∷ [])) now ≡ take (length parts) known ++ file ∷ []
    = ap (λ m. take m now) len ∙ ap (take (suc (length parts))) g.is_now ∙ take_next known (length parts) file g.more s in
    record {
      tree = w.wider;
      is_told = w.is_told;
      room = room;
      within = omega arith;
      distinct = g.distinct r.distinct;
      goes_on = λ other h.
          let agree = subst (AgreeOn other w.wider) first h in
          let here : other file ≡ content = agree_last other w.wider (take (length parts) known) file agree ∙ w.has in
          let before = agree_narrow other w.wider r.tree file w.others (take (length parts) known) (not_before known (length parts) file r.distinct s) (agree_first other w.wider (take (length parts) known) (file ∷ []) agree) in
          let bound : 65 - length parts ≡ suc (64 - length parts) = omega (arith, r.room) in
          let less : 64 - length parts ≡ 65 - length (parts ++ p ∷ []) = omega arith in
          r.goes_on other before
          ∙ ap (λ m. gather m other known parts) bound
          ∙ gather_more (64 - length parts) other known parts file p s (ap (taken file) here ∙ t) e
          ∙ ap (λ m. gather m other (known_after known p.file p.clauses) (parts ++ p ∷ [])) less
          ∙ ap (λ ks. gather (65 - length (parts ++ p ∷ [])) other ks (parts ++ p ∷ [])) (sym n);
    }

-- the tree in which the next file has this content, and what the files are in it
pub record Stops (told : Option Tree) (name : List ℕ) (end : Gathered) : Type 0 where
  pub tree : Tree
  pub is_told : IfSome told (λ files. tree ≡ files)
  pub gathers : gathered tree name ≡ end

in_wider : (told : Option Tree) (name : List ℕ) (known : List (List ℕ)) (parts : List Part) (file : List ℕ) (content : Option (List ℕ)) (end : Gathered)
    → IsReached told name known parts → slice_get known (length parts) ≡ Some file → IfSome told (λ files. files file ≡ content)
    → ((tree : Tree) → tree file ≡ content → gather (suc (64 - length parts)) tree known parts ≡ end) → Stops told name end
in_wider told name known parts file content end r s k go =
    let w = extend told r.tree file content r.is_told k in
    let lt : length parts < length known = slice_get_within known (length parts) file s in
    let bound : 65 - length parts ≡ suc (64 - length parts) = omega (arith, r.room) in
    let before = agree_narrow w.wider w.wider r.tree file w.others (take (length parts) known) (not_before known (length parts) file r.distinct s) (agree_itself w.wider (take (length parts) known)) in
    record {
      tree = w.wider;
      is_told = w.is_told;
      gathers = r.goes_on w.wider before ∙ ap (λ m. gather m w.wider known parts) bound ∙ go w.wider w.has;
    }

-- the next file ends the loading
pub ends_here : (told : Option Tree) (name : List ℕ) (known : List (List ℕ)) (parts : List Part) (file : List ℕ) (content : Option (List ℕ)) (end : Gathered)
    → IsReached told name known parts → slice_get known (length parts) ≡ Some file → IfSome told (λ files. files file ≡ content) → taken file content ≡ Ends end → Stops told name end
ends_here told name known parts file content end r s k t =
    in_wider told name known parts file content end r s k (λ tree h. gather_ends (64 - length parts) tree known parts file end s (ap (taken file) h ∙ t))

pub refused_here : (told : Option Tree) (name : List ℕ) (known : List (List ℕ)) (parts : List Part) (file : List ℕ) (content : Option (List ℕ)) (p : Part) (f : Fault)
    → IsReached told name known parts → slice_get known (length parts) ≡ Some file → IfSome told (λ files. files file ≡ content) → taken file content ≡ Takes p → step_fault known parts p ≡ Some f
    → Stops told name (Refuses f)
refused_here told name known parts file content p f r s k t e =
    in_wider told name known parts file content (Refuses f) r s k (λ tree h. gather_refused (64 - length parts) tree known parts file p f s (ap (taken file) h ∙ t) e)

-- all that are known are loaded
pub at_end : (told : Option Tree) (name : List ℕ) (known : List (List ℕ)) (parts : List Part) → IsReached told name known parts → length known ≤ length parts → Stops told name (Files parts)
at_end told name known parts r past =
    let bound : 65 - length parts ≡ suc (64 - length parts) = omega (arith, r.room, r.within) in
    record {
      tree = r.tree;
      is_told = r.is_told;
      gathers = r.goes_on r.tree (agree_itself r.tree (take (length parts) known)) ∙ ap (λ m. gather m r.tree known parts) bound ∙ gather_end (64 - length parts) r.tree known parts (slice_get_past known (length parts) past);
    }

-- ---- the same of answers

-- want of memory, with any files
pub gathers_nothing : (told : Option Tree) (name : List ℕ) (answer : Result (List Part) LoadError) (e : LoadError) → answer ≡ Err e → e ≡ error.NoMemory → Gathers told name answer
gathers_nothing told name answer e h n =
    let t = told_or_none told in
    let P : Result (List Part) LoadError → Type 0 = λ a. Gathers told name a in
    subst P (sym (h ∙ ap Err n)) (t.0, t.1, tt)

pub gathers_all : (told : Option Tree) (name : List ℕ) (known : List (List ℕ)) (parts : List Part) → IsReached told name known parts → length known ≤ length parts → Gathers told name (Ok parts)
gathers_all told name known parts r past = let s = at_end told name known parts r past in (s.tree, s.is_told, s.gathers)

-- loading ends in the middle
pub gathers_not : (told : Option Tree) (name : List ℕ) (known : List (List ℕ)) (parts : List Part) (answer : Result (List Part) LoadError) (e y : LoadError)
    → Reaches told name known parts (Err e) → answer ≡ Err y → y ≡ e → Gathers told name answer
gathers_not told name known parts answer e y r h s =
    let P : Result (List Part) LoadError → Type 0 = λ a. Gathers told name a in
    subst P (sym (h ∙ ap Err s)) (r.0, r.1, r.2)

-- the file that is next is missed where it is not there
fault_here : (told : Option Tree) (name : List ℕ) (known : List (List ℕ)) (parts : List Part) (file : List ℕ) (r : IsReached told name known parts) → slice_get known (length parts) ≡ Some file → gathered (without file r.tree) name ≡ Missing file
fault_here told name known parts file r s =
    let others : (n : List ℕ) → bytes_eq n file ≡ false → without file r.tree n ≡ r.tree n = λ n e. ap (λ b. cond b None (r.tree n)) e in
    let has : without file r.tree file ≡ None = ap (λ b. cond b None (r.tree file)) (same file) in
    let lt : length parts < length known = slice_get_within known (length parts) file s in
    let bound : 65 - length parts ≡ suc (64 - length parts) = omega (arith, r.room) in
    let before = agree_narrow (without file r.tree) (without file r.tree) r.tree file others (take (length parts) known) (not_before known (length parts) file r.distinct s) (agree_itself (without file r.tree) (take (length parts) known)) in
    r.goes_on (without file r.tree) before ∙ ap (λ m. gather m (without file r.tree) known parts) bound
    ∙ gather_ends (64 - length parts) (without file r.tree) known parts file (Missing file) s (ap (taken file) has)

not_taken : (told : Option Tree) (name : List ℕ) (known after : List (List ℕ)) (parts now : List Part) (file : List ℕ) (e : LoadError)
    → IsReached told name known parts → slice_get known (length parts) ≡ Some file → TakesFile told file (Err e) → Reaches told name after now (Err e)
not_taken told name known after parts now file (error.Refused r) h s t = let x = ends_here told name known parts file t.0 (Refuses (fault_of r)) h s t.1 t.2 in (x.tree, x.is_told, x.gathers)
not_taken told name known after parts now file (error.Missing f) h s t = let x = ends_here told name known parts file t.0 (Missing f) h s t.1 t.2 in (x.tree, x.is_told, x.gathers)
not_taken told name known after parts now file (error.FileTooBig f) h s t = let x = ends_here told name known parts file t.0 (TooBig f) h s t.1 t.2 in (x.tree, x.is_told, x.gathers)
not_taken told name known after parts now file (error.FileFault f) h s t =
    let P : List ℕ → Type 0 = λ x. gathered (without x h.tree) name ≡ Missing x in
    (h.tree, h.is_told, subst P (sym t.2) (fault_here told name known parts file h s))
not_taken told name known after parts now file error.NoMemory h s t = (h.tree, h.is_told, tt)

-- the next file is no part
pub reaches_no_part : (told : Option Tree) (name : List ℕ) (known after : List (List ℕ)) (parts now : List Part) (file : List ℕ) (e y : LoadError) (answer : Result (Unit {0}) LoadError)
    → IsReached told name known parts → slice_get known (length parts) ≡ Some file → TakesFile told file (Err e) → answer ≡ Err y → y ≡ e → Reaches told name after now answer
reaches_no_part told name known after parts now file e y answer h s t a b =
    let P : Result (Unit {0}) LoadError → Type 0 = λ x. Reaches told name after now x in
    subst P (sym (a ∙ ap Err b)) (not_taken told name known after parts now file e h s t)

-- want of memory in the middle
pub reaches_nothing : (told : Option Tree) (name : List ℕ) (known after : List (List ℕ)) (parts now : List Part) (e : LoadError) (answer : Result (Unit {0}) LoadError)
    → IsReached told name known parts → answer ≡ Err e → e ≡ error.NoMemory → Reaches told name after now answer
reaches_nothing told name known after parts now e answer h a b =
    let P : Result (Unit {0}) LoadError → Type 0 = λ x. Reaches told name after now x in
    subst P (sym (a ∙ ap Err b)) (h.tree, h.is_told, tt)

-- the file that is next
pub file_next : (known seen : List (List ℕ)) (parts : List Part) (n : ℕ) (x file : List ℕ) → seen ≡ known → n ≡ length parts → length parts < length known → x ≡ get_or seen n x → file ≡ x → slice_get known (length parts) ≡ Some file
file_next known seen parts n x file s m lt g f =
    let here : x ≡ get_or known (length parts) x = g ∙ (λ i. get_or (s i) (m i) x) in
    slice_get_read known (length known) (length parts) x refl lt here ∙ ap Some (sym f)

-- the next file is refused
pub refused_reached : (told : Option Tree) (name : List ℕ) (known : List (List ℕ)) (parts seen : List Part) (file : List ℕ) (p : Part) (r : Refusal)
    → IsReached told name known parts → slice_get known (length parts) ≡ Some file → TakesFile told file (Ok p) → seen ≡ parts → Some (fault_of r) ≡ step_fault known seen p
    → (tree : Tree) × IfSome told (λ files. tree ≡ files) × (gathered tree name ≡ Refuses (fault_of r))
refused_reached told name known parts seen file p r h s t e f =
    let x = refused_here told name known parts file t.0 p (fault_of r) h s t.1 t.2 (ap (λ ps. step_fault known ps p) (sym e) ∙ sym f) in
    (x.tree, x.is_told, x.gathers)

-- the next file is loaded
pub more_reached : (told : Option Tree) (name : List ℕ) (known now : List (List ℕ)) (parts seen after : List Part) (file : List ℕ) (p : Part)
    → IsReached told name known parts → slice_get known (length parts) ≡ Some file → TakesFile told file (Ok p) → seen ≡ parts → None ≡ step_fault known seen p
    → now ≡ known_after known p.file p.clauses → length now ≤ 64 → after ≡ parts ++ p ∷ [] → IsReached told name now after
more_reached told name known now parts seen after file p h s t e f n room a =
    subst (IsReached told name now) (sym a) (one_more told name known now parts file t.0 p h s t.1 t.2 (ap (λ ps. step_fault known ps p) (sym e) ∙ sym f) n room)

-- no file is loaded yet
pub first_reached : (told : Option Tree) (name file : List ℕ) (none known : List (List ℕ)) (parts : List Part) → file ≡ name → none ≡ [] → known ≡ none ++ file ∷ [] → parts ≡ [] → IsReached told name known parts
first_reached told name file none known parts f n k p =
    let e : known ≡ name ∷ [] = k ∙ (λ i. n i ++ f i ∷ []) in
    let P : List (List ℕ) → Type 0 = λ ks. IsReached told name ks parts in
    subst P (sym e) (subst (IsReached told name (name ∷ [])) (sym p) (at_first told name))
