-- The codes that terms are, one after another.
use Rattle.std.proofs.Common.{◌≡◌, ℕ, ◌+◌, ◌<◌, List, [], ◌∷◌, ◌++◌, length, get_or, drop, drop-cons, add-one, refl, sym, ◌∙◌, ap}
use Rattle.std.specs.Prelude.{Result, Ok, Err}
use Rattle.cp_term.specs.declared.cell.Cell.{Cell}
use Rattle.cp_goal.specs.Lists.{code_of, code_before, codes_of}
use Rattle.cp_heap.specs.declared.reference.Ref.{Ref}
use Rattle.cp_heap.specs.State.{State, instance_at}
use Rattle.cp_lists.specs.declared.text_error.TextError.{TextError}
use Rattle.cp_lists.specs.declared.text_error.TextError.TheVariants.{Unbound, NotList, NotInteger, NotCode, NoMemory}
use Rattle.cp_lists.specs.Places.{instances}
use Rattle.cp_lists.specs.Texts.{Reads, codes_before}

pub codes_before-push : (cs : List ℕ) (c : ℕ) (read : Result (List ℕ) (List Cell)) → codes_before (cs ++ c ∷ []) read ≡ codes_before cs (code_before (Ok c) read)
codes_before-push [] c read = refl
codes_before-push (d ∷ cs) c read = ap (code_before (Ok d)) (codes_before-push cs c read)

pub codes_before-nil : (cs : List ℕ) → codes_before cs (Ok []) ≡ Ok cs
codes_before-nil [] = refl
codes_before-nil (c ∷ cs) = ap (code_before (Ok c)) (codes_before-nil cs)

pub codes_before-err : (cs : List ℕ) (e : List Cell) → codes_before cs (Err e) ≡ Err e
codes_before-err [] e = refl
codes_before-err (c ∷ cs) e = ap (code_before (Ok c)) (codes_before-err cs e)

module _ (h : State) (items : List Ref) (i : ℕ) (d : Ref) (within : i < length items) where
  at_place : codes_of (instances h (drop i items)) ≡ code_before (code_of (instance_at h (get_or items i d).at)) (codes_of (instances h (drop (i + 1) items)))
  at_place =
      ap (λ rs. codes_of (instances h rs)) (drop-cons items i d within)
      ∙ ap (λ k. code_before (code_of (instance_at h (get_or items i d).at)) (codes_of (instances h (drop k items)))) (sym (add-one i))

  pub code_next : (whole : Result (List ℕ) (List Cell)) (cs : List ℕ) (c : ℕ)
      → whole ≡ codes_before cs (codes_of (instances h (drop i items))) → code_of (instance_at h (get_or items i d).at) ≡ Ok c
      → whole ≡ codes_before (cs ++ c ∷ []) (codes_of (instances h (drop (i + 1) items)))
  code_next whole cs c is code =
      is ∙ ap (codes_before cs) (at_place ∙ ap (λ r. code_before r (codes_of (instances h (drop (i + 1) items)))) code)
      ∙ sym (codes_before-push cs c (codes_of (instances h (drop (i + 1) items))))

  first_error : (whole : Result (List ℕ) (List Cell)) (cs : List ℕ) (e : List Cell)
      → whole ≡ codes_before cs (codes_of (instances h (drop i items))) → code_of (instance_at h (get_or items i d).at) ≡ Err e → whole ≡ Err e
  first_error whole cs e is code =
      is ∙ ap (codes_before cs) (at_place ∙ ap (λ r. code_before r (codes_of (instances h (drop (i + 1) items)))) code) ∙ codes_before-err cs e

  pub error_first : (whole : Result (List ℕ) (List Cell)) (cs : List ℕ) (e : TextError)
      → whole ≡ codes_before cs (codes_of (instances h (drop i items)))
      → Reads {X = ℕ} h (Err e) (code_of (instance_at h (get_or items i d).at)) → Reads {X = List ℕ} h (Err e) whole
  error_first whole cs Unbound is (kind, code, tells) = (kind, first_error whole cs kind is code, tells)
  error_first whole cs (NotList r) is (kind, code, tells) = (kind, first_error whole cs kind is code, tells)
  error_first whole cs (NotInteger r) is (kind, code, tells) = (kind, first_error whole cs kind is code, tells)
  error_first whole cs NotCode is (kind, code, tells) = (kind, first_error whole cs kind is code, tells)
  error_first whole cs NoMemory is read = tt
