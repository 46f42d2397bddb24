-- Modules in front of a goal.
use Rattle.std.proofs.Common.{◌≡◌, ℕ, None, List, [], ◌∷◌, refl, sym, ◌∙◌, ap}
use Rattle.cp_term.specs.declared.cell.Cell.{Cell}
use Rattle.cp_term.specs.declared.cell.Cell.TheVariants as cell
use Rattle.cp_heap.specs.declared.reference.Ref.{Ref}
use Rattle.cp_heap.specs.declared.word.Word.{Word}
use Rattle.cp_heap.specs.declared.word.Word.TheVariants as word
use Rattle.cp_heap.specs.Layout.{word_term}
use Rattle.cp_code.specs.Bodies.{Reads, within_module}
use Rattle.cp_control.specs.declared.control.Control.{Control}
use Rattle.cp_control.specs.declared.control.Control.TheVariants as control
use Rattle.cp_control.specs.Control.{IsNotWithin}

pub not-within : (c : Control) → ((a b : Ref) → c ≡ control.Within a b → ⊥) → IsNotWithin c
not-within (control.Within a b) h = h a b refl
not-within control.Cut h = tt
not-within control.True h = tt
not-within control.Fail h = tt
not-within (control.Both a b) h = tt
not-within (control.Either a b) h = tt
not-within (control.Choose c t e) h = tt
not-within (control.IfThen c t) h = tt
not-within (control.Not g) h = tt
not-within (control.Call g first count) h = tt
not-within (control.Catch g ball recovery) h = tt
not-within (control.Throw ball) h = tt
not-within (control.FindAll x g result) h = tt
not-within control.Plain h = tt
not-within control.NoGoal h = tt

-- in front of it stands no atom
pub no-module : (names : List (List ℕ)) (terms : List (List Cell)) (w : Word) (t : List Cell) (reads : Reads) → t ≡ word_term names terms w → ((n : ℕ) → w ≡ word.Atom n → ⊥) → within_module t reads ≡ None
no-module names terms (word.Variable v) t reads e h = ap (λ x. within_module x reads) e
no-module names terms (word.Integer i) t reads e h = ap (λ x. within_module x reads) e
no-module names terms (word.Atom n) t reads e h = absurd (h n refl)
no-module names terms (word.Compound k f first) t reads e h = ap (λ x. within_module x reads) e

pub a-module : (a m : List ℕ) (t : List Cell) (reads : Reads) → t ≡ cell.Atom a ∷ [] → m ≡ a → within_module t reads ≡ reads m
a-module a m t reads e f = ap (λ x. within_module x reads) e ∙ ap reads (sym f)
