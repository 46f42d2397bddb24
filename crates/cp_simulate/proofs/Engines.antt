-- Shells that have done nothing yet, one after another.
use Rattle.std.proofs.Common.{◌≡◌, ℕ, zero, suc, ◌+◌, List, [], ◌∷◌, ◌++◌, length, length-append, subst, Some}
use Rattle.std.specs.Prelude.{slice_get}
use Rattle.cp_shell.specs.Shell.{ShellView}
use Rattle.cp_schedule.specs.Record.{AreNew}

each_more : {A : Type 0} (P : ℕ → A → Type 0) (xs : List A) (x : A) → ((i : ℕ) (y : A) → slice_get xs i ≡ Some y → P i y) → P (length xs) x → (i : ℕ) (y : A) → slice_get (xs ++ x ∷ []) i ≡ Some y → P i y
each_more P [] x before last zero y e = let same : x ≡ y = cc in subst (P 0) same last
each_more P [] x before last (suc i) y e = let w : ⊥ = cc in absurd w
each_more P (z ∷ xs) x before last zero y e = before 0 y e
each_more P (z ∷ xs) x before last (suc i) y e = each_more (λ j. P (suc j)) xs x (λ j t h. before (suc j) t h) last i y e

pub length_more : {A : Type 0} (xs : List A) (x : A) → length (xs ++ x ∷ []) ≡ length xs + 1
length_more xs x = length-append xs (x ∷ [])

pub one_more_new : {M Code : Type 0} (code : M → Code) (k : Code) (shells : List (ShellView M)) (s : ShellView M)
    → AreNew code k shells → s.number ≡ length shells + 1 → code s.machine ≡ k → s.items ≡ [] → AreNew code k (shells ++ s ∷ [])
one_more_new {M} {Code} code k shells s new number same idle = record {
  numbers = each_more (λ i (t : ShellView M). t.number ≡ i + 1) shells s new.numbers number;
  codes = each_more (λ i (t : ShellView M). code t.machine ≡ k) shells s new.codes same;
  idle = each_more (λ i (t : ShellView M). t.items ≡ []) shells s new.idle idle;
}
