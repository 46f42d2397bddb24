-- Terms whose keys do not agree do not unify.
use Rattle.std.specs.Prelude.{◌≡◌, ℕ, ◌+◌, Bool, true, false, cond, List, [], ◌∷◌, is_some}
use Rattle.std.proofs.Common.{refl, sym, ap, ◌∙◌}
use Rattle.std.proofs.lemmas.Bool.{false≢true}
use Rattle.cp_term.specs.declared.cell.Cell.{Cell}
use Rattle.cp_term.specs.declared.cell.Cell.TheVariants.{Var, Int, Atom, Func}
use Rattle.cp_term.specs.CellEq.{cell_eq}
use Rattle.cp_term.specs.Numbering.{next_variable, fresh, renamed}
use Rattle.cp_term.specs.Unification.{unify_by, unifiable_apart, disagreement, Disagreement, Clash}
use Rattle.cp_counted.specs.declared.key.Key.{Key}
use Rattle.cp_counted.specs.declared.key.Key.TheVariants as key
use Rattle.cp_counted.specs.declared.key.Key.TheVariants.{Missing}
use Rattle.cp_counted.specs.Keys.{term_key, cell_key, keys_agree}

apart_arguments : (c d : Cell) (cs ds : List Cell) → keys_agree (cell_key c) (cell_key d) ≡ false → disagreement (c ∷ cs) (d ∷ ds) ≡ Clash
apart_arguments (Var u) d cs ds h = absurd (false≢true (sym h))
apart_arguments (Int i) (Var v) cs ds h = absurd (false≢true (sym h))
apart_arguments (Atom a) (Var v) cs ds h = absurd (false≢true (sym h))
apart_arguments (Func f j) (Var v) cs ds h = absurd (false≢true (sym h))
apart_arguments (Int i) (Int j) cs ds h = rw h refl
apart_arguments (Int i) (Atom b) cs ds h = refl
apart_arguments (Int i) (Func g k) cs ds h = refl
apart_arguments (Atom a) (Int j) cs ds h = refl
apart_arguments (Atom a) (Atom b) cs ds h = rw h refl
apart_arguments (Atom a) (Func g k) cs ds h = refl
apart_arguments (Func f j) (Int i) cs ds h = refl
apart_arguments (Func f j) (Atom b) cs ds h = refl
apart_arguments (Func f j) (Func g k) cs ds h = rw h refl

renamed_key : (f : ℕ → ℕ) (c : Cell) → cell_key (renamed f c) ≡ cell_key c
renamed_key f (Var v) = refl
renamed_key f (Int i) = refl
renamed_key f (Atom a) = refl
renamed_key f (Func g k) = refl

-- two compound terms, the one with its variables renamed
apart_compounds : (same : Bool) (n : ℕ) (c d : Cell) (cs ds : List Cell) → keys_agree (cell_key c) (cell_key d) ≡ false
    → cond same (disagreement (c ∷ cs) (fresh n (d ∷ ds))) Clash ≡ Clash
apart_compounds false n c d cs ds h = refl
apart_compounds true n c d cs ds h = apart_arguments c (renamed (λ v. v + n) d) cs (fresh n ds) (ap (keys_agree (cell_key c)) (renamed_key (λ v. v + n) d) ∙ h)

missing_agrees : (k : Key) → keys_agree k Missing ≡ true
missing_agrees Missing = refl
missing_agrees (key.Int i) = refl
missing_agrees (key.Atom a) = refl
missing_agrees (key.Func f k) = refl

apart_terms : (n : ℕ) (a b : List Cell) → keys_agree (term_key a) (term_key b) ≡ false → disagreement a (fresh n b) ≡ Clash
apart_terms n (Func f j ∷ c ∷ cs) (Func g k ∷ d ∷ ds) h = apart_compounds (cell_eq (Func f j) (Func g k)) n c d cs ds h
apart_terms n [] b h = absurd (false≢true (sym h))
apart_terms n (Var u ∷ cs) b h = absurd (false≢true (sym h))
apart_terms n (Int i ∷ cs) b h = absurd (false≢true (sym h))
apart_terms n (Atom a ∷ cs) b h = absurd (false≢true (sym h))
apart_terms n (Func f j ∷ []) b h = absurd (false≢true (sym h))
apart_terms n (Func f j ∷ c ∷ cs) [] h = absurd (false≢true (sym h ∙ missing_agrees (cell_key c)))
apart_terms n (Func f j ∷ c ∷ cs) (Var v ∷ ds) h = absurd (false≢true (sym h ∙ missing_agrees (cell_key c)))
apart_terms n (Func f j ∷ c ∷ cs) (Int i ∷ ds) h = absurd (false≢true (sym h ∙ missing_agrees (cell_key c)))
apart_terms n (Func f j ∷ c ∷ cs) (Atom b ∷ ds) h = absurd (false≢true (sym h ∙ missing_agrees (cell_key c)))
apart_terms n (Func f j ∷ c ∷ cs) (Func g k ∷ []) h = absurd (false≢true (sym h ∙ missing_agrees (cell_key c)))

clash_is_none : (m : ℕ) (a b : List Cell) (d : Disagreement) → d ≡ Clash → is_some (unify_by m [] a b d) ≡ true → ⊥
clash_is_none m a b d e h = false≢true (ap (λ x. is_some (unify_by m [] a b x)) (sym e) ∙ h)

by_test : (t : Bool) → (t ≡ false → ⊥) → t ≡ true
by_test true f = refl
by_test false f = absurd (f refl)

pub agree_from_unifiable : (a b : List Cell) → unifiable_apart a b ≡ true → keys_agree (term_key a) (term_key b) ≡ true
agree_from_unifiable a b h = by_test (keys_agree (term_key a) (term_key b))
    (λ e. clash_is_none _ a (fresh (next_variable a) b) (disagreement a (fresh (next_variable a) b)) (apart_terms (next_variable a) a b e) h)
