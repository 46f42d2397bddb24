-- One cell of a pattern against the first of terms.
use Rattle.std.proofs.Common.{◌≡◌, ℕ, true, false, List, [], ◌∷◌, ◌++◌, refl, sym, ◌∙◌, ap, append_assoc}
use Rattle.std.specs.Prelude.{Option, Some, None, if◌then◌else◌}
use Rattle.std.proofs.lemmas.Bool.{false≢true}
use Rattle.cp_term.specs.declared.cell.Cell.{Cell}
use Rattle.cp_term.specs.declared.cell.Cell.TheVariants.{Var, Int, Atom, Func}
use Rattle.cp_term.specs.CellEq.{cell_eq, cell_eq-true}
use Rattle.cp_term.specs.Preorder.{arity_of, is_terms}
use Rattle.cp_term.specs.Preorder.{drop_terms}
use Rattle.cp_term.proofs.lemmas.PreorderLaws.{take_terms-append, drop_terms-append}
use Rattle.cp_goal.specs.Builtins.{is_bound_cell}
use Rattle.cp_code.specs.Properties.{Place, with_place, matched}
use Rattle.cp_props.specs.Pending.{behind_first, first_arity}
use Rattle.cp_props.specs.Patterns.{begins_with, found}

-- ---- a variable

found-one : (places : List Place) (v : ℕ) (t : List Cell) (rest : Option (List Place)) → found places (with_place v t rest) ≡ found (places ++ (record { var = v; term = t }) ∷ []) rest
found-one places v t None = refl
found-one places v t (Some more) = ap (λ ps. Some ps) (sym (append_assoc places ((record { var = v; term = t }) ∷ []) more))

pub variable_matched : (places : List Place) (v : ℕ) (t : List Cell) → is_terms 1 t ≡ true → (rest terms : List Cell)
    → found places (matched (Var v ∷ rest) (t ++ terms)) ≡ found (places ++ (record { var = v; term = t }) ∷ []) (matched rest terms)
variable_matched places v t h rest terms =
    ap (λ x. found places (with_place v x (matched rest (drop_terms 1 (t ++ terms))))) (take_terms-append 1 t terms h)
    ∙ ap (λ ts. found places (with_place v t (matched rest ts))) (drop_terms-append 1 t terms h)
    ∙ found-one places v t (matched rest terms)

-- ---- any other cell

bound_first : (c d : Cell) (rest terms : List Cell) → is_bound_cell c ≡ true → matched (c ∷ rest) (d ∷ terms) ≡ (if cell_eq c d then matched rest terms else None)
bound_first (Var v) d rest terms b = absurd (false≢true b)
bound_first (Int i) d rest terms b = refl
bound_first (Atom a) d rest terms b = refl
bound_first (Func f k) d rest terms b = refl

pub same_matched : (c : Cell) (t rest terms : List Cell) → is_bound_cell c ≡ true → begins_with c t ≡ true → matched (c ∷ rest) (t ++ terms) ≡ matched rest (behind_first t ++ terms)
same_matched c [] rest terms b same = absurd (false≢true same)
same_matched c (d ∷ t) rest terms b same =
    bound_first c d rest (t ++ terms) b ∙ ap (λ x. if x then matched rest (t ++ terms) else None) same

pub same_arity : (c : Cell) (t : List Cell) → begins_with c t ≡ true → first_arity t ≡ arity_of c
same_arity c [] same = absurd (false≢true same)
same_arity c (d ∷ t) same = ap arity_of (sym (cell_eq-true c d same))

pub other_matched : (c : Cell) (t rest terms : List Cell) → is_bound_cell c ≡ true → is_terms 1 t ≡ true → begins_with c t ≡ false → matched (c ∷ rest) (t ++ terms) ≡ None
other_matched c [] rest terms b h other = absurd (false≢true h)
other_matched c (d ∷ t) rest terms b h other =
    bound_first c d rest (t ++ terms) b ∙ ap (λ x. if x then matched rest (t ++ terms) else None) other
