-- The rows of a map are those that its entries are.
use Rattle.std.proofs.Common.{◌≡◌, ℕ, true, false, cond, List, [], ◌∷◌, map, refl, sym, ap}
use Rattle.std.specs.Prelude.{Some}
use Rattle.std.specs.Str.{bytes_eq}
use Rattle.std.specs.Map.{lookup}
use Rattle.std.proofs.lemmas.Slice.Eq.{bytes_eq-Decides}
use Rattle.indexmap.specs.IndexMap.{insert_entry, shift_remove_entry}
use Rattle.cp_ops.specs.declared.fix.Fix.{Fix}
use Rattle.cp_ops.specs.Operators.{look_up, with_row, without_row}
use Rattle.cp_ops.specs.Rows.{row_of}

pub look_up-rows : (name : List ℕ) (es : List (List ℕ × (ℕ × Fix))) → lookup (bytes_eq name) es ≡ look_up (map row_of es) name
look_up-rows name [] = refl
look_up-rows name (e ∷ es) = ap (λ o. cond (bytes_eq name e.0) (Some e.1) o) (look_up-rows name es)

pub without_row-rows : (name : List ℕ) (es : List (List ℕ × (ℕ × Fix))) → map row_of (shift_remove_entry (bytes_eq name) es) ≡ without_row name (map row_of es)
without_row-rows name [] = refl
without_row-rows name (e ∷ es) =
    elim (bytes_eq name e.0) as (λ b. map row_of (cond b es (e ∷ shift_remove_entry (bytes_eq name) es)) ≡ cond b (map row_of es) (row_of e ∷ without_row name (map row_of es))) [
      | true ↦ refl
      | false ↦ ap (λ rows. row_of e ∷ rows) (without_row-rows name es)
    ]

renamed : (a b : List ℕ) (v : ℕ × Fix) → bytes_eq a b ≡ true → row_of (b, v) ≡ row_of (a, v)
renamed a b v e = ap (λ n. row_of (n, v)) (sym ((bytes_eq-Decides a b).0 e))

pub with_row-rows : (name : List ℕ) (v : ℕ × Fix) (es : List (List ℕ × (ℕ × Fix))) → map row_of (insert_entry bytes_eq es name v) ≡ with_row (row_of (name, v)) (map row_of es)
with_row-rows name v [] = refl
with_row-rows name v (e ∷ es) =
    elim (bytes_eq name e.0) as (λ b. bytes_eq name e.0 ≡ b → map row_of (cond b ((e.0, v) ∷ es) (e ∷ insert_entry bytes_eq es name v)) ≡ cond b (row_of (name, v) ∷ map row_of es) (row_of e ∷ with_row (row_of (name, v)) (map row_of es))) [
      | true ↦ λ h. ap (λ r. r ∷ map row_of es) (renamed name e.0 v h)
      | false ↦ λ h. ap (λ rows. row_of e ∷ rows) (with_row-rows name v es)
    ] refl
