-- The modules of the files of a program, and the files.
use Rattle.std.proofs.Common.{◌≡◌, ℕ, zero, suc, ◌≤◌, refl, sym, ap, ◌∙◌, Bool, true, false, Some, None, Option, List, [], ◌∷◌, map, length, slice_get, arith}
use Rattle.std.specs.Prelude.{nat_lt, cond, position, find}
use Rattle.std.specs.Option.{option_map}
use Rattle.std.specs.List.{position_or_len}
use Rattle.std.proofs.lemmas.Bool.{ltb-false}
use Rattle.std.proofs.lemmas.List.Folds.{find_at}
use Rattle.std.proofs.lemmas.Option.{slice_get-map}
use Rattle.cp_declaration.specs.declared.indicator.Indicator.{Indicator}
use Rattle.cp_module.specs.Parts.{Part}
use Rattle.cp_link.specs.Exported.{shown}
use Rattle.cp_link.specs.Imports.{from_part}
use Rattle.cp_link.specs.Refusals.{lacks}
use Rattle.cp_link.specs.Kept.{from_module, lacks_of}

pub from_same : (imports : Option (List Indicator)) (part : Option Part) → from_module imports (option_map shown part) ≡ from_part imports part
from_same imports None = refl
from_same imports (Some q) = refl

pub lacks_same : (imports : Option (List Indicator)) (part : Option Part) → lacks_of (option_map shown part) imports ≡ lacks part imports
lacks_same imports None = refl
lacks_same None (Some q) = refl
lacks_same (Some preds) (Some q) = refl

which : (b : Bool) (n at : ℕ) → Some at ≡ cond b (Some n) None → at ≡ n
which true n at e = cc
which false n at e = cc

past : {X : Type 0} (xs : List X) (i : ℕ) → length xs ≤ i → slice_get xs i ≡ None
past [] i h = refl
past (x ∷ xs) zero h = absurd (omega arith)
past (x ∷ xs) (suc i) h = past xs i (omega arith)

pub module_there : (f : Part → Bool) (parts : List Part) (at : ℕ) → Some at ≡ position f parts → slice_get (map shown parts) at ≡ option_map shown (find f parts)
module_there f parts at e =
    slice_get-map shown parts at
    ∙ ap (λ n. option_map shown (slice_get parts n)) (which (nat_lt (position_or_len f parts) (length parts)) (position_or_len f parts) at e)
    ∙ ap (option_map shown) (sym (find_at f parts))

pub module_missing : (f : Part → Bool) (parts : List Part) → None ≡ position f parts → None ≡ option_map shown (find f parts)
module_missing f parts e = go (nat_lt (position_or_len f parts) (length parts)) refl e
  where
    go : (b : Bool) → nat_lt (position_or_len f parts) (length parts) ≡ b → None ≡ cond b (Some (position_or_len f parts)) None → None ≡ option_map shown (find f parts)
    go true h none = cc
    go false h none = ap (option_map shown) (sym (find_at f parts ∙ past parts (position_or_len f parts) (ltb-false (position_or_len f parts) (length parts) h)))
