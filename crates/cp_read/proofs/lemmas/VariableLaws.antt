-- The table of variables.
use Rattle.std.proofs.Common.{◌≡◌, ℕ, ◌+◌, false, cond, List, [], ◌∷◌, map, refl, sym, ◌∙◌, ap}
use Rattle.std.specs.Prelude.{Some, None, unwrap_or, is_some, codes}
use Rattle.std.specs.Str.{bytes_eq}
use Rattle.std.specs.Borrow.{Bor}
use Rattle.std.specs.Map.{lookup}
use Rattle.cp_read.specs.SeenNames.{Seen, number_in, number_of, seen_with, with_new}
use Rattle.cp_read.specs.Seen.{named_entry}

-- a look-up in the table finds the number of the name
pub number_in-lookup : (v : List ℕ) (entries : List (Bor (List ℕ) × ℕ)) → number_in (map named_entry entries) v ≡ lookup (λ (y : Bor (List ℕ)). bytes_eq v y.now) entries
number_in-lookup v [] = refl
number_in-lookup v (e ∷ es) = ap (λ o. cond (bytes_eq v e.0.now) (Some e.1) o) (number_in-lookup v es)

module _ (seen : Seen) (v : List ℕ) (named : bytes_eq v (codes "_") ≡ false) where
  pub number_of-known : (n : ℕ) → number_in seen.names v ≡ Some n → n ≡ number_of seen v
  number_of-known n found =
      sym (ap (λ b. cond b seen.count (unwrap_or (number_in seen.names v) seen.count)) named ∙ ap (λ o. unwrap_or o seen.count) found)

  pub seen_with-known : (n : ℕ) → number_in seen.names v ≡ Some n → seen ≡ seen_with seen v
  seen_with-known n found =
      sym (ap (λ b. cond b (record { names = seen.names; count = seen.count + 1 }) (cond (is_some (number_in seen.names v)) seen (with_new seen v))) named
      ∙ ap (λ o. cond (is_some o) seen (with_new seen v)) found)

  pub number_of-new : number_in seen.names v ≡ None → seen.count ≡ number_of seen v
  number_of-new none =
      sym (ap (λ b. cond b seen.count (unwrap_or (number_in seen.names v) seen.count)) named ∙ ap (λ o. unwrap_or o seen.count) none)

  pub seen_with-new : number_in seen.names v ≡ None → with_new seen v ≡ seen_with seen v
  seen_with-new none =
      sym (ap (λ b. cond b (record { names = seen.names; count = seen.count + 1 }) (cond (is_some (number_in seen.names v)) seen (with_new seen v))) named
      ∙ ap (λ o. cond (is_some o) seen (with_new seen v)) none)

pub seen-is : (names more : List (List ℕ × ℕ)) (count next : ℕ) → names ≡ more → count ≡ next
    → ◌≡◌ {A = Seen} (record { names = names; count = count }) (record { names = more; count = next })
seen-is names more count next e f =
    ap (λ (ns : List (List ℕ × ℕ)). let s : Seen = record { names = ns; count = count } in s) e
    ∙ ap (λ (n : ℕ). let s : Seen = record { names = more; count = n } in s) f
