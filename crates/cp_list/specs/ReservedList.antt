-- What a contract sees of a list with room that is taken ahead.
use Rattle.std.specs.Prelude.{ℕ, List, refl}
use Rattle.std.specs.Coded.{Coded, code_by, coded×, coded_list, coded_ℕ}

-- the items in order, and how many more are sure to fit without taking memory
pub record ReservedList (T : Type 0) : Type 0 where
  pub items : List T
  pub spare : ℕ

-- it is stored as the pair of its items and its spare room
abbrev pub reserved_list_code : {T : Type 0} → Coded T → Coded (ReservedList T)
reserved_list_code {T} code =
    code_by (List T × ℕ) (coded× (coded_list code) coded_ℕ) (λ l. (l.items, l.spare)) (λ p. record { items = p.0; spare = p.1 }) (λ _. refl)
