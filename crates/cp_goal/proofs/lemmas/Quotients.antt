-- What the quotient towards zero leaves.
use Rattle.std.proofs.Common.{◌≡◌, ◌∙◌, ℤ, ◌-ℤ◌, ◌*ℤ◌, sym, ap}
use Rattle.std.specs.Prelude.{int_div, int_rem}
use Rattle.std.proofs.Math.IntN.{+ℤ-neg_ℤ_cancel, +ℤ_comm}
use Rattle.std.proofs.lemmas.Int.{quot-rem}
use Rattle.cp_goal.specs.Operations.{rest}

pub rest_is : (a b : ℤ) → int_rem a b ≡ rest a b
rest_is a b =
    sym (+ℤ-neg_ℤ_cancel (int_rem a b) (int_div a b *ℤ b))
    ∙ ap (λ z. z -ℤ int_div a b *ℤ b) (+ℤ_comm (int_rem a b) (int_div a b *ℤ b) ∙ quot-rem a b)
