-- The operations of arithmetic expressions (ISO/IEC 13211-1, 9.1, 9.3 and 9.4), with `min`, `max`, on whole numbers that 64
-- bits hold. Each gives its exact value, or a fault.
use Rattle.std.specs.Prelude.{ℕ, zero, suc, ◌^◌, nat_lt, Bool, true, false, ◌||◌, if◌then◌else◌, List, Option, Some, None, Result, Ok, Err, ℤ, pos, negsuc, neg_ℤ, ◌+ℤ◌, ◌-ℤ◌, ◌*ℤ◌, unsigned_abs, int_div, codes}
use Rattle.std.specs.Int.{w64, int_min, int_max, int_signum, int_bit_and, int_bit_or, int_bit_not, int_shr, is_negative}
use Rattle.std.specs.Str.{bytes_eq}
use Rattle.cp_goal.specs.declared.fault.Fault.{Fault}
use Rattle.cp_goal.specs.declared.fault.Fault.TheVariants.{ZeroDivisor, IntOverflow, Shift}
use Rattle.cp_goal.specs.declared.unary.Unary.{Unary}
use Rattle.cp_goal.specs.declared.unary.Unary.TheVariants.{Minus, Plus, Abs, Sign, Complement}
use Rattle.cp_goal.specs.declared.binary.Binary.{Binary}
use Rattle.cp_goal.specs.declared.binary.Binary.TheVariants.{Add, Subtract, Multiply, Divide, Rem, Mod, Min, Max, And, Or, ShiftLeft, ShiftRight}

-- ---- names

abbrev pub unary_named : List ℕ → Option Unary
unary_named name =
    if bytes_eq name (codes "-") then Some Minus
    else if bytes_eq name (codes "+") then Some Plus
    else if bytes_eq name (codes "abs") then Some Abs
    else if bytes_eq name (codes "sign") then Some Sign
    else if bytes_eq name (codes "\\") then Some Complement
    else None

abbrev pub binary_named_by_order_or_bits : List ℕ → Option Binary
binary_named_by_order_or_bits name =
    if bytes_eq name (codes "min") then Some Min
    else if bytes_eq name (codes "max") then Some Max
    else if bytes_eq name (codes "/\\") then Some And
    else if bytes_eq name (codes "\\/") then Some Or
    else if bytes_eq name (codes "<<") then Some ShiftLeft
    else if bytes_eq name (codes ">>") then Some ShiftRight
    else None

abbrev pub binary_named : List ℕ → Option Binary
binary_named name =
    if bytes_eq name (codes "+") then Some Add
    else if bytes_eq name (codes "-") then Some Subtract
    else if bytes_eq name (codes "*") then Some Multiply
    else if bytes_eq name (codes "//") then Some Divide
    else if bytes_eq name (codes "rem") then Some Rem
    else if bytes_eq name (codes "mod") then Some Mod
    else binary_named_by_order_or_bits name

-- ---- values

-- the number is one of 64 bits
abbrev pub fits : ℤ → Bool
fits (pos n) = nat_lt n (2 ^ 63)
fits (negsuc n) = nat_lt n (2 ^ 63)

abbrev pub within : ℤ → Result ℤ Fault
within z = if fits z then Ok z else Err IntOverflow

abbrev pub or_overflow : Option ℤ → Result ℤ Fault
or_overflow (Some z) = Ok z
or_overflow None = Err IntOverflow

abbrev pub is_zero : ℤ → Bool
is_zero (pos zero) = true
is_zero (pos (suc n)) = false
is_zero (negsuc n) = false

-- the quotient towards zero
abbrev pub quotient : ℤ → ℤ → Result ℤ Fault
quotient a b = if is_zero b then Err ZeroDivisor else within (int_div a b)

-- what the quotient towards zero leaves
abbrev pub rest : ℤ → ℤ → ℤ
rest a b = a -ℤ int_div a b *ℤ b

abbrev pub remainder : ℤ → ℤ → Result ℤ Fault
remainder a b = if is_zero b then Err ZeroDivisor else Ok (rest a b)

abbrev pub same : Bool → Bool → Bool
same true b = b
same false true = false
same false false = true

-- the number that is 0 or has the sign of b, and differs from r by 0 or b
abbrev pub signed_as : ℤ → ℤ → ℤ
signed_as b r = if is_zero r || same (is_negative r) (is_negative b) then r else r +ℤ b

-- the remainder that is 0 or has the sign of b
abbrev pub modulo : ℤ → ℤ → Result ℤ Fault
modulo a b = if is_zero b then Err ZeroDivisor else Ok (signed_as b (rest a b))

-- how many places to shift by: 0 to 63
abbrev pub places : ℤ → Result ℕ Fault
places (pos n) = if nat_lt n 64 then Ok n else Err (Shift (pos n))
places (negsuc n) = Err (Shift (negsuc n))

abbrev pub shift : (ℤ → ℕ → Result ℤ Fault) → ℤ → Result ℕ Fault → Result ℤ Fault
shift by a (Ok n) = by a n
shift by a (Err e) = Err e

-- a times 2 to the b
abbrev pub shifted_left : ℤ → ℤ → Result ℤ Fault
shifted_left a b = shift (λ a n. within (a *ℤ pos (2 ^ n))) a (places b)

-- a divided by 2 to the b, towards minus infinity
abbrev pub shifted_right : ℤ → ℤ → Result ℤ Fault
shifted_right a b = shift (λ a n. Ok (int_shr a n)) a (places b)

abbrev pub unary_value : Unary → ℤ → Result ℤ Fault
unary_value Minus a = within (neg_ℤ a)
unary_value Plus a = Ok a
unary_value Abs a = within (pos (unsigned_abs a))
unary_value Sign a = Ok (int_signum a)
unary_value Complement a = Ok (int_bit_not w64 a)

-- the bits are those of two's complement
abbrev pub binary_value : Binary → ℤ → ℤ → Result ℤ Fault
binary_value Add a b = within (a +ℤ b)
binary_value Subtract a b = within (a -ℤ b)
binary_value Multiply a b = within (a *ℤ b)
binary_value Divide a b = quotient a b
binary_value Rem a b = remainder a b
binary_value Mod a b = modulo a b
binary_value Min a b = Ok (int_min a b)
binary_value Max a b = Ok (int_max a b)
binary_value And a b = Ok (int_bit_and w64 a b)
binary_value Or a b = Ok (int_bit_or w64 a b)
binary_value ShiftLeft a b = shifted_left a b
binary_value ShiftRight a b = shifted_right a b
