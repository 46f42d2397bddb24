-- What the steps that read a quoted text promise each other.
use Rattle.std.specs.Prelude.{ℕ, ◌+◌, ◌<◌, ◌≤◌, Bool, true, false, List, ◌++◌, Option, Some, None}
use Rattle.cp_lex.specs.declared.escape.Escape.{Escape}
use Rattle.cp_lex.specs.declared.escape.Escape.TheVariants.{Bad, Character, Newline}
use Rattle.cp_lex.specs.declared.quoted.Sign.{Sign}
use Rattle.cp_lex.specs.declared.quoted.Sign.TheVariants as signs
use Rattle.cp_lex.specs.declared.quoted.Quoted.{Quoted}
use Rattle.cp_lex.specs.declared.quoted.Quoted.TheVariants.{Closed, BadAt, Unended}

abbrev pub closes : Sign → Bool
closes signs.Closes = true
closes signs.Misspelt = false
closes (signs.Byte c) = false
closes (signs.Character c) = false
closes signs.Nothing = false

-- the first place at which a backslash begins no escape, where one more sign stands at a place
abbrev pub first_bad : Option ℕ → Sign → ℕ → Option ℕ
first_bad bad signs.Misspelt at = elim bad [ None ↦ Some at | Some place ↦ Some place ]
first_bad bad signs.Closes at = bad
first_bad bad (signs.Byte c) at = bad
first_bad bad (signs.Character c) at = bad
first_bad bad signs.Nothing at = bad

-- a quoted text behind so many bytes that stand for these, among them maybe a backslash that begins no escape
abbrev pub finished : List ℕ → Option ℕ → ℕ → Quoted → Quoted
finished bytes bad at Unended = Unended
finished bytes None at (Closed more n) = Closed (bytes ++ more) (at + n)
finished bytes None at (BadAt n) = BadAt (at + n)
finished bytes (Some place) at (Closed more n) = BadAt place
finished bytes (Some place) at (BadAt n) = BadAt place

-- what an escape or a quoted text takes is there
abbrev pub IsEscapeWithin : Escape → ℕ → Type 0
IsEscapeWithin (Bad n) len = n ≤ len
IsEscapeWithin (Character c n) len = n ≤ len
IsEscapeWithin Newline len = 1 ≤ len

abbrev pub IsQuotedWithin : Quoted → ℕ → Type 0
IsQuotedWithin (Closed bytes n) len = n ≤ len
IsQuotedWithin (BadAt n) len = n < len
IsQuotedWithin Unended len = Unit {0}
