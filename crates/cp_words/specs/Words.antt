-- Words of a command line: positional words, options and numbers. The rules are this project's own.
use Rattle.std.specs.Prelude.{ℕ, zero, suc, ◌==◌, ◌&&◌, ◌||◌, Bool, true, false, not, nat_lt, nat_le, nat_eq, if◌then◌else◌, List, [], ◌∷◌, length, drop, count_by, find, Option, Some, None, unwrap_or, option_and_then}
use Rattle.std.specs.List.{starts_with, list_all, list_any}
use Rattle.std.specs.Char.{is_ascii_digit}
use Rattle.std.specs.Str.{bytes_eq}
use Rattle.std.specs.Str.Parse.{digits_value}

-- not empty, and not beginning with `-`
abbrev pub is_positional : List ℕ → Bool
is_positional [] = false
is_positional (c ∷ word) = not (c == 45)

-- digits that do not begin with `0`, or `0` alone
abbrev pub is_numeral : List ℕ → Bool
is_numeral [] = false
is_numeral (c ∷ more) = list_all is_ascii_digit (c ∷ more) && (not (c == 48) || length more == 0)

-- the number that a text writes, if it writes one in the range
abbrev pub number_in : (least most : ℕ) → List ℕ → Option ℕ
number_in least most text =
    if is_numeral text && (nat_le least (digits_value 10 text) && nat_le (digits_value 10 text) most)
    then Some (digits_value 10 text) else None

-- an option with a number, written in one word
pub record NumberOption : Type 0 where
  -- how the word begins, with the name and `=`; the number follows
  pub beginning : List ℕ
  pub least : ℕ
  pub most : ℕ
  -- the word that stands for the option where the words have none
  pub default : List ℕ

abbrev pub is_of : NumberOption → List ℕ → Bool
is_of o word = starts_with nat_eq word o.beginning

-- the number of an option's word
abbrev pub number_by : NumberOption → List ℕ → Option ℕ
number_by o word = if is_of o word then number_in o.least o.most (drop (length o.beginning) word) else None

-- the word that gives an option, which may stand once
abbrev pub word_of : NumberOption → List (List ℕ) → Option (List ℕ)
word_of o words = if nat_lt 1 (count_by (is_of o) words) then None else Some (unwrap_or (find (is_of o) words) o.default)

-- the number that the words give an option
abbrev pub number_of : NumberOption → List (List ℕ) → Option ℕ
number_of o words = option_and_then (number_by o) (word_of o words)

-- the only positional word
abbrev pub positional_of : List (List ℕ) → Option (List ℕ)
positional_of words = if count_by is_positional words == 1 then find is_positional words else None

-- an option without a value, which is one word
abbrev pub is_flag : (flag word : List ℕ) → Bool
is_flag flag word = bytes_eq word flag

abbrev pub is_once : ℕ → Option Bool
is_once zero = Some false
is_once (suc zero) = Some true
is_once (suc (suc n)) = None

-- whether the words have this option, which may stand once
abbrev pub flag_of : (flag : List ℕ) → List (List ℕ) → Option Bool
flag_of flag words = is_once (count_by (is_flag flag) words)

-- each word is positional or one of these options
abbrev pub are_known : List NumberOption → (flags : List (List ℕ)) → List (List ℕ) → Bool
are_known options flags words =
    list_all (λ word. is_positional word || list_any (λ o. is_of o word) options || list_any (λ f. is_flag f word) flags) words
