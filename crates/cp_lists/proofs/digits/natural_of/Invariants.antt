use Rattle.std.proofs.Common.{◌≡◌, ◌-◌, drop, map}
use Rattle.std.specs.List.{list_all}
use Rattle.std.specs.Char.{is_ascii_digit}
use Rattle.std.specs.Int.Digits.{number_from_digits_after}
use Rattle.cp_goal.specs.Lists.{digits_value}
use Rattle.cp_lists.specs.Digits.{capped}
use Rattle.cp_lists.proofs.digits.natural_of.Given as goal

abbrev pub invariant-loop-digit : goal.invariant-loop-digit
invariant-loop-digit l = record {
  digits : list_all is_ascii_digit l.digits ≡ list_all is_ascii_digit (drop l.digit-index l.digits);
  value : capped (digits_value l.digits) ≡ capped (number_from_digits_after 10 l.value (map (λ d. d - 48) (drop l.digit-index l.digits)));
  counted : capped l.value ≡ l.value;
}
