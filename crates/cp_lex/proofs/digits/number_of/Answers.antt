use Rattle.std.proofs.Common.{◌≡◌, ◌*◌, arith, take, ap}
use Rattle.std.specs.Str.Parse.{digits_value}
use Rattle.std.proofs.lemmas.Int.Digits.{digits_value_more}
use Rattle.cp_lex.proofs.lemmas.NumberLaws.{too_large, small_enough}
use Rattle.cp_lex.proofs.digits.number_of.Goals as goal

pub returns-then-base-value : goal.returns-then-base-value
returns-then-base-value c =
    let large = too_large c.args.base c.args.digits.now c.loop-digit.digit-index c.loop-digit.value c.requires c.loop-digit-test.true c.loop-digit.invariant.0 c.if-base-value.true in
    omega arith

pub loop-digit-preserved : goal.loop-digit-preserved
loop-digit-preserved c =
    let base = c.args.base in
    let so_far : c.loop-digit.value * base ≡ digits_value base (take c.loop-digit.digit-index c.args.digits.now) * base = ap (λ v. v * base) c.loop-digit.invariant.0 in
    let more = digits_value_more base c.args.digits.now c.loop-digit.digit-index c.loop-digit-test.true in
    let small = small_enough base c.loop-digit.value c.if-base-value.false in
    (omega arith, omega arith)
