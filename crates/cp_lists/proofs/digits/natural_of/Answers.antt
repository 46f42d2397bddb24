use Rattle.std.proofs.Common.{◌∙◌, sym, ap, arith}
use Rattle.std.proofs.lemmas.Bool.{eqb-false}
use Rattle.std.specs.List.{list_all}
use Rattle.std.specs.Char.{is_ascii_digit}
use Rattle.cp_lists.specs.Digits.{capped}
use Rattle.cp_lists.proofs.lemmas.Numbers.{all_next, value_next, natural_some, capped-capped}
use Rattle.cp_lists.proofs.digits.natural_of.Goals as goal

pub loop-digit-preserved : goal.loop-digit-preserved
loop-digit-preserved c =
    let ds = c.args.digits.now in
    let i = c.loop-digit.digit-index in
    record {
      digits = all_next ds i c.digit-item.result c.loop-digit-test.true c.digit-item.is (list_all is_ascii_digit ds) c.loop-digit.invariant.digits (sym c.is_ascii_digit.ensures.value ∙ c.if-not-is_ascii_digit.false);
      value = value_next ds i c.digit-item.result c.loop-digit-test.true c.digit-item.is _ c.loop-digit.value c.with_digit-value.result c.loop-digit.invariant.value c.with_digit-value.ensures;
      counted = ap capped c.with_digit-value.ensures ∙ capped-capped _ ∙ sym c.with_digit-value.ensures;
    }

pub returns : goal.returns
returns c =
    natural_some c.args.digits.now c.loop-digit.digit-index c.loop-digit.value
    (let ne = eqb-false _ _ (sym c.is_empty.ensures ∙ c.if-is_empty.false) in omega arith)
    c.loop-digit-test.false c.loop-digit.invariant.digits c.loop-digit.invariant.value c.loop-digit.invariant.counted
