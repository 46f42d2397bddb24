use Rattle.std.proofs.Common.{◌∙◌, ap, take}
use Rattle.std.specs.Char.{is_digit}
use Rattle.std.specs.Str.Parse.{digits_value}
use Rattle.cp_char.specs.Characters.{run}
use Rattle.cp_lex.proofs.lemmas.NumberLaws.{capped, radix-decimal, radix-integer}
use Rattle.cp_lex.proofs.number.radix.Goals as goal

pub returns-then-len-eq0 : goal.returns-then-len-eq0
returns-then-len-eq0 c =
    let counted = c.digits_len-len.ensures.value ∙ ap (λ t. run (λ d. is_digit d c.args.base) t) c.split_at.ensures.back in
    c.decimal.ensures ∙ radix-decimal c.args.before c.args.base c.args.text.now c.digits_len-len.result counted c.if-len-eq0.true

pub returns-else-len-eq0 : goal.returns-else-len-eq0
returns-else-len-eq0 c =
    let counted = c.digits_len-len.ensures.value ∙ ap (λ t. run (λ d. is_digit d c.args.base) t) c.split_at.ensures.back in
    let digits = c.split_at-else-len-eq0.ensures.front ∙ ap (λ t. take c.digits_len-len.result t) c.split_at.ensures.back in
    let value = c.number_of.ensures ∙ ap (λ t. capped (digits_value c.args.base t)) digits in
    c.integer.ensures ∙ radix-integer c.args.before c.args.base c.args.text.now c.digits_len-len.result counted c.if-len-eq0.false c.number_of.result value
