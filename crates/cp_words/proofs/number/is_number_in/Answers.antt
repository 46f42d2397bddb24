use Rattle.std.proofs.Common.{rules, arith}
use Rattle.std.proofs.Common.{◌≡◌, true}
use Rattle.cp_words.specs.Words.{is_numeral}
use Rattle.cp_words.proofs.Numerals.{too_big, numeral_utf8}
use Rattle.cp_words.proofs.number.is_number_in.Goals as goal

pub returns-in-Err-parse : goal.returns-in-Err-parse
returns-in-Err-parse c =
    let numeral : is_numeral c.args.text.now ≡ true = search rules in
    too_big c.args.least c.args.most c.args.text.now (omega arith) numeral (rw c.in-Ok.ensures.cases.0 at c.in-Err-parse.ensures.value.0)

pub returns-in-Err : goal.returns-in-Err
returns-in-Err c =
    let numeral : is_numeral c.args.text.now ≡ true = search rules in
    absurd (c.in-Err.ensures.cases.0 (numeral_utf8 c.args.text.now numeral))
